-- A table of what bytes stand for as hexadecimal digits.
use Rattle.std.proofs.Common.{◌≡◌, ◌&&◌, ◌||◌, ℕ, ◌+◌, ◌<◌, Bool, true, false, suc, zero, ◌⊎◌, inl, inr, List, [], ◌∷◌, ◌++◌, replicate, length, get_or, nat_lt, nat_eq, arith, refl, subst, sym}
use Rattle.std.proofs.lemmas.Bool.Decides.{nat_tests}
use Rattle.txc_node.specs.Texts.{digit_of}

-- the byte is no digit
abbrev pub is_other : ℕ → Bool
is_other d = nat_lt d 48 || ((nat_lt 57 d && nat_lt d 97) || nat_lt 102 d)

-- the value is that of the digit, or the byte is no digit and the value is 16
abbrev pub is_value : ℕ → ℕ → Bool
is_value d v = (nat_lt v 16 && nat_eq (digit_of v) d) || (nat_eq v 16 && is_other d)

-- the values are those of this byte and the ones after it
abbrev pub are_values : ℕ → List ℕ → Bool
are_values d [] = true
are_values d (v ∷ vs) = is_value d v && are_values (suc d) vs

both : (a b : Bool) → (a && b) ≡ true → (a ≡ true) × (b ≡ true)
both true true h = (refl, refl)
both true false h = cc
both false b h = cc

either : (a b : Bool) → (a || b) ≡ true → (a ≡ true) ⊎ (b ≡ true)
either true b h = inl refl
either false b h = inr h

value_at : (d i x : ℕ) (vs : List ℕ) → are_values d vs ≡ true → i < length vs → is_value (d + i) (get_or vs i x) ≡ true
value_at d i x [] h l = absurd (omega arith)
value_at d zero x (v ∷ vs) h l = let same : d + 0 ≡ d = omega arith in subst (λ k. is_value k v ≡ true) (sym same) (both (is_value d v) (are_values (suc d) vs) h).0
value_at d (suc i) x (v ∷ vs) h l =
    let same : suc d + i ≡ d + suc i = omega arith in
    subst (λ k. is_value k (get_or vs i x) ≡ true) same (value_at (suc d) i x vs (both (is_value d v) (are_values (suc d) vs) h).1 (omega arith))

is_digit : (d v : ℕ) → is_value d v ≡ true → (v ≡ 16 → ⊥) → (v < 16) × (digit_of v ≡ d)
is_digit d v h some =
    let go : ((nat_lt v 16 && nat_eq (digit_of v) d) ≡ true) ⊎ ((nat_eq v 16 && is_other d) ≡ true) → (v < 16) × (digit_of v ≡ d) = λ k. elim k [
      | inl k ↦ (let b = both (nat_lt v 16) (nat_eq (digit_of v) d) k in (grind (arith, nat_tests, b.0), grind (arith, nat_tests, b.1)))
      | inr k ↦ (let b = both (nat_eq v 16) (is_other d) k in absurd (some (grind (arith, nat_tests, b.0))))
    ] in
    go (either (nat_lt v 16 && nat_eq (digit_of v) d) (nat_eq v 16 && is_other d) h)

other_digit : (n : ℕ) → n < 16 → is_other (digit_of n) ≡ true → ⊥
other_digit n l h = grind (arith, nat_tests)

is_none : (d v n : ℕ) → is_value d v ≡ true → v ≡ 16 → n < 16 → digit_of n ≡ d → ⊥
is_none d v n h none l e =
    let go : ((nat_lt v 16 && nat_eq (digit_of v) d) ≡ true) ⊎ ((nat_eq v 16 && is_other d) ≡ true) → ⊥ = λ k. elim k [
      | inl k ↦ (let b = both (nat_lt v 16) (nat_eq (digit_of v) d) k in grind (arith, nat_tests, b.0))
      | inr k ↦ (let b = both (nat_eq v 16) (is_other d) k in other_digit n l (subst (λ k. is_other k ≡ true) (sym e) b.1))
    ] in
    go (either (nat_lt v 16 && nat_eq (digit_of v) d) (nat_eq v 16 && is_other d) h)

value_of : (vs : List ℕ) (d i x : ℕ) → are_values 0 vs ≡ true → length vs ≡ 256 → d < 256 → i ≡ d → is_value d (get_or vs i x) ≡ true
value_of vs d i x h n l e = let same : 0 + i ≡ d = omega arith in subst (λ k. is_value k (get_or vs i x) ≡ true) same (value_at 0 i x vs h (omega arith))

-- the table's entry for a byte is the digit's value
pub digit_found : (vs : List ℕ) (d i x : ℕ) → are_values 0 vs ≡ true → length vs ≡ 256 → d < 256 → i ≡ d → (get_or vs i x ≡ 16 → ⊥) → (get_or vs i x < 16) × (digit_of (get_or vs i x) ≡ d)
digit_found vs d i x h n l e some = is_digit d (get_or vs i x) (value_of vs d i x h n l e) some

-- or there is no such digit
pub no_digit : (vs : List ℕ) (d i x m : ℕ) → are_values 0 vs ≡ true → length vs ≡ 256 → d < 256 → i ≡ d → get_or vs i x ≡ 16 → m < 16 → digit_of m ≡ d → ⊥
no_digit vs d i x m h n l e none few is = is_none d (get_or vs i x) m (value_of vs d i x h n l e) none few is

-- the table: 48 bytes before the decimal digits, 39 between them and the letters, and 153 after those
abbrev pub digit_table : List ℕ
digit_table =
    replicate 48 16 ++ 0 ∷ 1 ∷ 2 ∷ 3 ∷ 4 ∷ 5 ∷ 6 ∷ 7 ∷ 8 ∷ 9 ∷ (replicate 39 16 ++ 10 ∷ 11 ∷ 12 ∷ 13 ∷ 14 ∷ 15 ∷ replicate 153 16)
