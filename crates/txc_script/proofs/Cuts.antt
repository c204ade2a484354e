-- Where a byte first stands in others.
use Rattle.std.proofs.Common.{◌≡◌, ◌≢◌, ℕ, Result, Ok, Err, OnOk, is_ok, if◌then◌else◌, ◌+◌, ◌-◌, ◌<◌, ◌≤◌, Bool, true, false, not, eqb, suc, cond, List, [], ◌∷◌, ◌++◌, length, take, drop, get_or, Some, None, refl, sym, ap, ◌∙◌, arith}
use Rattle.std.specs.List.{All, position, prefix_len}
use Rattle.std.proofs.lemmas.Bool.Decides.{nat_tests, Decides-eqb}
use Rattle.std.proofs.lemmas.List.Quantifiers.{position-Some}
use Rattle.std.proofs.lemmas.List.{take-append-drop, drop_more, length-take, get_or-take, take_rest, length-append, take_all}
use Rattle.std.proofs.Math.Seq.{take-append-add}
use Rattle.std.proofs.lemmas.List.Elements.{All-cons}
use Rattle.txc_node.proofs.Inserts.{at_end}

is_not : (a b : ℕ) → eqb a b ≡ false → a ≢ b
is_not a b h e = grind (arith, nat_tests)

-- the bytes before it, and those after it
pub record CutsAt (c : ℕ) (xs before after : List ℕ) : Type 0 where
  pub joined : xs ≡ before ++ c ∷ after
  pub not_before : All (λ b. b ≢ c) before

pub cut_at : (c : ℕ) (xs : List ℕ) (i : ℕ) → position (λ b. eqb b c) xs ≡ Some i → CutsAt c xs (take i xs) (take (length xs - (i + 1)) (drop (i + 1) xs))
cut_at c xs i h =
    let k = position-Some (λ b. eqb b c) xs i 0 h in
    let here : get_or xs i 0 ≡ c = (Decides-eqb (get_or xs i 0) c).0 k.1 in
    let split : xs ≡ take i xs ++ c ∷ drop (i + 1) xs = sym (take-append-drop i xs) ∙ ap (λ (ys : List ℕ). take i xs ++ ys) (drop_more xs i 0 k.0 ∙ ap (λ b. b ∷ drop (i + 1) xs) here) in
    record {
      joined = split ∙ ap (λ (ys : List ℕ). take i xs ++ c ∷ ys) (sym (take_rest xs (i + 1)));
      not_before = λ j d l.
          let m : j < i = omega (arith, length-take i xs) in
          is_not _ _ (ap (λ b. eqb b c) (get_or-take i xs j d m) ∙ (position-Some (λ b. eqb b c) xs i d h).2 j m);
    }

nowhere : (p : ℕ → Bool) (es : List ℕ) → length es ≤ prefix_len (λ b. not (p b)) es → All (λ b. p b ≡ false) es
nowhere p [] h = λ k d l. absurd (omega arith)
nowhere p (e ∷ es) h =
    let rest = prefix_len (λ b. not (p b)) es in
    let go : (b : Bool) → p e ≡ b → suc (length es) ≤ cond (not b) (1 + rest) 0 → All (λ b. p b ≡ false) (e ∷ es) = λ b. elim b as (λ v. p e ≡ v → suc (length es) ≤ cond (not v) (1 + rest) 0 → All (λ b. p b ≡ false) (e ∷ es)) [ true ↦ (λ _ l. absurd (omega arith)) | false ↦ (λ k l. All-cons (λ b. p b ≡ false) e es k (nowhere p es (omega arith))) ] in
    go (p e) refl h

-- none is found
pub none_found : (p : ℕ → Bool) (xs : List ℕ) → position p xs ≡ None → All (λ b. p b ≡ false) xs
none_found p xs h = nowhere p xs (at_end (prefix_len (λ b. not (p b)) xs) (length xs) h)

pub no_cut : (c : ℕ) (xs : List ℕ) → position (λ b. eqb b c) xs ≡ None → All (λ b. b ≢ c) xs
no_cut c xs h = λ k d l. is_not _ c (none_found (λ b. eqb b c) xs h k d l)

-- ---- a line of which a prefix is kept

pub kept_all : (n : ℕ) (a b : List ℕ) → length a + length b ≤ n → a ++ b ≡ take n (a ++ b)
kept_all n a b h = sym (take_all n (a ++ b) (omega (arith, length-append a b)))

pub kept_prefix : (n k : ℕ) (a b : List ℕ) → length a ≤ n → k ≡ length a → a ++ take (n - k) b ≡ take n (a ++ b)
kept_prefix n k a b h e = ap (λ m. a ++ take (n - m) b) e ∙ sym (take-append-add a b (n - length a)) ∙ ap (λ m. take m (a ++ b)) (omega arith)

pub on_ok : {T E : Type 0} (r : Result T E) (new a b all : List ℕ) → new ≡ (if is_ok r then a else b) → a ≡ all → OnOk r (new ≡ all)
on_ok (Ok x) new a b all h e = h ∙ e
on_ok (Err x) new a b all h e = tt
