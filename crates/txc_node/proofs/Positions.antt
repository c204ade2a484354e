-- Where the first item stands that passes a test.
use Rattle.std.proofs.Common.{◌≡◌, ℕ, ◌+◌, ◌<◌, Bool, true, false, ltb, cond, suc, zero, get_or, drop, not, ◌-◌, ◌≤◌, List, [], ◌∷◌, length, Option, Some, None, refl, ap, ◌∙◌, arith}
use Rattle.std.specs.List.{position, position_or_len}
use Rattle.std.proofs.lemmas.List.{get_or-drop, length-drop}
use Rattle.std.proofs.lemmas.Bool.Decides.{nat_tests}

module _ {X : Type 0} (p : X → Bool) where
  later : (k n i : ℕ) → cond (ltb k n) (Some k) None ≡ Some i → cond (ltb (1 + k) (suc n)) (Some (1 + k)) None ≡ Some (i + 1)
  later k n i h = grind (arith, nat_tests)

  never : (k n : ℕ) → ◌≡◌ {A = Option ℕ} (cond (ltb k n) (Some k) None) None → ◌≡◌ {A = Option ℕ} (cond (ltb (1 + k) (suc n)) (Some (1 + k)) None) None
  never k n h = grind (arith, nat_tests)

  pub position_later : (x : X) (xs : List X) (i : ℕ) → p x ≡ false → position p xs ≡ Some i → position p (x ∷ xs) ≡ Some (i + 1)
  position_later x xs i h k = rw h (later (position_or_len p xs) (length xs) i k)

  pub position_never : (x : X) (xs : List X) → p x ≡ false → position p xs ≡ None → position p (x ∷ xs) ≡ None
  position_never x xs h k = rw h (never (position_or_len p xs) (length xs) k)

  here : (n m : ℕ) → n < m → cond (ltb n m) (Some n) None ≡ Some n
  here n m l = grind (arith, nat_tests)

  past : (m : ℕ) → ◌≡◌ {A = Option ℕ} (cond (ltb m m) (Some m) None) None
  past m = grind (arith, nat_tests)

  counted_here : (xs : List X) (n : ℕ) (d : X) → n < length xs → ((k : ℕ) → k < n → p (get_or xs k d) ≡ false) → p (get_or xs n d) ≡ true → position_or_len p xs ≡ n
  counted_here [] n d l h t = absurd (omega arith)
  counted_here (x ∷ xs) zero d l h t = ap (λ b. cond (not b) (1 + position_or_len p xs) 0) t
  counted_here (x ∷ xs) (suc n) d l h t =
      let rest = counted_here xs n d (omega arith) (λ k below. h (suc k) (omega arith)) t in
      let more : 1 + position_or_len p xs ≡ suc n = omega (arith, rest) in
      ap (λ b. cond (not b) (1 + position_or_len p xs) 0) (h 0 (omega arith)) ∙ more

  counted_all : (xs : List X) → ((k : ℕ) → k < length xs → (d : X) → p (get_or xs k d) ≡ false) → position_or_len p xs ≡ length xs
  counted_all [] h = refl
  counted_all (x ∷ xs) h =
      let rest = counted_all xs (λ k below d. h (suc k) (omega arith) d) in
      let more : 1 + position_or_len p xs ≡ suc (length xs) = omega (arith, rest) in
      ap (λ b. cond (not b) (1 + position_or_len p xs) 0) (h 0 (omega arith) x) ∙ more

  -- the first that passes from a place on
  pub position_from_here : (xs : List X) (from i : ℕ) (d : X) → from ≤ i → i < length xs → ((k : ℕ) → k < i → from ≤ k → (e : X) → p (get_or xs k e) ≡ false) → p (get_or xs i d) ≡ true
      → position p (drop from xs) ≡ Some (i - from)
  position_from_here xs from i d a l h t =
      let n : position_or_len p (drop from xs) ≡ i - from =
      counted_here (drop from xs) (i - from) d (omega (arith, length-drop from xs))
      (λ k below. ap p (get_or-drop from xs k d) ∙ h (from + k) (omega arith) (omega arith) d)
      (ap p (get_or-drop from xs (i - from) d ∙ ap (λ k. get_or xs k d) (omega arith)) ∙ t) in
      ap (λ m. cond (ltb m (length (drop from xs))) (Some m) None) n ∙ here (i - from) (length (drop from xs)) (omega (arith, length-drop from xs))

  pub position_from_none : (xs : List X) (from : ℕ) → ((k : ℕ) → k < length xs → from ≤ k → (e : X) → p (get_or xs k e) ≡ false) → position p (drop from xs) ≡ None
  position_from_none xs from h =
      let n : position_or_len p (drop from xs) ≡ length (drop from xs) =
      counted_all (drop from xs) (λ k below d. ap p (get_or-drop from xs k d) ∙ h (from + k) (omega (arith, length-drop from xs)) (omega arith) d) in
      ap (λ m. cond (ltb m (length (drop from xs))) (Some m) None) n ∙ past (length (drop from xs))
