-- Numbers that stand twice, and numbers that do not.
use Rattle.std.proofs.Common.{◌≡◌, ◌≢◌, ℕ, zero, suc, ◌<◌, ◌≤◌, Bool, true, false, eqb, not, Option, Some, None, List, [], ◌∷◌, map, length, get_or, sym, refl, ap, ◌∙◌, subst, cond, arith, eq-eqb, true≢false}
use Rattle.std.specs.Prelude.{nat_lt}
use Rattle.std.specs.Option.{option_eq}
use Rattle.std.specs.List.{position, position_or_len, IsDistinct, AllPairs}
use Rattle.std.proofs.lemmas.List.Quantifiers.{position-Some}
use Rattle.std.proofs.lemmas.List.{get_or-map}
use Rattle.std.proofs.lemmas.List.{length-map}
use Rattle.std.proofs.lemmas.Bool.{eqb-true}
use Rattle.std.proofs.lemmas.Bool.Decides.{nat_tests, Decides-eqb}
use Rattle.std.proofs.lemmas.Map.Made.{IsDistinct-from_AllPairs}
use Rattle.txc_call_registry.specs.Objects.{HasTwice}

some_place : (p l : ℕ) → p < l → cond (nat_lt p l) (Some p) None ≡ Some p
some_place p l h = grind (arith, nat_tests)

module _ {B : Type 0} (p : B → Bool) where
  le_by_head : (x : B) (xs : List B) (i : ℕ) (b : Bool) → p x ≡ b → position_or_len p xs ≤ i → position_or_len p (x ∷ xs) ≤ suc i
  le_by_head x xs i true is le = rw is (omega arith)
  le_by_head x xs i false is le = rw is (omega arith)

  position_le : (xs : List B) (i : ℕ) (d : B) → i < length xs → p (get_or xs i d) ≡ true → position_or_len p xs ≤ i
  position_le [] i d inside here = absurd (omega arith)
  position_le (x ∷ xs) zero d inside here = rw here (omega arith)
  position_le (x ∷ xs) (suc i) d inside here = le_by_head x xs i (p x) refl (position_le xs i d (omega arith) here)

  -- where it passes and is not the first to do so, another comes before it
  pub earlier : (xs : List B) (i : ℕ) (d : B) → i < length xs → p (get_or xs i d) ≡ true → ¬ (position p xs ≡ Some i) → (j : ℕ) × (j < i) × (p (get_or xs j d) ≡ true)
  earlier xs i d inside here other =
      let j : ℕ = position_or_len p xs in
      let le : j ≤ i = position_le xs i d inside here in
      let at : position p xs ≡ Some j = some_place _ _ (omega arith) in
      let apart : j ≢ i = λ e. other (at ∙ ap (λ (n : ℕ). Some n) e) in
      (j, omega arith, (position-Some p xs j d at).1)

module _ {B : Type 0} (number : B → ℕ) where
  -- each object below i is the first of its number
  abbrev pub AllFirst : List B → ℕ → Type 0
  AllFirst xs i = (k : ℕ) (d : B) → k < i → k < length xs → position (λ b. eqb (number b) (number (get_or xs k d))) xs ≡ Some k

  pub twice_at : (xs : List B) (i : ℕ) (d : B) → i < length xs → ¬ (position (λ b. eqb (number b) (number (get_or xs i d))) xs ≡ Some i) → HasTwice (number (get_or xs i d)) (map number xs)
  twice_at xs i d inside other =
      let e = earlier (λ b. eqb (number b) (number (get_or xs i d))) xs i d inside (eq-eqb _ _ refl) other in
      let before = e.1 in
      let shorter : i < length (map number xs) = omega (arith, length-map xs number) in
      (e.0, i, e.1, shorter, get_or-map number xs e.0 d 0 (omega arith) ∙ eqb-true _ _ e.2, get_or-map number xs i d 0 inside)

  pub twice_here : (xs : List B) (i f : ℕ) (d : B) → i < length xs → d ≡ get_or xs i d → f ≡ number d → ¬ (position (λ b. eqb (number b) f) xs ≡ Some i) → HasTwice f (map number xs)
  twice_here xs i f d inside is_d is_f other =
      let same : f ≡ number (get_or xs i d) = is_f ∙ ap number is_d in
      subst (λ n. HasTwice n (map number xs)) (sym same) (twice_at xs i d inside (λ e. other (subst (λ n. position (λ b. eqb (number b) n) xs ≡ Some i) (sym same) e)))

  -- no two of them have one number
  apart : (xs : List B) (x : B) → AllFirst xs (length xs) → AllPairs (λ a b. a ≢ b) (map number xs)
  apart xs x all i j d before inside e =
      let jn : j < length xs = omega (arith, length-map xs number) in
      let same : number (get_or xs i x) ≡ number (get_or xs j x) = sym (get_or-map number xs i x d (omega arith)) ∙ e ∙ get_or-map number xs j x d jn in
      let no : eqb (number (get_or xs i x)) (number (get_or xs j x)) ≡ false = (position-Some (λ b. eqb (number b) (number (get_or xs j x))) xs j x (all j x jn jn)).2 i before in
      absurd (true≢false (sym (eq-eqb _ _ same) ∙ no))

  pub distinct_at : (xs : List B) → AllFirst xs (length xs) → IsDistinct eqb (map number xs)
  unfolding IsDistinct
  distinct_at [] all = tt
  distinct_at (x ∷ xs) all = IsDistinct-from_AllPairs Decides-eqb (map number (x ∷ xs)) (apart (x ∷ xs) x all)

module _ {T : Type 0} (same : T → T → Bool) where
  -- a test that finds them different
  pub told_apart : (o : Option T) (x : T) (b : Bool) → same x x ≡ true → b ≡ not (option_eq same o (Some x)) → b ≡ true → ¬ (o ≡ Some x)
  told_apart o x b self is so e = absurd (true≢false (sym so ∙ is ∙ ap (λ (p : Option T). not (option_eq same p (Some x))) e ∙ ap not self))
