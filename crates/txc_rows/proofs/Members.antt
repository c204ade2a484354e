-- Tests, and what stands in a list: promises say so by std's `Contains`, inductions by `IsIn`, which is the same.
use Rattle.std.proofs.Common.{◌≡◌, inl, inr, ℕ, zero, suc, ◌<◌, List, [], ◌∷◌, map, filter, ◌≤◌, length, get_or, Bool, true, false, true≢false, cond, not, ◌&&◌, refl, sym, ap, ◌∙◌, arith}
use Rattle.std.proofs.Math.Bool.{and_comm}
use Rattle.std.proofs.lemmas.List.Elements.{recursion_from_All, filter_passes}
use Rattle.std.proofs.lemmas.List.Sums.{length-filter, count_by-le-length}
use Rattle.std.specs.List.{AllByRecursion, Contains}
use Rattle.sqlite_trees.proofs.ListLemmas.{all_of, filter_same}
pub use Rattle.txc_tags.proofs.All.{all_in}
pub use Rattle.txc_tags.proofs.Offered.{bool_cases, both_true, and_true, IsIn, any_there, any_found, in_filter, from_filter, in_left, in_right, in_either}

pub not_true_is : (b : Bool) → not b ≡ true → b ≡ false
not_true_is true e = absurd (true≢false (sym e))
not_true_is false e = refl

pub is_in : {X : Type 0} (xs : List X) (x : X) → Contains xs x → IsIn x xs
is_in {X} xs x h = at xs h.0 h.1 h.2
  where
    at : (ys : List X) (k : ℕ) → k < length ys → get_or ys k x ≡ x → IsIn x ys
    at [] k low is = absurd (omega arith)
    at (y ∷ ys) zero low is = inl (sym is)
    at (y ∷ ys) (suc k) low is = inr (at ys k (omega arith) is)

pub contains_it : {X : Type 0} (xs : List X) (x : X) → IsIn x xs → Contains xs x
contains_it [] x h = absurd h
contains_it (y ∷ ys) x (inl same) = (zero, omega arith, sym same)
contains_it (y ∷ ys) x (inr later) = let it = contains_it ys x later in (suc it.0, omega (arith, it.1), it.2)

pub in_map : {X Y : Type 0} (f : X → Y) (x : X) (xs : List X) → IsIn x xs → IsIn (f x) (map f xs)
in_map f x [] h = absurd h
in_map f x (y ∷ ys) (inl same) = inl (ap f same)
in_map f x (y ∷ ys) (inr later) = inr (in_map f x ys later)

pub from_map : {X Y : Type 0} (f : X → Y) (y : Y) (xs : List X) → IsIn y (map f xs) → (x : X) × IsIn x xs × (y ≡ f x)
from_map f y [] h = absurd h
from_map f y (x ∷ xs) (inl same) = (x, inl refl, same)
from_map f y (x ∷ xs) (inr later) = let it = from_map f y xs later in (it.0, inr it.1, it.2)

pub few_left : {X : Type 0} (p : X → Bool) (xs : List X) → length (filter p xs) ≤ length xs
few_left p xs = omega (arith, length-filter p xs, count_by-le-length p xs)

pub none_of : {X : Type 0} (p : X → Bool) (xs : List X) → filter p xs ≡ [] → AllByRecursion (λ x. p x ≡ false) xs
none_of p [] e = tt
none_of p (x ∷ xs) e = elim (bool_cases (p x)) [ inl hit ↦ absurd (let f = rw hit at e in cc) | inr off ↦ (off, none_of p xs (rw off at e)) ]

pub passing : {X : Type 0} (p : X → Bool) (xs : List X) → AllByRecursion (λ x. p x ≡ true) (filter p xs)
passing p xs = recursion_from_All _ (filter p xs) (filter_passes p xs)

-- what a filter leaves of what another left
pub filtered_both : {X : Type 0} (p q : X → Bool) (xs : List X) → filter p (filter q xs) ≡ filter (λ x. q x && p x) xs
filtered_both p q [] = refl
filtered_both p q (x ∷ xs) = elim (bool_cases (q x)) [ inl e ↦ rw e (ap (λ ys. cond (p x) (x ∷ ys) ys) (filtered_both p q xs)) | inr e ↦ rw e (filtered_both p q xs) ]

pub filters_turned : {X : Type 0} (p q : X → Bool) (xs : List X) → filter p (filter q xs) ≡ filter q (filter p xs)
filters_turned p q xs = filtered_both p q xs ∙ filter_same _ _ xs (all_of _ (λ x. and_comm (q x) (p x)) xs) ∙ sym (filtered_both q p xs)
