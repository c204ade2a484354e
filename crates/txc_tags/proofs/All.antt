-- What holds of each item of a list, by recursion over it.
use Rattle.std.proofs.Common.{◌≡◌, ℕ, zero, suc, List, [], ◌∷◌, ◌++◌, filter, take, Bool, true, false, cond, Option, Some, None, inl, inr, sym, subst}
use Rattle.std.specs.List.{AllByRecursion, find}
use Rattle.txc_tags.proofs.Lists.{IsIn}

module _ {X : Type 0} (P : X → Type 0) where
  pub all_in : (xs : List X) (x : X) → AllByRecursion P xs → IsIn x xs → P x
  all_in [] x all h = absurd h
  all_in (y ∷ ys) x all (inl same) = subst P (sym same) all.0
  all_in (y ∷ ys) x all (inr later) = all_in ys x all.1 later

  pub all_weaker : (Q : X → Type 0) → ((x : X) → P x → Q x) → (xs : List X) → AllByRecursion P xs → AllByRecursion Q xs
  all_weaker Q each [] all = tt
  all_weaker Q each (x ∷ xs) all = (each x all.0, all_weaker Q each xs all.1)

  pub all-append : (xs ys : List X) → AllByRecursion P xs → AllByRecursion P ys → AllByRecursion P (xs ++ ys)
  all-append [] ys one two = two
  all-append (x ∷ xs) ys one two = (one.0, all-append xs ys one.1 two)

  pub all_front : (xs ys : List X) → AllByRecursion P (xs ++ ys) → AllByRecursion P xs
  all_front [] ys all = tt
  all_front (x ∷ xs) ys all = (all.0, all_front xs ys all.1)

  pub all_back : (xs ys : List X) → AllByRecursion P (xs ++ ys) → AllByRecursion P ys
  all_back [] ys all = all
  all_back (x ∷ xs) ys all = all_back xs ys all.1

  pub all-take : (n : ℕ) (xs : List X) → AllByRecursion P xs → AllByRecursion P (take n xs)
  all-take zero xs all = tt
  all-take (suc n) [] all = tt
  all-take (suc n) (x ∷ xs) all = (all.0, all-take n xs all.1)

  pub all-filter : (p : X → Bool) (xs : List X) → AllByRecursion P xs → AllByRecursion P (filter p xs)
  all-filter p [] all = tt
  all-filter p (x ∷ xs) all = go (p x) (all-filter p xs all.1)
    where
      go : (b : Bool) → AllByRecursion P (filter p xs) → AllByRecursion P (cond b (x ∷ filter p xs) (filter p xs))
      go true rest = (all.0, rest)
      go false rest = rest

  pub all_find : (p : X → Bool) (xs : List X) (x : X) → AllByRecursion P xs → find p xs ≡ Some x → P x
  all_find p [] x all is = absurd (cc is)
  all_find p (y ∷ xs) x all is = go (p y) is (all_find p xs x all.1)
    where
      go : (b : Bool) → cond b (Some y) (find p xs) ≡ Some x → (find p xs ≡ Some x → P x) → P x
      go true here rest = subst P (cc here) all.0
      go false there rest = rest there
