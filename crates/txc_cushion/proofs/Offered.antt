-- What crates above may use of the proofs: what a filter keeps of a list.
use Rattle.std.proofs.Common.{◌≡◌, ◌∙◌, Bool, true, false, List, [], ◌∷◌, zero, suc, refl, ap, arith, Contains, filter}
use Rattle.std.specs.List.{list_any}
use Rattle.std.proofs.lemmas.List.Elements.{All-filter, All-contains, All-contains_itself, filter_passes, Contains-append_right}

module _ {X : Type 0} (p : X → Bool) where
  pub none_kept : (xs : List X) → list_any p xs ≡ false → filter p xs ≡ []
  none_kept [] none = refl
  none_kept (x ∷ xs) none = go (p x) refl (none_kept xs)
    where
      go : (b : Bool) → p x ≡ b → (list_any p xs ≡ false → filter p xs ≡ []) → filter p (x ∷ xs) ≡ []
      go true is next = let none' : true ≡ false = rw is at none in absurd (cc)
      go false is next = let none' : list_any p xs ≡ false = rw is at none in rw is (next none')

  pub some_kept : (xs : List X) → list_any p xs ≡ true → filter p xs ≡ [] → ⊥
  some_kept [] some none = absurd (cc)
  some_kept (x ∷ xs) some none = go (p x) refl (some_kept xs)
    where
      go : (b : Bool) → p x ≡ b → (list_any p xs ≡ true → filter p xs ≡ [] → ⊥) → ⊥
      go true is next = let none' : x ∷ filter p xs ≡ [] = rw is at none in absurd (cc)
      go false is next =
          let some' : list_any p xs ≡ true = rw is at some in
          let none' : filter p xs ≡ [] = rw is at none in
          next some' none'

  pub kept_was_there : (xs : List X) (x : X) → Contains (filter p xs) x → Contains xs x
  kept_was_there xs x there = All-contains (Contains xs) (filter p xs) x (All-filter p (Contains xs) xs (All-contains_itself xs)) there

  pub kept_passes : (xs : List X) (x : X) → Contains (filter p xs) x → p x ≡ true
  kept_passes xs x there = All-contains (λ y. p y ≡ true) (filter p xs) x (filter_passes p xs) there

  pub stays : (xs : List X) (x : X) → Contains xs x → p x ≡ true → Contains (filter p xs) x
  stays [] x (k, within, at) passes = absurd (omega (arith, within))
  stays (y ∷ ys) x (zero, within, at) passes =
      let same : y ≡ x = at in
      let here : p y ≡ true = ap p same ∙ passes in
      rw here (0, omega arith, same)
  stays (y ∷ ys) x (suc k, within, at) passes = go (p y) refl (stays ys x (k, omega (arith, within), at) passes)
    where
      go : (b : Bool) → p y ≡ b → Contains (filter p ys) x → Contains (filter p (y ∷ ys)) x
      go true is there = rw is (Contains-append_right (y ∷ []) (filter p ys) x there)
      go false is there = rw is there
