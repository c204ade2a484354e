-- The order of places: it is that of the list however the versions stand in the tables.
use Rattle.std.proofs.Common.{◌≡◌, ◌≢◌, inl, inr, ℕ, ◌<◌, ◌≤◌, List, [], ◌∷◌, ◌++◌, map, filter, Bool, true, false, cond, not, nat_lt, refl, sym, ap, ◌∙◌, arith}
use borrow.Author.Tests.{ltb-true, ltb-false, lt-ltb, le-ltb}
use Rattle.std.proofs.lemmas.Bool.Decides.{nat_tests}
use Rattle.std.specs.List.{AllByRecursion}
use Rattle.std.specs.List.Sorted.{IsPermutation}
use Rattle.std.proofs.lemmas.List.Sorted.{IsPermutation-refl, IsPermutation-trans, IsPermutation-cons, IsPermutation-middle}
use Rattle.std.proofs.lemmas.Bool.{lt-ltb, ltb-false}
use Rattle.sqlite.specs.Tree.{IsAscending}
use Rattle.sqlite_trees.proofs.ListLemmas.{along_permutation, all_weaker, all-permutation, all-filter}
use Rattle.txc_rows.specs.declared.placed.Placed.{Placed}
use Rattle.txc_rows.proofs.Members.{bool_cases}
use Rattle.txc_rows.specs.Placed.{put_at_place, by_place, HaveOwnPlaces, AreBelow}

-- ---- a relation of each two, in whichever order, holds of them in any order

pub pairs_permuted : {A : Type 0} (R : A → A → Type 0) → ((x y : A) → R x y → R y x) → (xs ys : List A) → IsPermutation xs ys → IsPermutation xs ys × (IsAscending R xs → IsAscending R ys)
pairs_permuted R turns = along_permutation (λ ps qs. IsPermutation ps qs × (IsAscending R ps → IsAscending R qs))
    (λ ps. (IsPermutation-refl ps, λ h. h))
    (λ x ps qs h. (IsPermutation-cons x ps qs h.0, λ p. (all-permutation (R x) ps qs h.0 p.0, h.1 p.1)))
    (λ x y ps. (IsPermutation-middle (x ∷ []) y ps, λ p. ((turns x y p.0.0, p.1.0), (p.0.1, p.1.1))))
    (λ ps qs rs h k. (IsPermutation-trans ps qs rs h.0 k.0, λ p. k.1 (h.1 p)))

pub own_places_permuted : (xs ys : List Placed) → IsPermutation xs ys → HaveOwnPlaces xs → HaveOwnPlaces ys
own_places_permuted xs ys same h = (pairs_permuted (λ x y. x.place ≢ y.place) (λ x y apart e. apart (sym e)) xs ys same).1 h

-- ---- one at its place

pub put_in_permutes : (x : Placed) (ys : List Placed) → IsPermutation (x ∷ ys) (put_at_place x ys)
put_in_permutes x [] = IsPermutation-refl (x ∷ [])
put_in_permutes x (y ∷ ys) = elim (nat_lt x.place y.place) as (λ b. IsPermutation (x ∷ y ∷ ys) (cond b (x ∷ y ∷ ys) (y ∷ put_at_place x ys))) [
  | true ↦ IsPermutation-refl (x ∷ y ∷ ys)
  | false ↦ IsPermutation-trans _ _ _ (IsPermutation-middle (x ∷ []) y ys) (IsPermutation-cons y _ _ (put_in_permutes x ys))
]

pub by_place_permutes : (xs : List Placed) → IsPermutation xs (by_place xs)
by_place_permutes [] = IsPermutation-refl []
by_place_permutes (x ∷ xs) = IsPermutation-trans _ _ _ (IsPermutation-cons x _ _ (by_place_permutes xs)) (put_in_permutes x (by_place xs))

turned : (m n : ℕ) → m ≢ n → nat_lt m n ≡ not (nat_lt n m)
turned m n apart = elim (bool_cases (nat_lt n m)) [
  | inl e ↦ rw e (le-ltb m n (let low = ltb-true n m e in omega arith))
  | inr e ↦ rw e (lt-ltb m n (let low = ltb-false n m e in omega (arith, apart)))
]

lt_through : (a b c : ℕ) → nat_lt a b ≡ true → nat_lt b c ≡ true → nat_lt a c ≡ true
lt_through a b c h k = grind (arith, nat_tests)

-- the order of two puts is none where their places differ
put_in_turned : (x y : Placed) → x.place ≢ y.place → (zs : List Placed) → put_at_place x (put_at_place y zs) ≡ put_at_place y (put_at_place x zs)
put_in_turned x y apart [] = elim (bool_cases (nat_lt y.place x.place)) [
  | inl e ↦ let f : nat_lt x.place y.place ≡ false = turned x.place y.place apart ∙ ap not e in rw (e, f) refl
  | inr e ↦ let f : nat_lt x.place y.place ≡ true = turned x.place y.place apart ∙ ap not e in rw (e, f) refl
]
put_in_turned x y apart (z ∷ zs) = go (nat_lt x.place z.place) refl (nat_lt y.place z.place) refl (nat_lt x.place y.place) refl (put_in_turned x y apart zs)
  where
    back : (b : Bool) → nat_lt x.place y.place ≡ b → nat_lt y.place x.place ≡ not b
    back b e = turned y.place x.place (λ f. apart (sym f)) ∙ ap not e

    go : (a : Bool) → nat_lt x.place z.place ≡ a → (b : Bool) → nat_lt y.place z.place ≡ b → (c : Bool) → nat_lt x.place y.place ≡ c → put_at_place x (put_at_place y zs) ≡ put_at_place y (put_at_place x zs)
        → put_at_place x (put_at_place y (z ∷ zs)) ≡ put_at_place y (put_at_place x (z ∷ zs))
    go true e true f true g more = rw (e, f, g, back true g) refl
    go true e true f false g more = rw (f, e, g, back false g) refl
    go true e false f true g more =
        let one : put_at_place x (put_at_place y (z ∷ zs)) ≡ x ∷ (z ∷ put_at_place y zs) = rw (f, e) refl in
        let other : put_at_place y (put_at_place x (z ∷ zs)) ≡ x ∷ (z ∷ put_at_place y zs) = rw (e, back true g, f) refl in
        one ∙ sym other
    go true e false f false g more = absurd (let h : nat_lt y.place z.place ≡ true = lt_through y.place x.place z.place (back false g) e in cc)
    go false e true f true g more = absurd (let h : nat_lt x.place z.place ≡ true = lt_through x.place y.place z.place g f in cc)
    go false e true f false g more = rw (e, f, g, e) refl
    go false e false f c g more = rw (e, f, e) (ap (λ rest. z ∷ rest) more)

pub by_place_same : (xs ys : List Placed) → IsPermutation xs ys → HaveOwnPlaces xs → by_place xs ≡ by_place ys
by_place_same xs ys same = (along_permutation (λ ps qs. IsPermutation ps qs × (HaveOwnPlaces ps → by_place ps ≡ by_place qs))
    (λ ps. (IsPermutation-refl ps, λ h. refl))
    (λ x ps qs h. (IsPermutation-cons x ps qs h.0, λ p. ap (put_at_place x) (h.1 p.1)))
    (λ x y ps. (IsPermutation-middle (x ∷ []) y ps, λ p. put_in_turned x y p.0.0 (by_place ps)))
    (λ ps qs rs h k. (IsPermutation-trans ps qs rs h.0 k.0, λ p. h.1 p ∙ k.1 (own_places_permuted ps qs h.0 p)))
    xs ys same).1

-- ---- a change of each, and one more

module _ (f : Placed → Placed) (keeps : (x : Placed) → (f x).place ≡ x.place) where
  put_in_mapped : (x : Placed) (ys : List Placed) → put_at_place (f x) (map f ys) ≡ map f (put_at_place x ys)
  put_in_mapped x [] = refl
  put_in_mapped x (y ∷ ys) = elim (bool_cases (nat_lt x.place y.place)) [
    | inl e ↦ let here : nat_lt (f x).place (f y).place ≡ true = rw (keeps x, keeps y) e in rw (here, e) refl
    | inr e ↦ let here : nat_lt (f x).place (f y).place ≡ false = rw (keeps x, keeps y) e in rw (here, e) (ap (λ rest. f y ∷ rest) (put_in_mapped x ys))
  ]

  pub by_place_mapped : (xs : List Placed) → by_place (map f xs) ≡ map f (by_place xs)
  by_place_mapped [] = refl
  by_place_mapped (x ∷ xs) = ap (put_at_place (f x)) (by_place_mapped xs) ∙ put_in_mapped x (by_place xs)

put_in_before : (x n : Placed) (ys : List Placed) → x.place < n.place → put_at_place x (ys ++ n ∷ []) ≡ put_at_place x ys ++ n ∷ []
put_in_before x n [] low = let e : nat_lt x.place n.place ≡ true = lt-ltb x.place n.place low in rw e refl
put_in_before x n (y ∷ ys) low = elim (bool_cases (nat_lt x.place y.place)) [
  | inl e ↦ rw e refl
  | inr e ↦ rw e (ap (λ rest. y ∷ rest) (put_in_before x n ys low))
]

pub by_place_last : (n : Placed) (xs : List Placed) → AreBelow n.place xs → by_place (xs ++ n ∷ []) ≡ by_place xs ++ n ∷ []
by_place_last n [] low = refl
by_place_last n (x ∷ xs) low = ap (put_at_place x) (by_place_last n xs low.1) ∙ put_in_before x n (by_place xs) low.0

-- ---- some of them

put_in_rises : (x : Placed) (ys : List Placed) → IsAscending (λ a b. a.place ≤ b.place) ys → IsAscending (λ a b. a.place ≤ b.place) (put_at_place x ys)
put_in_rises x [] up = (tt, tt)
put_in_rises x (y ∷ ys) up = go (nat_lt x.place y.place) refl (put_in_rises x ys up.1)
  where
    low_of : (a b : ℕ) → nat_lt a b ≡ true → a ≤ b
    low_of a b h = grind (arith, nat_tests)

    go : (b : Bool) → nat_lt x.place y.place ≡ b → IsAscending (λ a c. a.place ≤ c.place) (put_at_place x ys) → IsAscending (λ a c. a.place ≤ c.place) (cond b (x ∷ y ∷ ys) (y ∷ put_at_place x ys))
    go true e more = let low = low_of x.place y.place e in ((low, all_weaker (λ z. y.place ≤ z.place) (λ z. x.place ≤ z.place) (λ z high. omega (arith, low, high)) ys up.0), up)
    go false e more = (all-permutation (λ b. y.place ≤ b.place) (x ∷ ys) (put_at_place x ys) (put_in_permutes x ys) (ltb-false x.place y.place e, up.0), more)

by_place_rises : (xs : List Placed) → IsAscending (λ a b. a.place ≤ b.place) (by_place xs)
by_place_rises [] = tt
by_place_rises (x ∷ xs) = put_in_rises x (by_place xs) (by_place_rises xs)

module _ (p : Placed → Bool) where
  -- before all that are left of those after it
  put_in_first : (x : Placed) (ys : List Placed) → AllByRecursion (λ y. nat_lt x.place y.place ≡ true) ys → put_at_place x ys ≡ x ∷ ys
  put_in_first x [] all = refl
  put_in_first x (y ∷ ys) all = rw all.0 refl

  put_in_left : (x : Placed) (ys : List Placed) → IsAscending (λ a b. a.place ≤ b.place) ys → filter p (put_at_place x ys) ≡ cond (p x) (put_at_place x (filter p ys)) (filter p ys)
  put_in_left x [] up = refl
  put_in_left x (y ∷ ys) up = go (nat_lt x.place y.place) refl (p x) refl (p y) refl (put_in_left x ys up.1)
    where
      below : (a b c : ℕ) → nat_lt a b ≡ true → b ≤ c → nat_lt a c ≡ true
      below a b c h k = grind (arith, nat_tests)

      go : (b : Bool) → nat_lt x.place y.place ≡ b → (c : Bool) → p x ≡ c → (d : Bool) → p y ≡ d → filter p (put_at_place x ys) ≡ cond (p x) (put_at_place x (filter p ys)) (filter p ys)
          → filter p (put_at_place x (y ∷ ys)) ≡ cond (p x) (put_at_place x (filter p (y ∷ ys))) (filter p (y ∷ ys))
      go true e true f true g more = rw (e, f, g, e) refl
      go true e true f false g more = rw (e, f, g) (sym (put_in_first x (filter p ys) (all-filter _ p ys (all_weaker (λ z. y.place ≤ z.place) _ (λ z high. below x.place y.place z.place e high) ys up.0))))
      go true e false f d g more = rw (e, f) refl
      go false e true f true g more = rw (e, f, g, e) (ap (λ rest. y ∷ rest) (more ∙ rw f refl))
      go false e true f false g more = rw (e, f, g) (more ∙ rw f refl)
      go false e false f true g more = rw (e, f, g) (ap (λ rest. y ∷ rest) (more ∙ rw f refl))
      go false e false f false g more = rw (e, f, g) (more ∙ rw f refl)

  pub by_place_left : (xs : List Placed) → filter p (by_place xs) ≡ by_place (filter p xs)
  by_place_left [] = refl
  by_place_left (x ∷ xs) = put_in_left x (by_place xs) (by_place_rises xs) ∙ go (p x) refl (by_place_left xs)
    where
      go : (b : Bool) → p x ≡ b → filter p (by_place xs) ≡ by_place (filter p xs) → cond (p x) (put_at_place x (filter p (by_place xs))) (filter p (by_place xs)) ≡ by_place (filter p (x ∷ xs))
      go true e more = rw e (ap (put_at_place x) more)
      go false e more = rw e more
