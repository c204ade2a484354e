-- Tests, and what stands in a list.
use Rattle.std.proofs.Common.{◌≡◌, ◌⊎◌, inl, inr, ◌+◌, List, [], ◌∷◌, ◌++◌, filter, count_by, Bool, true, false, true≢false, cond, ◌&&◌, ◌||◌, refl, sym, ap, ◌∙◌, arith}
use Rattle.std.specs.List.{list_any, list_all}
use Rattle.std.proofs.lemmas.List.Sums.{sum_by-cons}

pub bool_cases : (b : Bool) → (b ≡ true) ⊎ (b ≡ false)
bool_cases true = inl refl
bool_cases false = inr refl

pub both_true : (a b : Bool) → a && b ≡ true → (a ≡ true) × (b ≡ true)
both_true true b e = (refl, e)
both_true false b e = absurd (true≢false (sym e))

pub and_true : (a b : Bool) → a ≡ true → b ≡ true → a && b ≡ true
and_true a b e f = rw (e, f) refl

pub one_true : (a b : Bool) → a || b ≡ true → (a ≡ true) ⊎ (b ≡ true)
one_true true b e = inl refl
one_true false b e = inr e

pub or_left : (a b : Bool) → a ≡ true → a || b ≡ true
or_left a b e = rw e refl

pub or_right : (a b : Bool) → b ≡ true → a || b ≡ true
or_right true b e = refl
or_right false b e = e

pub none_true : (a b : Bool) → a || b ≡ false → (a ≡ false) × (b ≡ false)
none_true true b e = absurd (true≢false e)
none_true false b e = (refl, e)

pub both_ways : (a b : Bool) → (a ≡ true → b ≡ true) → (b ≡ true → a ≡ true) → a ≡ b
both_ways true b there back = sym (there refl)
both_ways false true there back = back refl
both_ways false false there back = refl

pub not_both : {P : Type 0} (b : Bool) → b ≡ true → b ≡ false → P
not_both b e f = absurd (true≢false (sym e ∙ f))

-- x stands in the list
abbrev pub IsIn : {X : Type 0} → X → List X → Type 0
IsIn x [] = ⊥
IsIn x (y ∷ ys) = (x ≡ y) ⊎ IsIn x ys

pub in_left : {X : Type 0} (x : X) (xs ys : List X) → IsIn x xs → IsIn x (xs ++ ys)
in_left x [] ys h = absurd h
in_left x (y ∷ xs) ys (inl same) = inl same
in_left x (y ∷ xs) ys (inr later) = inr (in_left x xs ys later)

pub in_right : {X : Type 0} (x : X) (xs ys : List X) → IsIn x ys → IsIn x (xs ++ ys)
in_right x [] ys h = h
in_right x (y ∷ xs) ys h = inr (in_right x xs ys h)

pub in_either : {X : Type 0} (x : X) (xs ys : List X) → IsIn x (xs ++ ys) → IsIn x xs ⊎ IsIn x ys
in_either x [] ys h = inr h
in_either x (y ∷ xs) ys (inl same) = inl (inl same)
in_either x (y ∷ xs) ys (inr later) = elim (in_either x xs ys later) [ inl l ↦ inl (inr l) | inr r ↦ inr r ]

module _ {X : Type 0} (p : X → Bool) where
  pub any_there : (x : X) (xs : List X) → IsIn x xs → p x ≡ true → list_any p xs ≡ true
  any_there x [] h e = absurd h
  any_there x (y ∷ ys) (inl same) e = or_left (p y) (list_any p ys) (ap p (sym same) ∙ e)
  any_there x (y ∷ ys) (inr later) e = or_right (p y) (list_any p ys) (any_there x ys later e)

  pub any_found : (xs : List X) → list_any p xs ≡ true → (x : X) × IsIn x xs × (p x ≡ true)
  any_found [] e = absurd (true≢false (sym e))
  any_found (y ∷ ys) e = elim (one_true (p y) (list_any p ys) e) [
    | inl here ↦ (y, inl refl, here)
    | inr there ↦ let it = any_found ys there in (it.0, inr it.1, it.2)
  ]

  pub all_at : (x : X) (xs : List X) → list_all p xs ≡ true → IsIn x xs → p x ≡ true
  all_at x [] e h = absurd h
  all_at x (y ∷ ys) e (inl same) = ap p same ∙ (both_true (p y) (list_all p ys) e).0
  all_at x (y ∷ ys) e (inr later) = all_at x ys (both_true (p y) (list_all p ys) e).1 later

  pub all_from : (xs : List X) → ((x : X) → IsIn x xs → p x ≡ true) → list_all p xs ≡ true
  all_from [] h = refl
  all_from (y ∷ ys) h = and_true (p y) (list_all p ys) (h y (inl refl)) (all_from ys (λ x k. h x (inr k)))

  pub in_filter : (x : X) (xs : List X) → IsIn x xs → p x ≡ true → IsIn x (filter p xs)
  in_filter x [] h e = absurd h
  in_filter x (y ∷ ys) (inl same) e = rw (ap p (sym same) ∙ e) (inl same)
  in_filter x (y ∷ ys) (inr later) e = let it = in_filter x ys later e in elim (p y) as (λ b. IsIn x (cond b (y ∷ filter p ys) (filter p ys))) [ true ↦ inr it | false ↦ it ]

  pub from_filter : (x : X) (xs : List X) → IsIn x (filter p xs) → IsIn x xs × (p x ≡ true)
  from_filter x [] h = absurd h
  from_filter x (y ∷ ys) h = go (p y) refl (λ k. from_filter x ys k) h
    where
      go : (b : Bool) → p y ≡ b → (IsIn x (filter p ys) → IsIn x ys × (p x ≡ true)) → IsIn x (cond b (y ∷ filter p ys) (filter p ys)) → IsIn x (y ∷ ys) × (p x ≡ true)
      go true e rest (inl same) = (inl same, ap p same ∙ e)
      go true e rest (inr later) = let it = rest later in (inr it.0, it.1)
      go false e rest later = let it = rest later in (inr it.0, it.1)

-- tests that agree on a list's elements keep the same of them
pub filter_alike : {X : Type 0} (p q : X → Bool) (xs : List X) → ((x : X) → IsIn x xs → p x ≡ q x) → filter p xs ≡ filter q xs
filter_alike p q [] h = refl
filter_alike p q (x ∷ xs) h = rw (h x (inl refl), filter_alike p q xs (λ y k. h y (inr k))) refl

-- ---- counts

pub count_yes : {X : Type 0} (p : X → Bool) (x : X) (xs : List X) → p x ≡ true → count_by p (x ∷ xs) ≡ 1 + count_by p xs
count_yes p x xs e = sum_by-cons (λ y. cond (p y) 1 0) x xs ∙ rw e refl

pub count_no : {X : Type 0} (p : X → Bool) (x : X) (xs : List X) → p x ≡ false → count_by p (x ∷ xs) ≡ count_by p xs
count_no p x xs e = sum_by-cons (λ y. cond (p y) 1 0) x xs ∙ rw e (omega arith)
