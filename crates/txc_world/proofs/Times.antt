-- How often stamps stand in lists.
use Rattle.std.proofs.Common.{◌≡◌, ◌∙◌, ℕ, zero, suc, ◌+◌, ◌<◌, ◌≤◌, ◌==◌, Bool, true, false, cond, List, [], ◌∷◌, ◌++◌, Some, Contains, refl, ap, arith, eq-eqb, slice_get, slice_set}
use Rattle.std.specs.Prelude.{sum_by}
use Rattle.std.proofs.lemmas.List.Sums.{sum_by-cons, sum_by-append}
use Rattle.txc_db.specs.DatabaseValue.{holds_of, is_held, without}
use Rattle.txc_db.specs.Laws.{OneHoldLess}
use Rattle.txc_cushion.specs.Entries.{times}
use Rattle.txc_cushion.proofs.Counts.{times_cons, times_on}

pub times_append : (t : ℕ) (xs ys : List ℕ) → times t (xs ++ ys) ≡ times t xs + times t ys
times_append t xs ys = sum_by-append (λ (s : ℕ). cond (s == t) 1 0) xs ys

pub times_one : (t x : ℕ) → times t (x ∷ []) ≡ cond (x == t) 1 0
times_one t x = let all = times_cons t x [] in omega (arith, all)

times_holds : (t : ℕ) (xs : List ℕ) → times t xs ≡ holds_of t xs
times_holds t [] = refl
times_holds t (x ∷ xs) = times_cons t x xs ∙ ap (λ (n : ℕ). cond (x == t) 1 0 + n) (times_holds t xs)

-- ---- one less

pub times_without : OneHoldLess → (t x : ℕ) (xs : List ℕ) → is_held x xs ≡ true → times t (without x xs) + times t (x ∷ []) ≡ times t xs
times_without law t x xs held =
    let less = law xs x t held in
    let a = times_holds t (without x xs) in
    let b = times_holds t xs in
    let c = times_one t x in
    omega (arith, less, a, b, c)

pub held_there : (x : ℕ) (xs : List ℕ) → Contains xs x → is_held x xs ≡ true
held_there x [] (k, within, at) = absurd (omega (arith, within))
held_there x (y ∷ ys) (zero, within, at) = let same : y ≡ x = at in let here : (y == x) ≡ true = eq-eqb y x same in rw here refl
held_there x (y ∷ ys) (suc k, within, at) = go (y == x) refl (held_there x ys (k, omega (arith, within), at))
  where
    go : (b : Bool) → (y == x) ≡ b → is_held x ys ≡ true → is_held x (y ∷ ys) ≡ true
    go true is rest = rw is refl
    go false is rest = rw is rest

pub times_there : (x : ℕ) (xs : List ℕ) → Contains xs x → 0 < times x xs
times_there x [] (k, within, at) = omega (arith, within)
times_there x (y ∷ ys) (zero, within, at) =
    let same : y ≡ x = at in
    let all = times_on x y ys (eq-eqb y x same) in
    omega (arith, all)
times_there x (y ∷ ys) (suc k, within, at) =
    let rest = times_there x ys (k, omega (arith, within), at) in
    let all = times_cons x y ys in
    omega (arith, rest, all)

-- ---- one place of a list

module _ {X : Type 0} (f : X → ℕ) where
  pub sum_set : (xs : List X) (i : ℕ) (old new : X) → slice_get xs i ≡ Some old → sum_by f (slice_set xs i new) + f old ≡ sum_by f xs + f new
  sum_set [] i old new is = cc is
  sum_set (x ∷ xs) zero old new is =
      let same : x ≡ old = cc in
      let a = sum_by-cons f new xs in
      let b = sum_by-cons f x xs in
      let c = ap f same in
      omega (arith, a, b, c)
  sum_set (x ∷ xs) (suc i) old new is =
      let rest = sum_set xs i old new is in
      let a = sum_by-cons f x (slice_set xs i new) in
      let b = sum_by-cons f x xs in
      omega (arith, rest, a, b)

  pub sum_at : (xs : List X) (i : ℕ) (x : X) → slice_get xs i ≡ Some x → f x ≤ sum_by f xs
  sum_at [] i x is = cc is
  sum_at (y ∷ ys) zero x is = let same : y ≡ x = cc in let a = sum_by-cons f y ys in let b = ap f same in omega (arith, a, b)
  sum_at (y ∷ ys) (suc i) x is = let rest = sum_at ys i x is in let a = sum_by-cons f y ys in omega (arith, rest, a)
