-- What crates above may use of the proofs: lists in which each item is judged by those before it.
use Rattle.std.proofs.Common.{◌≡◌, ◌⊎◌, inl, inr, ℕ, zero, suc, ◌<◌, List, [], ◌∷◌, ◌++◌, length, take, Some, slice_get, refl, sym, ap, subst, ◌∙◌, arith}
use Rattle.std.proofs.Math.Seq.{take-length}
use Rattle.std.proofs.lemmas.List.{take-append-le}
use Rattle.std.proofs.lemmas.Option.{slice_get_within}
use mathlib.Core.List.{IsPrefix}
use Rattle.txc_app.specs.EachAfter.{EachAfter}

module _ {X : Type 0} where
  -- what stands in a list with one item more
  get_push : (xs : List X) (y x : X) (i : ℕ) → slice_get (xs ++ y ∷ []) i ≡ Some x → ((i < length xs) × (slice_get xs i ≡ Some x)) ⊎ ((i ≡ length xs) × (y ≡ x))
  get_push [] y x zero is = inr (refl, cc is)
  get_push [] y x (suc i) is = absurd (cc is)
  get_push (z ∷ xs) y x zero is = inl (omega arith, is)
  get_push (z ∷ xs) y x (suc i) is = elim (get_push xs y x i is) [
    | inl h ↦ inl (let l = h.0 in omega (arith, l), h.1)
    | inr h ↦ inr (ap suc h.0, h.1)
  ]

  -- the first items of a list stand in it
  get_append : (xs ys : List X) (x : X) (i : ℕ) → slice_get xs i ≡ Some x → slice_get (xs ++ ys) i ≡ Some x
  get_append [] ys x i is = absurd (cc is)
  get_append (y ∷ xs) ys x zero is = is
  get_append (y ∷ xs) ys x (suc i) is = get_append xs ys x i is

  module _ (P : List X → X → Type 0) where
    pub each_none : EachAfter P []
    each_none i x is = absurd (cc is)

    pub each_push : (xs : List X) (y : X) → EachAfter P xs → P xs y → EachAfter P (xs ++ y ∷ [])
    each_push xs y each last i x is = elim (get_push xs y x i is) [
      | inl h ↦ subst (λ (before : List X). P before x) (sym (take-append-le i xs (y ∷ []) (let l = h.0 in omega (arith, l)))) (each i x h.1)
      | inr h ↦
          let all : take i (xs ++ y ∷ []) ≡ xs = ap (λ (k : ℕ). take k (xs ++ y ∷ [])) h.0 ∙ (take-append-le (length xs) xs (y ∷ []) (omega arith) ∙ take-length xs) in
          subst (λ (z : X). P (take i (xs ++ y ∷ [])) z) h.1 (subst (λ (before : List X). P before y) (sym all) last)
    ]

    each_append : (xs ys : List X) → EachAfter P (xs ++ ys) → EachAfter P xs
    each_append xs ys each i x is =
        subst (λ (before : List X). P before x) (take-append-le i xs ys (let l = slice_get_within xs i x is in omega (arith, l))) (each i x (get_append xs ys x i is))

    pub each_beginning : (xs all : List X) → IsPrefix xs all → EachAfter P all → EachAfter P xs
    each_beginning xs all begins each = each_append xs begins.0 (subst (EachAfter P) (sym begins.1) each)
