-- What crates above may use of the proofs: prefixes of lists. `src/laws.rt` states them as contracts.
use Rattle.std.proofs.Common.{◌≡◌, ℕ, zero, suc, ◌<◌, ◌≤◌, ◌⊎◌, inl, inr, List, [], ◌∷◌, ◌++◌, length, take, Some, slice_get, refl, ap, sym, ◌∙◌, arith, append_assoc, length-append, subst}
use Rattle.std.proofs.lemmas.List.{take-append-le}
use mathlib.Core.List.{IsPrefix}

-- a list is a prefix of itself
pub prefix_self : {A : Type 0} (xs : List A) → IsPrefix xs xs
prefix_self [] = ([], refl)
prefix_self (x ∷ xs) = (let r = prefix_self xs in r.0, ap (λ ys. x ∷ ys) (prefix_self xs).1)

pub prefix_trans : {A : Type 0} (xs ys zs : List A) → IsPrefix xs ys → IsPrefix ys zs → IsPrefix xs zs
prefix_trans xs ys zs p q = (p.0 ++ q.0, sym (append_assoc xs p.0 q.0) ∙ (ap (λ w. w ++ q.0) p.1 ∙ q.1))

-- a prefix as long as the whole is the whole
pub prefix_whole : {A : Type 0} (xs ys : List A) → IsPrefix xs ys → length ys ≤ length xs → xs ≡ ys
prefix_whole [] [] p le = refl
prefix_whole [] (y ∷ ys) p le = absurd (omega arith)
prefix_whole (x ∷ xs) [] p le = absurd (cc (p.1))
prefix_whole (x ∷ xs) (y ∷ ys) p le =
    let rest = prefix_whole xs ys (p.0, cc (p.1)) (omega arith) in cc (p.1, rest)

pub prefix_length : {A : Type 0} (xs ys : List A) → IsPrefix xs ys → length xs ≤ length ys
prefix_length xs ys p = omega (arith, sym (ap length p.1) ∙ length-append xs p.0)

-- what stands in a prefix stands in the whole, at the same place
pub prefix_get : {A : Type 0} (xs ys : List A) (k : ℕ) (x : A) → IsPrefix xs ys → slice_get xs k ≡ Some x → slice_get ys k ≡ Some x
prefix_get [] ys k x p h = absurd cc
prefix_get (y ∷ xs) [] k x p h = absurd (cc (p.1))
prefix_get (y ∷ xs) (z ∷ ys) zero x p h = cc (p.1, h)
prefix_get (y ∷ xs) (z ∷ ys) (suc k) x p h = prefix_get xs ys k x (p.0, cc (p.1)) h

-- below the length of a prefix, it and the whole have the same at each place
pub prefix_place : {A : Type 0} (xs ys : List A) (k : ℕ) → IsPrefix xs ys → k < length xs → slice_get ys k ≡ slice_get xs k
prefix_place [] ys k p below = absurd (omega arith)
prefix_place (x ∷ xs) [] k p below = absurd (cc (p.1))
prefix_place (x ∷ xs) (y ∷ ys) zero p below = cc (p.1)
prefix_place (x ∷ xs) (y ∷ ys) (suc k) p below = prefix_place xs ys k (p.0, cc (p.1)) (omega arith)

-- up to the length of a prefix, it and the whole begin alike
pub prefix_take : {A : Type 0} (xs ys : List A) (n : ℕ) → IsPrefix xs ys → n ≤ length xs → take n ys ≡ take n xs
prefix_take xs ys n p le = ap (take n) (sym p.1) ∙ take-append-le n xs p.0 le

-- a list is a prefix of itself with more behind it
pub prefix_append : {A : Type 0} (xs ys : List A) → IsPrefix xs (xs ++ ys)
prefix_append xs ys = (ys, refl)

-- a list is a prefix of itself with one more record
pub prefix_push : {A : Type 0} (xs : List A) (x : A) → IsPrefix xs (xs ++ x ∷ [])
prefix_push xs x = (x ∷ [], refl)

-- one more record stands behind the others
pub push_get : {A : Type 0} (xs : List A) (x : A) → slice_get (xs ++ x ∷ []) (length xs) ≡ Some x
push_get [] x = refl
push_get (y ∷ xs) x = push_get xs x

-- the longer of two lists, of which the one is a prefix of the other, is the other
pub longer_is : {A : Type 0} (was other now : List A) → IsPrefix was other → (now ≡ was) ⊎ (now ≡ other) → IsPrefix other now → now ≡ other
longer_is was other now p (inl e) q = e ∙ prefix_whole was other p (prefix_length other was (subst (λ l. IsPrefix other l) e q))
longer_is was other now p (inr e) q = e

-- of two lists of which one is a prefix of the other, the shorter is the prefix
pub shorter_begins : {A : Type 0} (xs ys : List A) → IsPrefix xs ys ⊎ IsPrefix ys xs → length xs ≤ length ys → IsPrefix xs ys
shorter_begins xs ys (inl p) le = p
shorter_begins xs ys (inr p) le = subst (λ l. IsPrefix l ys) (prefix_whole ys xs p le) (prefix_self ys)

-- of two prefixes of one list, one is a prefix of the other
pub prefixes_agree : {A : Type 0} (xs ys zs : List A) → IsPrefix xs zs → IsPrefix ys zs → IsPrefix xs ys ⊎ IsPrefix ys xs
prefixes_agree [] ys zs p q = inl (ys, refl)
prefixes_agree (x ∷ xs) [] zs p q = inr (x ∷ xs, refl)
prefixes_agree (x ∷ xs) (y ∷ ys) [] p q = absurd (cc (p.1))
prefixes_agree (x ∷ xs) (y ∷ ys) (z ∷ zs) p q =
    elim (prefixes_agree xs ys zs (p.0, cc (p.1)) (q.0, cc (q.1))) [
      | inl r ↦ inl (r.0, cc (p.1, q.1, r.1))
      | inr r ↦ inr (r.0, cc (p.1, q.1, r.1))
    ]
