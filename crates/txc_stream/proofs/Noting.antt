-- Notes of records, in their order.
use Rattle.std.proofs.Common.{◌≡◌, ℕ, zero, suc, ◌+◌, ◌-◌, ◌<◌, ◌≤◌, List, [], ◌∷◌, ◌++◌, length, drop, IfSome, Some, slice_get, slice_index_or, max, refl, sym, ap, subst, ◌∙◌, arith}
use Rattle.std.proofs.Math.Nat.{le-max_right, max-le}
use Rattle.std.proofs.lemmas.List.{drop-drop, drop-append-le, length-drop}
use Rattle.txc_stream.specs.Windows.{AreNotes}

-- what stands at a place after the first ones
get_drop : {A : Type 0} (n : ℕ) (xs : List A) (k : ℕ) → slice_get (drop n xs) k ≡ slice_get xs (n + k)
get_drop zero xs k = let e : k ≡ 0 + k = omega arith in ap (slice_get xs) e
get_drop (suc n) [] k = refl
get_drop (suc n) (x ∷ xs) k = let e : suc (n + k) ≡ suc n + k = omega arith in get_drop n xs k ∙ ap (slice_get (x ∷ xs)) e

module _ {T N : Type 0} (notes : T → N → Type 0) where
  pub notes_length : (xs : List T) (ns : List N) → AreNotes notes xs ns → length ns ≡ length xs
  notes_length [] [] are = refl
  notes_length [] (n ∷ ns) are = absurd are
  notes_length (x ∷ xs) [] are = absurd are
  notes_length (x ∷ xs) (n ∷ ns) are = ap suc (notes_length xs ns are.1)

  notes_push : (xs : List T) (ns : List N) (x : T) (n : N) → AreNotes notes xs ns → notes x n → AreNotes notes (xs ++ x ∷ []) (ns ++ n ∷ [])
  notes_push [] [] x n are is = (is, tt)
  notes_push [] (m ∷ ns) x n are is = absurd are
  notes_push (y ∷ xs) [] x n are is = absurd are
  notes_push (y ∷ xs) (m ∷ ns) x n are is = (are.0, notes_push xs ns x n are.1 is)

  notes_rest : (xs : List T) (ns : List N) → AreNotes notes xs ns → AreNotes notes (drop 1 xs) (drop 1 ns)
  notes_rest [] [] are = tt
  notes_rest [] (n ∷ ns) are = absurd are
  notes_rest (x ∷ xs) [] are = absurd are
  notes_rest (x ∷ xs) (n ∷ ns) are = are.1

  notes_at : (xs : List T) (ns : List N) (k : ℕ) (n : N) → AreNotes notes xs ns → k < length xs → n ≡ slice_index_or ns k n → IfSome (slice_get xs k) (λ x. notes x n)
  notes_at [] ns k n are below is = absurd (omega (arith, below))
  notes_at (x ∷ xs) [] k n are below is = absurd are
  notes_at (x ∷ xs) (m ∷ ns) zero n are below is = subst (λ w. notes x w) (sym is) are.0
  notes_at (x ∷ xs) (m ∷ ns) (suc k) n are below is = notes_at xs ns k n are.1 (omega (arith, below)) is

  -- how many are kept
  pub kept_length : (xs : List T) (first : ℕ) (ns : List N) → AreNotes notes (drop first xs) ns → length ns ≡ length xs - first
  kept_length xs first ns are = notes_length (drop first xs) ns are ∙ length-drop first xs

  -- the note that is kept of the record at a place
  pub kept_at : (xs : List T) (first at : ℕ) (ns : List N) (n : N) → AreNotes notes (drop first xs) ns → first ≤ at → at < length xs → n ≡ slice_index_or ns (at - first) n → IfSome (slice_get xs at) (λ x. notes x n)
  kept_at xs first at ns n are low below is =
      let place : first + (at - first) ≡ at = omega (arith, low) in
      let within : at - first < length (drop first xs) = omega (arith, length-drop first xs, low, below) in
      subst (λ o. IfSome o (λ x. notes x n)) (get_drop first xs (at - first) ∙ ap (slice_get xs) place) (notes_at (drop first xs) ns (at - first) n are within is)

  -- one record more, with its note
  pub kept_push : (xs : List T) (first : ℕ) (ns : List N) (x : T) (n : N) → AreNotes notes (drop first xs) ns → first ≤ length xs → notes x n → AreNotes notes (drop first (xs ++ x ∷ [])) (ns ++ n ∷ [])
  kept_push xs first ns x n are low is =
      subst (λ ys. AreNotes notes ys (ns ++ n ∷ [])) (sym (drop-append-le first xs (x ∷ []) low)) (notes_push (drop first xs) ns x n are is)

  -- one note fewer at the beginning
  pub kept_rest : (xs : List T) (first : ℕ) (ns : List N) → AreNotes notes (drop first xs) ns → AreNotes notes (drop (first + 1) xs) (drop 1 ns)
  kept_rest xs first ns are = subst (λ ys. AreNotes notes ys (drop 1 ns)) (drop-drop 1 first xs) (notes_rest (drop first xs) ns are)

-- the notes before a place are dropped, one after the other
pub forget_more : (first now next before : ℕ) → now ≤ max first before → now < before → next ≡ now + 1 → next ≤ max first before
forget_more first now next before high more is = omega (arith, more, is, le-max_right first before)

pub forget_done : (first now before : ℕ) → first ≤ now → now ≤ max first before → before ≤ now → now ≡ max first before
forget_done first now before low high all = omega (arith, high, max-le {a = first} {b = before} {k = now} low all)
