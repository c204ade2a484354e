-- Live segments after some were dropped.
use Rattle.std.proofs.Common.{◌≡◌, ℕ, zero, suc, ◌<◌, List, [], ◌∷◌, ◌++◌, length, refl, sym, ap, ◌∙◌, append_assoc, arith}
use Rattle.std.specs.List.{remove}
use Rattle.txc_stream.specs.Published.{AreLeft}

-- all
pub left_all : {A : Type 0} (xs : List A) → AreLeft xs xs
left_all xs = record { dropped = []; is = refl }

-- without the first
pub left_rest : {A : Type 0} (all left now : List A) → AreLeft all left → 0 < length left → now ≡ remove left 0 → AreLeft all now
left_rest all [] now was some is = absurd (omega (arith, some))
left_rest all (x ∷ xs) now was some is = record {
  dropped = was.dropped ++ x ∷ [];
  is = was.is ∙ sym (append_assoc was.dropped (x ∷ []) xs) ∙ ap (λ l. (was.dropped ++ x ∷ []) ++ l) (sym is);
}

-- with one more
pub left_more : {A : Type 0} (all left : List A) (x : A) → AreLeft all left → AreLeft (all ++ x ∷ []) (left ++ x ∷ [])
left_more all left x was = record { dropped = was.dropped; is = ap (λ l. l ++ x ∷ []) was.is ∙ append_assoc was.dropped left (x ∷ []) }
