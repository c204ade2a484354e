-- Lists as ghost values: a list of codes begins with another just where the lists do.
use Rattle.std.proofs.Common.{◌≡◌, ◌⊎◌, inl, inr, List, [], ◌∷◌, ◌++◌, map, refl, ap}
use mathlib.Core.List.{IsPrefix, cons≢nil}
use base.Stored.{Gv, Coded}
use Rattle.txc_stream.proofs.Offered.{prefixes_agree}

module _ {E : Type 0} (cv : Coded E) where
  abbrev head : Gv → List Gv → Gv
  head d [] = d
  head d (g ∷ gs) = g

  abbrev tail : List Gv → List Gv
  tail [] = []
  tail (g ∷ gs) = gs

  uncoded : (xs ys : List E) (t : List Gv) → map cv.code xs ++ t ≡ map cv.code ys → IsPrefix xs ys
  uncoded [] ys t e = (ys, refl)
  uncoded (x ∷ xs) [] t e = absurd (cons≢nil e)
  uncoded (x ∷ xs) (y ∷ ys) t e = let r = uncoded xs ys t (ap tail e) in (r.0, λ i. cv.inj x y (ap (head (cv.code x)) e) i ∷ r.1 i)

  pub prefix_out : (xs ys : List E) → IsPrefix (map cv.code xs) (map cv.code ys) → IsPrefix xs ys
  prefix_out xs ys p = uncoded xs ys p.0 p.1

  joined_codes : (xs t : List E) → map cv.code xs ++ map cv.code t ≡ map cv.code (xs ++ t)
  joined_codes [] t = refl
  joined_codes (x ∷ xs) t = ap (λ (gs : List Gv). cv.code x ∷ gs) (joined_codes xs t)

  pub prefix_in : (xs t : List E) → IsPrefix (map cv.code xs) (map cv.code (xs ++ t))
  prefix_in xs t = (map cv.code t, joined_codes xs t)

  -- where two were reached on the way to one list of codes
  pub prefixes_out : (xs ys : List E) (gs : List Gv) → IsPrefix (map cv.code xs) gs → IsPrefix (map cv.code ys) gs → IsPrefix xs ys ⊎ IsPrefix ys xs
  prefixes_out xs ys gs p q =
      elim (prefixes_agree (map cv.code xs) (map cv.code ys) gs p q) [
        | inl r ↦ inl (prefix_out xs ys r)
        | inr r ↦ inr (prefix_out ys xs r)
      ]
