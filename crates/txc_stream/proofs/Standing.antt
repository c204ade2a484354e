-- Ownership of a history by observed records and append tokens: an observation can be had twice, two of one
-- history agree, and an observation begins the list of the append token. Assumes `Logic`.
use Rattle.std.proofs.Common.{◌≡◌, ℕ, zero, suc, ◌<◌, ◌⊎◌, inl, inr, List, [], ◌∷◌, ◌++◌, length, map, Some, None, slice_get, slice_index, refl, sym, subst, arith}
use seplogic.Ra.Ura.{Ura}
use mir.Val.{Val, vstruct, vnil}
use base.Fraction.{full_share}
use base.Stored.{Gv}
use base.Logic.{SProp, ent, sep, ex, guard, wand, all, emp, emp∗, never_e, via}
use base.Fml.{Lft, Share, Fml, ftrue, ffalse, fsep, fobs, fbor, flft}
use base.Growing.{Least, latest, at_least}
use base.Shift.{Keyless}
use types.Logic.{Logic, sem}
use types.Owned.{basic}
use types.Growing.{latest_new, latest_grows, latest_shows, latest_bounds, at_least_dup, at_least_join}
use types.SemTy.{Body}
use types.Kit.{‵, raw, ◌⊛◌, some, given, ◌$◌, ◌∵◌, !, qed, by, move, keep, split, fsplit, fjoin, frame, pick, learn, check, each, assume, updating, use0, use1, use2, now, done}
use contract.Monad.{fact, fact_i}
use denote.RattleType.{RattleType}
use denote.Memory.{mem}
use denote.Shadow.{makes_shadow}
use denote.Signature.{type_at}
use denote.Steps.{heard, opens, closes}
use denote.Struct.Struct.{Struct}
use denote.Struct.Owning.{shape}
use denote.Triple.Clauses.{Ended, Clauses, Lasts, at_exit}
use denote.Triple.Entry.{Res, alive}
use denote.Triple.Walked.{Stays, Fit, has_of, walk_of}
use mathlib.Core.List.{IsPrefix}
use Rattle.std.specs.declared.option.Option.{Option}
use Rattle.once_cell.specs.Once.{noted}
use Rattle.once_cell.proofs.Notes as notes
use Rattle.once_cell.proofs.Notes.{token}
use Rattle.std.proofs.raw_atomic.Walks.{leaves}
use Rattle.txc_stream.specs.Names.{Name, stored, unstored}
use Rattle.txc_stream.specs.Seen.{stand, growing_lists, written, reached, begins, IsCellAt, IsCellAfter, with_known}
use Rattle.txc_stream.specs.contracts.seen.Seen as seen
use Rattle.txc_stream.specs.contracts.append_token.AppendToken as pen
use Rattle.txc_stream.proofs.Codes.{prefix_in, prefix_out, prefixes_out}

-- two lists with the same first element
longer_by : {A : Type 0} (x y : A) (xs ys : List A) → x ≡ y → IsPrefix xs ys ⊎ IsPrefix ys xs → IsPrefix (x ∷ xs) (y ∷ ys) ⊎ IsPrefix (y ∷ ys) (x ∷ xs)
longer_by x y xs ys same (inl p) = inl (p.0, cc (same, p.1))
longer_by x y xs ys same (inr p) = inr (p.0, cc (same, p.1))

-- ---- no thread is named

stand_keyless : (R : RattleType) (xs : List R.Denot) (row : List ℕ) → Keyless (stand R xs row)
stand_keyless R [] row = tt
stand_keyless R (x ∷ xs) [] = tt
stand_keyless R (x ∷ xs) (γ ∷ row) = (tt, stand_keyless R xs row)

reached_keyless : (R : RattleType) (γ : ℕ) (xs : List R.Denot) → Keyless (reached R γ xs)
unfolding at_least
reached_keyless R γ xs = tt

pub written_keyless : (R : RattleType) (γ : ℕ) (xs : List R.Denot) → Keyless (written R γ xs)
unfolding latest
written_keyless R γ xs = tt

pub begins_keyless : (R : RattleType) (xs : List R.Denot) (n : Name) → Keyless (begins R xs n)
begins_keyless R xs (stored row) = stand_keyless R xs row
begins_keyless R xs (unstored γ) = reached_keyless R γ xs

module _ {M : Type 1} {𝓤 : Ura M} (𝓛 : Logic 𝓤) (R : RattleType) where
  abbrev pub Seen : RattleType
  Seen = seen.the_row R

  abbrev pub Data : Fml
  Data = (Struct (shape (seen.the_type R))).own_val (tt, tt) (token ∷ [])

  pub seen_made : ent 𝓤 (emp 𝓤) (sem 𝓛 Data)
  seen_made = makes_shadow 𝓛 Data (λ vss. (tt, ((λ uss. (tt, tt)), tt))) ((vstruct vnil ∷ [], tt), (refl, ((tt, (refl, tt)), tt)))

  -- ---- stored histories

  stand_twice : (xs : List R.Denot) (row : List ℕ) → ent 𝓤 (sem 𝓛 (stand R xs row)) (sep 𝓤 (sem 𝓛 (stand R xs row)) (sem 𝓛 (stand R xs row)))
  stand_twice [] row = emp∗ 𝓤 (emp 𝓤)
  stand_twice (x ∷ xs) [] = never_e 𝓤 _
  stand_twice (x ∷ xs) (γ ∷ row) = let P : Fml = noted R γ (Some x) in let Q : Fml = stand R xs row in
      qed 𝓛 (‵ (stand R (x ∷ xs) (γ ∷ row)) ∷ []) ∵ fsplit ! $ use1 𝓛 (‵ P ⊛ ‵ P) (notes.noted_twice 𝓛 R γ (Some x)) $ split ! $ move ! (2 ∷ []) $ use1 𝓛 (‵ Q ⊛ ‵ Q) (stand_twice xs row) $ split ! $
      -- [the others; the others; the first; the first]
      move ! (2 ∷ 0 ∷ []) $ fjoin ! $ move ! (2 ∷ 1 ∷ []) $ fjoin ! $ done !

  stand_agree : (xs ys : List R.Denot) (row : List ℕ) → ent 𝓤 (sep 𝓤 (sem 𝓛 (stand R xs row)) (sem 𝓛 (stand R ys row))) (fact 𝓤 (IsPrefix xs ys ⊎ IsPrefix ys xs))
  stand_agree [] ys row = fact_i 𝓤 _ _ (inl (ys, refl))
  stand_agree (x ∷ xs) [] row = fact_i 𝓤 _ _ (inr (x ∷ xs, refl))
  stand_agree (x ∷ xs) (y ∷ ys) [] = qed 𝓛 (‵ ffalse ∷ ‵ ffalse ∷ []) ∵ keep ! (0 ∷ []) $ by ! (never_e 𝓤 _)
  stand_agree (x ∷ xs) (y ∷ ys) (γ ∷ row) = let So : Type 0 = x ≡ y in let Rest : Type 0 = IsPrefix xs ys ⊎ IsPrefix ys xs in
      qed 𝓛 (‵ (stand R (x ∷ xs) (γ ∷ row)) ∷ ‵ (stand R (y ∷ ys) (γ ∷ row)) ∷ []) ∵ fsplit ! $ move ! (2 ∷ []) $ fsplit ! $
      -- [the second's first; its others; the first's first; its others]
      move ! (2 ∷ 0 ∷ []) $ use2 𝓛 (raw (fact 𝓤 So)) (notes.noted_agree 𝓛 R γ (Some x) (Some y)) $ heard ! So (λ so. move ! (1 ∷ 0 ∷ []) $ use2 𝓛 (raw (fact 𝓤 Rest)) (stand_agree xs ys row) $ heard ! Rest (λ rest.
      by ! (fact_i 𝓤 _ _ (longer_by x y xs ys so rest))))

  -- what stands in one of the cells
  stand_at : (xs : List R.Denot) (row : List ℕ) (at : ℕ) → at < length xs → ent 𝓤 (sem 𝓛 (stand R xs row)) (sem 𝓛 (noted R (slice_index row at) (slice_get xs at)))
  stand_at [] row at below = absurd (omega (arith, below))
  stand_at (x ∷ xs) [] at below = never_e 𝓤 _
  stand_at (x ∷ xs) (γ ∷ row) zero below = qed 𝓛 (‵ (stand R (x ∷ xs) (γ ∷ row)) ∷ []) ∵ fsplit ! $ keep ! (0 ∷ []) $ done !
  stand_at (x ∷ xs) (γ ∷ row) (suc at) below = qed 𝓛 (‵ (stand R (x ∷ xs) (γ ∷ row)) ∷ []) ∵ fsplit ! $ keep ! (1 ∷ []) $ by ! (stand_at xs row at (omega (arith, below)))

  -- one more
  stand_push : (xs : List R.Denot) (row : List ℕ) (x : R.Denot) → length xs < length row → ent 𝓤 (sep 𝓤 (sem 𝓛 (stand R xs row)) (sem 𝓛 (noted R (slice_index row (length xs)) (Some x)))) (sem 𝓛 (stand R (xs ++ x ∷ []) row))
  stand_push [] [] x below = absurd (omega (arith, below))
  stand_push [] (γ ∷ row) x below = qed 𝓛 (‵ ftrue ∷ ‵ (noted R γ (Some x)) ∷ []) ∵ move ! (1 ∷ 0 ∷ []) $ fjoin ! $ done !
  stand_push (y ∷ xs) [] x below = absurd (omega (arith, below))
  stand_push (y ∷ xs) (γ ∷ row) x below = let i : ℕ = slice_index row (length xs) in
      qed 𝓛 (‵ (stand R (y ∷ xs) (γ ∷ row)) ∷ ‵ (noted R i (Some x)) ∷ []) ∵ fsplit ! $ move ! (1 ∷ 2 ∷ []) $ use2 𝓛 (‵ (stand R (xs ++ x ∷ []) row)) (stand_push xs row x (omega (arith, below))) $ move ! (1 ∷ 0 ∷ []) $ fjoin ! $ done !

  stand_more : (xs : List R.Denot) (row : List ℕ) (k : Option R.Denot) → length xs < length row → ent 𝓤 (sep 𝓤 (sem 𝓛 (stand R xs row)) (sem 𝓛 (noted R (slice_index row (length xs)) k))) (sem 𝓛 (stand R (with_known xs k) row))
  stand_more xs row None below = qed 𝓛 (‵ (stand R xs row) ∷ ‵ ftrue ∷ []) ∵ keep ! (0 ∷ []) $ done !
  stand_more xs row (Some x) below = stand_push xs row x below

  -- ---- histories that exist in the proofs alone

  abbrev pub AppendToken : RattleType
  AppendToken = pen.the_row R

  abbrev pub Blank : Fml
  Blank = (Struct (shape (pen.the_type R))).own_val (tt, tt) (token ∷ [])

  pub pen_made : ent 𝓤 (emp 𝓤) (sem 𝓛 Blank)
  pen_made = makes_shadow 𝓛 Blank (λ vss. (tt, ((λ uss. (tt, tt)), tt))) ((vstruct vnil ∷ [], tt), (refl, ((tt, (refl, tt)), tt)))

  abbrev codes : List R.Denot → List Gv
  codes xs = map R.coded.code xs

  abbrev pub Begun : ℕ → SProp 𝓤
  Begun γ = sem 𝓛 (written R γ [])

  pub written_new : ent 𝓤 (emp 𝓤) (𝓛.H.⇛ (ex 𝓤 Begun))
  written_new = via 𝓤 _ (latest_new growing_lists 𝓛 []) (basic 𝓛 _)

  pub written_grows : (γ : ℕ) (xs : List R.Denot) (x : R.Denot) → ent 𝓤 (sem 𝓛 (written R γ xs)) (𝓛.H.⇛ (sem 𝓛 (written R γ (xs ++ x ∷ []))))
  written_grows γ xs x = via 𝓤 _ (latest_grows growing_lists 𝓛 γ (codes xs) (codes (xs ++ x ∷ [])) (prefix_in R.coded xs (x ∷ []))) (basic 𝓛 _)

  pub written_shows : (γ : ℕ) (xs : List R.Denot) → ent 𝓤 (sem 𝓛 (written R γ xs)) (sep 𝓤 (sem 𝓛 (written R γ xs)) (sem 𝓛 (begins R xs (unstored γ))))
  written_shows γ xs = latest_shows growing_lists 𝓛 full_share γ (codes xs) (codes xs) (growing_lists.same (codes xs))

  pub written_bounds : (γ : ℕ) (all xs : List R.Denot) → ent 𝓤 (sep 𝓤 (sem 𝓛 (written R γ all)) (sem 𝓛 (begins R xs (unstored γ)))) (guard 𝓤 (IsPrefix xs all) (sep 𝓤 (sem 𝓛 (written R γ all)) (sem 𝓛 (begins R xs (unstored γ)))))
  written_bounds γ all xs = qed 𝓛 (‵ (written R γ all) ∷ ‵ (reached R γ xs) ∷ []) ∵
      use2 𝓛 (given (IsPrefix (codes xs) (codes all)) (‵ (written R γ all) ⊛ ‵ (reached R γ xs))) (latest_bounds growing_lists 𝓛 full_share γ (codes all) (codes xs)) $
      learn ! (λ p. check ! (prefix_out R.coded xs all p) $ done !)

  reached_agree : (γ : ℕ) (xs ys : List R.Denot) → ent 𝓤 (sep 𝓤 (sem 𝓛 (reached R γ xs)) (sem 𝓛 (reached R γ ys))) (fact 𝓤 (IsPrefix xs ys ⊎ IsPrefix ys xs))
  reached_agree γ xs ys = qed 𝓛 (‵ (reached R γ xs) ∷ ‵ (reached R γ ys) ∷ []) ∵
      use2 𝓛 (some (λ (gs : List Gv). given (Least growing_lists.le (codes xs) (codes ys) gs) (‵ (at_least growing_lists γ gs)))) (at_least_join growing_lists 𝓛 γ (codes xs) (codes ys)) $
      pick ! (λ gs. learn ! (λ least. by ! (fact_i 𝓤 _ _ (prefixes_out R.coded xs ys gs least.0 least.1))))

  -- ---- either

  pub begins_twice : (xs : List R.Denot) (n : Name) → ent 𝓤 (sem 𝓛 (begins R xs n)) (sep 𝓤 (sem 𝓛 (begins R xs n)) (sem 𝓛 (begins R xs n)))
  begins_twice xs (stored row) = stand_twice xs row
  begins_twice xs (unstored γ) = at_least_dup growing_lists 𝓛 γ (codes xs)

  pub begins_agree : (xs ys : List R.Denot) (n : Name) → ent 𝓤 (sep 𝓤 (sem 𝓛 (begins R xs n)) (sem 𝓛 (begins R ys n))) (fact 𝓤 (IsPrefix xs ys ⊎ IsPrefix ys xs))
  begins_agree xs ys (stored row) = stand_agree xs ys row
  begins_agree xs ys (unstored γ) = reached_agree γ xs ys

  pub begins_at : (xs : List R.Denot) (n : Name) (at γ : ℕ) → at < length xs → IsCellAt n at γ → ent 𝓤 (sem 𝓛 (begins R xs n)) (sem 𝓛 (noted R γ (slice_get xs at)))
  begins_at xs (stored row) at γ below is = subst (λ (k : ℕ). ent 𝓤 (sem 𝓛 (stand R xs row)) (sem 𝓛 (noted R k (slice_get xs at)))) (sym is) (stand_at xs row at below)
  begins_at xs (unstored number) at γ below is = absurd is

  pub begins_more : (xs : List R.Denot) (n : Name) (k : Option R.Denot) (γ : ℕ) → IsCellAfter n (length xs) γ → ent 𝓤 (sep 𝓤 (sem 𝓛 (begins R xs n)) (sem 𝓛 (noted R γ k))) (sem 𝓛 (begins R (with_known xs k) n))
  begins_more xs (stored row) k γ is = subst (λ (c : ℕ). ent 𝓤 (sep 𝓤 (sem 𝓛 (stand R xs row)) (sem 𝓛 (noted R c k))) (sem 𝓛 (stand R (with_known xs k) row))) (sym is.1) (stand_more xs row k is.0)
  begins_more xs (unstored number) k γ is = absurd is

  module _ (κ : Lft) (q : Share) (b o ν : ℕ) where
    abbrev pub lent : Seen.Denot → Fml
    lent s = fsep (fobs ν (Seen.coded.code s)) (fbor κ (Body (mem Seen) b o ν))

    abbrev pub Shuts : Seen.Denot → SProp 𝓤
    Shuts s = wand 𝓤 (sem 𝓛 (begins R s.list s.name)) (𝓛.H.⇛ (sep 𝓤 (sem 𝓛 (lent s)) (𝓛.A.lft κ q)))

    pub seen_opens : (s : Seen.Denot) → ent 𝓤 (sep 𝓤 (sem 𝓛 (lent s)) (𝓛.A.lft κ q)) (𝓛.H.⇛ (sep 𝓤 (sem 𝓛 (begins R s.list s.name)) (all 𝓤 Shuts)))
    seen_opens s = qed 𝓛 (‵ (lent s) ∷ ‵ (flft κ q) ∷ []) ∵ updating ! $ fsplit ! $ opens ! tt Seen b o (λ vs. move ! (1 ∷ []) $ fsplit ! $ now ! $ move ! (1 ∷ []) $ frame ! $
        each ! Shuts (λ m. assume ! (‵ (begins R m.list m.name)) $ updating ! $ move ! (1 ∷ []) $ fjoin ! $ move ! (1 ∷ 0 ∷ []) $ closes ! tt Seen m vs b o $ fjoin ! $ now ! $ done !))

-- how a walk ends: with the tokens, what is left of the parameters, and the result
pub ends : {M : Type 1} {𝓤 : Ura M} (𝓛 : Logic 𝓤) (T : Ended) (hs : Stays T.signature.params T.kept) (c : Clauses 𝓤 T) (y : (walk_of 𝓛 T hs c).Ghost) (v : Val) (r : Res T.signature y.0.0) (ws : Lasts T y.0.0 y.0.3)
    → Fit T hs y.0.0 y.0.3 ws → ent 𝓤 (emp 𝓤) ((c y.0.0 y.0.3).ensures y.1 r (at_exit T y.0.0 y.0.3 ws))
    → ent 𝓤 (sep 𝓤 (alive 𝓛 T.signature y.0.0 y.0.1) (sep 𝓤 (sem 𝓛 (has_of y.0.0 T.signature.params T.kept hs y.0.3 ws y.0.4)) (sem 𝓛 ((type_at T.signature.result y.0.0).own_val r (v ∷ []))))) ((walk_of 𝓛 T hs c).post y v)
ends 𝓛 T hs c y v r ws fit told = qed 𝓛 (raw (alive 𝓛 T.signature y.0.0 y.0.1) ∷ ‵ (has_of y.0.0 T.signature.params T.kept hs y.0.3 ws y.0.4) ∷ ‵ ((type_at T.signature.result y.0.0).own_val r (v ∷ [])) ∷ []) ∵
    use0 𝓛 (raw ((c y.0.0 y.0.3).ensures y.1 r (at_exit T y.0.0 y.0.3 ws))) told $ move ! (1 ∷ 2 ∷ 3 ∷ []) $ by ! (leaves 𝓛 T hs c y v r ws fit)
