-- A ghost record of a value.
use Rattle.std.proofs.Common.{ℕ, [], ◌∷◌, refl}
use seplogic.Ra.Ura.{Ura}
use mir.Syntax.{a_type, dcons, dnil, named}
use mir.Val.{Val, vptr, vstruct, vnil}
use mir.MapTy.{inst_fn}
use base.Logic.{SProp, ent, emp}
use base.Fml.{Fml, ftrue, fsep, flft}
use types.Logic.{Logic, sem}
use types.Kit.{‵, raw, ◌⊛◌, ◌$◌, ◌∵◌, !, qed, by, keep, split, fjoin, use0}
use types.Run.{no_more, and_then, returns, enter}
use types.ByLocal.{alloc_all, pass_all, free_all, look_at, get, sets}
use types.Part.{agg}
use contract.Monad.{fact_i}
use contract.Running.{tables}
use denote.Exit.{yes}
use denote.RattleType.{RattleType, owns}
use denote.Signature.{types_at, plain}
use denote.Builtin.{RefOf}
use denote.Ref.{shr_vals, shr_Tells}
use denote.Shadow.{makes_shadow}
use denote.Steps.{nothing}
use denote.Param.{param, bounded}
use denote.Struct.Struct.{Struct}
use denote.Struct.Owning.{shape}
use denote.Triple.Walked.{Stays, stay_dropped, walk_of, Goes-dropped}
use Rattle.std.proofs.raw_atomic.Walks.{proved}
use Rattle.once_cell.proofs.Notes.{token}
use Rattle.txc_stream.proofs.Standing.{ends}
use Rattle.txc_stream.specs.contracts.ghost_record.GhostRecord as drafts
use Rattle.txc_stream.specs.contracts.ghost_record.GhostRecord.of.{ended, clauses}
use Rattle.txc_stream.specs.contracts.ghost_record.GhostRecord.of.Key.{name as #self}
use Rattle.txc_stream.proofs.ghost_record.GhostRecord.of.Statement.{statement}
use Rattle.txc_stream.proofs.ghost_record.GhostRecord.of.Code as code

module _ {M : Type 1} {𝓤 : Ura M} (𝓛 : Logic 𝓤) (R : RattleType) where
  abbrev Paper : Fml
  Paper = (Struct (shape (drafts.the_type R))).own_val (tt, tt) (token ∷ [])

  paper_made : ent 𝓤 (emp 𝓤) (sem 𝓛 Paper)
  paper_made = makes_shadow 𝓛 Paper (λ vss. (tt, ((λ uss. (tt, tt)), tt))) ((vstruct vnil ∷ [], tt), (refl, ((tt, (refl, tt)), tt)))

pub of_spec : {M : Type 1} → statement M
of_spec 𝓤 𝓛 𝓜 𝓡 wired T X N _ _ _ g d _ =
    let H = 𝓛.H in let 𝓣 = tables 𝓤 H 𝓜 𝓡 𝓡.env in let R : RattleType = param 0 T in let X' : RattleType = param 1 X in let En = ended T X N g d in
    let inst = bounded (a_type ∷ a_type ∷ a_type ∷ []) (T, (X, (N, tt))) (dcons d dnil) in let fn = inst_fn inst code.function in let c = clauses T X N g d 𝓛 𝓜.mem 𝓡.returns in
    let hs : Stays En.signature.params En.kept = (stay_dropped (RefOf (0 ∷ []) tt (plain (λ _. X')) (λ _. tt)) yes, tt) in
    proved 𝓛 En hs c 𝓜 𝓡 (Goes-dropped 𝓛 4 (RefOf (0 ∷ []) tt (plain (λ _. X')) (λ _. tt)) yes (λ κs x f. refl), tt) (#self inst) fn (code.unfolded 𝓤 H 𝓜 𝓡 wired (T, (X, (N, tt))) d)
    (λ κs. (shr_vals, tt)) (λ κs. (shr_Tells (named 0) κs.0 X', tt)) (λ κs qs outlives a gh are.
    let x = a.0.now in let b : ℕ = a.0.ref_ptr.0 in let o : ℕ = a.0.ref_ptr.1 in
    let y : (walk_of 𝓛 En hs c).Ghost = ((κs, qs, outlives, a, (vptr b o ∷ [], tt)), gh) in let Post : Val → SProp 𝓤 = (walk_of 𝓛 En hs c).post y in
    let toks : Fml = fsep (flft κs.0 qs.0) (fsep (flft κs.1.0 qs.1.0) (fsep (flft κs.1.1.0 qs.1.1.0) (fsep (flft κs.1.1.1.0 qs.1.1.1.0) ftrue))) in
    qed 𝓛 ((‵ toks ⊛ ‵ (owns (types_at En.signature.params κs) a y.0.4)) ∷ raw ((c κs a).requires gh) ∷ []) ∵ keep ! (0 ∷ []) $ split ! $ keep ! (0 ∷ []) $
    enter ! 𝓣.C 𝓣.Λ fn (vptr b o ∷ []) Post $ alloc_all ! (λ l. pass_all ! refl ((tt, tt), tt) $
    nothing ! $ use0 𝓛 (‵ (Paper 𝓛 R)) (paper_made 𝓛 R) $ fjoin ! $ sets ! (agg ! (no_more !)) refl (tt, tt) $ sets ! (agg ! (and_then ! (get ! refl) (no_more !))) refl (tt, (tt, tt)) $
    -- [the ghost record; the tokens]
    nothing ! $ nothing ! $ fjoin ! $
    returns ! (look_at ! 0 refl) $ free_all ! refl $ keep ! (2 ∷ 0 ∷ 1 ∷ []) $ by ! (ends 𝓛 En hs c y token (record { marker = record {}; value = g.record_of x }) (tt, tt) (tt, tt) (fact_i 𝓤 _ (emp 𝓤) refl))))
