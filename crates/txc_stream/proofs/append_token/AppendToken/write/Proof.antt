-- One record more is written.
use Rattle.std.proofs.Common.{ℕ, List, [], ◌∷◌, ◌++◌, refl}
use mir.Syntax.{a_type, named}
use mir.Val.{Val, vptr, vunit}
use mir.MapTy.{inst_fn}
use base.Logic.{SProp, emp}
use base.Fml.{Fml, ftrue, fsep, flft}
use types.Kit.{‵, raw, ◌⊛◌, later, ◌$◌, ◌∵◌, !, qed, by, move, keep, split, fsplit, fsplit3, fjoin, fjoin3, use1, await, feq_i}
use types.Run.{of_opd, returns, enter, unit_lit}
use types.ByLocal.{alloc_all, pass_all, free_all, look_at, sets}
use contract.Monad.{fact_i}
use contract.Running.{tables}
use denote.Exit.{yes}
use denote.RattleType.{RattleType, owns}
use denote.Signature.{types_at, plain}
use denote.Builtin.{RefOf}
use denote.Ref.{mut_vals, mut_Tells, shr_vals, shr_Tells}
use denote.Steps.{nothing, opens, closes}
use denote.Param.{param, layouts}
use denote.Triple.Walked.{Stays, stay_dropped, stay_ref, walk_of, Goes-dropped, Goes-ref}
use Rattle.std.proofs.raw_atomic.Walks.{proved}
use Rattle.txc_stream.specs.Seen.{written}
use Rattle.txc_stream.proofs.Standing.{AppendToken, written_grows, ends}
use Rattle.txc_stream.specs.contracts.ghost_record.GhostRecord as draft
use Rattle.txc_stream.specs.contracts.append_token.AppendToken.write.{ended, clauses}
use Rattle.txc_stream.specs.contracts.append_token.AppendToken.write.Key.{name as #self}
use Rattle.txc_stream.proofs.append_token.AppendToken.write.Statement.{statement}
use Rattle.txc_stream.proofs.append_token.AppendToken.write.Code as code

pub write_spec : {M : Type 1} → statement M
write_spec 𝓤 𝓛 𝓜 𝓡 wired T L =
    let H = 𝓛.H in let 𝓣 = tables 𝓤 H 𝓜 𝓡 𝓡.env in let R : RattleType = param 0 T in let X' : RattleType = draft.the_row R in let En = ended T in
    let inst = layouts (a_type ∷ []) (T, tt) in let fn = inst_fn inst code.function in let c = clauses T 𝓛 𝓜.mem 𝓡.returns in
    let hs : Stays En.signature.params En.kept = (stay_ref (0 ∷ []) tt (plain (λ _. AppendToken 𝓛 R)), (stay_dropped (RefOf (1 ∷ []) tt (plain (λ _. X')) (λ _. tt)) yes, tt)) in
    proved 𝓛 En hs c 𝓜 𝓡 (Goes-ref 𝓛 3 0 tt (plain (λ _. AppendToken 𝓛 R)), (Goes-dropped 𝓛 3 (RefOf (1 ∷ []) tt (plain (λ _. X')) (λ _. tt)) yes (λ κs x f. refl), tt)) (#self inst) fn (code.unfolded 𝓤 H 𝓜 𝓡 wired (T, tt))
    (λ κs. (mut_vals, (shr_vals, tt))) (λ κs. (mut_Tells (named 0) κs.0 (AppendToken 𝓛 R), (shr_Tells (named 1) κs.1.0 X', tt))) (λ κs qs outlives a gh are.
    let me = a.0.now in let b : ℕ = a.0.ref_ptr.0 in let o : ℕ = a.0.ref_ptr.1 in let x = a.1.0.now in let b' : ℕ = a.1.0.ref_ptr.0 in let o' : ℕ = a.1.0.ref_ptr.1 in let more : List R.Denot = me.list ++ x.value ∷ [] in
    let y : (walk_of 𝓛 En hs c).Ghost = ((κs, qs, outlives, a, (vptr b o ∷ [], (vptr b' o' ∷ [], tt))), gh) in let Post : Val → SProp 𝓤 = (walk_of 𝓛 En hs c).post y in
    let toks : Fml = fsep (flft κs.0 qs.0) (fsep (flft κs.1.0 qs.1.0) (fsep (flft κs.1.1.0 qs.1.1.0) ftrue)) in
    qed 𝓛 ((‵ toks ⊛ ‵ (owns (types_at En.signature.params κs) a y.0.4)) ∷ raw ((c κs a).requires gh) ∷ []) ∵ keep ! (0 ∷ []) $ split ! $
    fsplit ! $ move ! (1 ∷ []) $ fsplit ! $ move ! (3 ∷ []) $ fsplit ! $ fsplit3 ! $ keep ! (1 ∷ 2 ∷ 4 ∷ 5 ∷ 6 ∷ []) $
    -- [two parts of self; the other κ; the other tokens; self's κ]
    enter ! 𝓣.C 𝓣.Λ fn (vptr b o ∷ vptr b' o' ∷ []) Post $ alloc_all ! (λ l. pass_all ! refl ((tt, tt), ((tt, tt), tt)) $
    move ! (0 ∷ 1 ∷ 4 ∷ []) $ opens ! tt (AppendToken 𝓛 R) b o (λ vs. move ! (1 ∷ []) $ fsplit ! $ move ! (1 ∷ []) $
    use1 𝓛 (later (‵ (written R me.number more))) (written_grows 𝓛 R me.number me.list x.value) $ await ! tt $ move ! (1 ∷ 0 ∷ []) $ fjoin ! $ move ! (1 ∷ 0 ∷ 2 ∷ 3 ∷ 4 ∷ []) $
    closes ! tt (AppendToken 𝓛 R) (record { marker = record {}; number = me.number; list = more }) vs b o $ sets ! (of_opd ! (unit_lit !)) refl (tt, tt) $ feq_i ! (List Val) (vunit ∷ []) (vunit ∷ []) refl $
    -- [the unit; two parts of self; self's κ; the other κ; the other tokens]
    move ! (4 ∷ 5 ∷ []) $ fjoin ! $ move ! (4 ∷ 0 ∷ []) $ fjoin ! $ nothing ! $ nothing ! $ fjoin ! $ feq_i ! (List Val) (vptr b o ∷ []) (vptr b o ∷ []) refl $ move ! (0 ∷ 4 ∷ 5 ∷ []) $ fjoin3 ! $ fjoin ! $
    returns ! (look_at ! 0 refl) $ free_all ! refl $ keep ! (1 ∷ 0 ∷ 2 ∷ []) $ by ! (ends 𝓛 En hs c y vunit tt (record { marker = record {}; number = me.number; list = more }, (tt, tt)) (tt, (tt, tt)) (fact_i 𝓤 _ (emp 𝓤) refl)))))
