-- Of two lists that were seen of one row, one is a prefix of the other. No code shows it.
use Rattle.std.proofs.Common.{◌≡◌, ℕ, List, [], ◌∷◌, ◌++◌, ◌⊎◌, refl, sym, subst}
use mir.Syntax.{a_type}
use mir.Val.{Val, vptr, vunit}
use mir.MapTy.{inst_fn}
use base.Logic.{SProp, ent, emp, id⊢}
use base.Fml.{Lft, Share, ftrue, flft}
use prog.Wp.{WpFn}
use types.Kit.{‵, raw, ◌⊛◌, later, ◌$◌, ◌∵◌, !, qed, by, move, keep, split, split3, join, fsplit, fsplit3, fjoin, suffices, use0, use2, await, rewrite, feq_i}
use types.Run.{of_opd, returns, enter, unit_lit}
use types.ByLocal.{alloc_all, pass_all, free_all, look_at, sets}
use contract.Monad.{fact, fact_i}
use contract.BorrowLft.{◌⊑◌}
use contract.Running.{tables}
use denote.Exit.{yes}
use denote.RattleType.{RattleType, owns}
use denote.Signature.{types_at, plain}
use denote.Builtin.{RefOf}
use denote.Steps.{nothing, heard}
use denote.Param.{param, layouts}
use denote.Param.Laws.{param_laws}
use denote.Triple.Walked.{Stays, stay_dropped, walk_of, Goes-dropped}
use mathlib.Core.List.{IsPrefix}
use Rattle.std.proofs.raw_atomic.Walks.{proved_at, leaves}
use Rattle.txc_stream.specs.Names.{Name}
use Rattle.txc_stream.specs.Seen.{begins}
use Rattle.txc_stream.proofs.Standing.{Seen, begins_agree}
use Rattle.txc_stream.proofs.Shared.{seen_reads}
use Rattle.txc_stream.specs.contracts.seen.Seen.agree.{ended, clauses}
use Rattle.txc_stream.specs.contracts.seen.Seen.agree.Key.{name as #self}
use Rattle.txc_stream.proofs.seen.Seen.agree.Statement.{statement}
use Rattle.txc_stream.proofs.seen.Seen.agree.Code as code

pub agree_spec : {M : Type 1} → statement M
agree_spec 𝓤 𝓛 𝓜 𝓡 wired T L =
    let H = 𝓛.H in let 𝓣 = tables 𝓤 H 𝓜 𝓡 𝓡.env in let R : RattleType = param 0 T in let LR = param_laws 0 T L in let En = ended T in let c = clauses T 𝓛 𝓜.mem 𝓡.returns in
    let inst = layouts (a_type ∷ []) (T, tt) in let fn = inst_fn inst code.function in
    let hs : Stays En.signature.params En.kept = (stay_dropped (RefOf (0 ∷ []) tt (plain (λ _. Seen 𝓛 R)) (λ _. tt)) yes, (stay_dropped (RefOf (1 ∷ []) tt (plain (λ _. Seen 𝓛 R)) (λ _. tt)) yes, tt)) in
    proved_at 𝓛 En hs c 𝓜 𝓡 (Goes-dropped 𝓛 3 (RefOf (0 ∷ []) tt (plain (λ _. Seen 𝓛 R)) (λ _. tt)) yes (λ κs x f. refl), (Goes-dropped 𝓛 3 (RefOf (1 ∷ []) tt (plain (λ _. Seen 𝓛 R)) (λ _. tt)) yes (λ κs x f. refl), tt)) (#self inst) fn (code.unfolded 𝓤 H 𝓜 𝓡 wired (T, tt)) (λ z are.
    let κs = z.0.0 in let qs = z.0.1 in let Post : Val → SProp 𝓤 = (walk_of 𝓛 En hs c).post z in let Run : List Val → SProp 𝓤 = λ ws. WpFn 𝓤 H 𝓣.C 𝓣.Λ fn ws Post in
    let b : ℕ = z.0.3.0.ref_ptr.0 in let o : ℕ = z.0.3.0.ref_ptr.1 in let x = z.0.3.0.now in let κ : Lft = κs.0 in let q : Share = qs.0 in let μ : Lft = κs.1.1.0 in let r : Share = qs.1.1.0 in
    let b' : ℕ = z.0.3.1.0.ref_ptr.0 in let o' : ℕ = z.0.3.1.0.ref_ptr.1 in let y = z.0.3.1.0.now in let κ' : Lft = κs.1.0 in let q' : Share = qs.1.0 in let So : Type 0 = IsPrefix x.list y.list ⊎ IsPrefix y.list x.list in
    qed 𝓛 (((‵ (flft κ q) ⊛ ‵ (flft κ' q') ⊛ ‵ (flft μ r) ⊛ ‵ ftrue) ⊛ ‵ (owns (types_at En.signature.params κs) z.0.3 z.0.4)) ∷ raw (fact 𝓤 (μ ⊑ T.lives)) ∷ raw (fact 𝓤 (x.name ≡ y.name)) ∷ []) ∵
    move ! (2 ∷ []) $ heard ! (x.name ≡ y.name) (λ same. keep ! (0 ∷ []) $ split ! $ split3 ! $ move ! (2 ∷ []) $ split ! $ move ! (4 ∷ []) $ fsplit3 ! $ fsplit ! $ move ! (2 ∷ []) $ fsplit ! $ keep ! (3 ∷ 1 ∷ 7 ∷ 8 ∷ 5 ∷ []) $
    -- [what the one `&` holds; the other; κ; κ'; μ]
    suffices ! (Run (vptr b o ∷ vptr b' o' ∷ [])) (subst (λ (us : List Val). ent 𝓤 (Run (vptr b o ∷ vptr b' o' ∷ [])) (Run us)) (sym (λ i. are.0.0 i ++ (are.1.0.0 i ++ []))) (id⊢ 𝓤 (Run (vptr b o ∷ vptr b' o' ∷ [])))) $
    enter ! 𝓣.C 𝓣.Λ fn (vptr b o ∷ vptr b' o' ∷ []) Post $ alloc_all ! (λ l. pass_all ! refl ((tt, tt), ((tt, tt), tt)) $
    move ! (0 ∷ 2 ∷ []) $ use2 𝓛 (later (‵ (begins R x.list x.name) ⊛ ‵ (flft κ q))) (seen_reads 𝓛 R κ q x b o) $ await ! tt $ split ! $
    move ! (2 ∷ 3 ∷ []) $ use2 𝓛 (later (‵ (begins R y.list y.name) ⊛ ‵ (flft κ' q'))) (seen_reads 𝓛 R κ' q' y b' o') $ await ! tt $ split ! $
    -- [what the other knows; κ'; what the one knows; κ; μ]
    move ! (2 ∷ []) $ rewrite ! 0 (λ (n : Name). ‵ (begins R x.list n)) same refl $ move ! (0 ∷ 1 ∷ []) $ use2 𝓛 (raw (fact 𝓤 So)) (begins_agree 𝓛 R x.list y.list y.name) $ heard ! So (λ so.
    -- [κ'; κ; μ]
    nothing ! $ nothing ! $ fjoin ! $ nothing ! $ fjoin ! $ move ! (3 ∷ []) $ nothing ! $ move ! (1 ∷ 0 ∷ []) $ join ! $ move ! (2 ∷ 0 ∷ []) $ join ! $ move ! (2 ∷ 0 ∷ []) $ join ! $
    sets ! (of_opd ! (unit_lit !)) refl (tt, tt) $ feq_i ! (List Val) (vunit ∷ []) (vunit ∷ []) refl $ use0 𝓛 (raw (fact 𝓤 So)) (fact_i 𝓤 So (emp 𝓤) so) $
    returns ! (look_at ! 0 refl) $ free_all ! refl $ keep ! (2 ∷ 3 ∷ 1 ∷ 0 ∷ []) $ by ! (leaves 𝓛 En hs c z vunit tt (tt, (tt, tt)) (tt, (tt, tt)))))))
