-- Who saw nothing owns nothing.
use Rattle.std.proofs.Common.{◌≡◌, ℕ, List, [], ◌∷◌, ◌++◌, refl, sym, subst}
use mir.Syntax.{a_type}
use mir.Val.{Val, vptr}
use mir.MapTy.{inst_fn}
use base.Logic.{SProp, ent, emp, id⊢}
use prog.Wp.{WpFn}
use types.Kit.{‵, raw, ◌⊛◌, ◌$◌, ◌∵◌, !, qed, by, keep, split, fjoin, suffices, use0}
use types.Run.{no_more, and_then, returns, enter}
use types.ByLocal.{alloc_all, pass_all, free_all, look_at, get, sets}
use types.Part.{agg}
use contract.Monad.{fact, fact_i}
use contract.Running.{tables}
use denote.Exit.{yes}
use denote.RattleType.{RattleType, owns}
use denote.Signature.{types_at, type_at, plain}
use denote.Builtin.{RefOf}
use denote.Steps.{nothing}
use denote.Param.{param, layouts}
use denote.Param.Laws.{param_laws}
use denote.Triple.Walked.{Stays, stay_dropped, walk_of, Goes-dropped}
use denote.Triple.Entry.{alive}
use Rattle.once_cell.proofs.Notes.{token}
use Rattle.std.proofs.raw_atomic.Walks.{proved_at, leaves}
use Rattle.txc_stream.specs.Names.{stored}
use Rattle.txc_stream.proofs.Standing.{Data, seen_made}
use Rattle.txc_stream.specs.contracts.row.EventRow as rows
use Rattle.txc_stream.specs.contracts.row.EventRow.unseen.{ended, clauses}
use Rattle.txc_stream.specs.contracts.row.EventRow.unseen.Key.{name as #self}
use Rattle.txc_stream.proofs.row.EventRow.unseen.Statement.{statement}
use Rattle.txc_stream.proofs.row.EventRow.unseen.Code as code

pub unseen_spec : {M : Type 1} → statement M
unseen_spec 𝓤 𝓛 𝓜 𝓡 wired T L =
    let H = 𝓛.H in let 𝓣 = tables 𝓤 H 𝓜 𝓡 𝓡.env in let R : RattleType = param 0 T in let LR = param_laws 0 T L in let En = ended T in let c = clauses T 𝓛 𝓜.mem 𝓡.returns in
    let inst = layouts (a_type ∷ []) (T, tt) in let fn = inst_fn inst code.function in
    let hs : Stays En.signature.params En.kept = (stay_dropped (RefOf (0 ∷ []) tt (plain (λ _. rows.the_row R)) (λ _. tt)) yes, tt) in
    proved_at 𝓛 En hs c 𝓜 𝓡 (Goes-dropped 𝓛 2 (RefOf (0 ∷ []) tt (plain (λ _. rows.the_row R)) (λ _. tt)) yes (λ κs x f. refl), tt) (#self inst) fn (code.unfolded 𝓤 H 𝓜 𝓡 wired (T, tt)) (λ z are.
    let κs = z.0.0 in let qs = z.0.1 in let Post : Val → SProp 𝓤 = (walk_of 𝓛 En hs c).post z in let Run : List Val → SProp 𝓤 = λ ws. WpFn 𝓤 H 𝓣.C 𝓣.Λ fn ws Post in let Out : RattleType = type_at En.signature.result κs in
    let at : Val = vptr z.0.3.0.ref_ptr.0 z.0.3.0.ref_ptr.1 in let row : List ℕ = z.0.3.0.now in let none : List R.Denot = [] in let n : Out.Denot = record { marker = record {}; name = stored row; list = none } in let GhostObjects : Type 0 = (stored row ≡ stored row) × (none ≡ none) in
    qed 𝓛 ((raw (alive 𝓛 En.signature κs qs) ⊛ ‵ (owns (types_at En.signature.params κs) z.0.3 z.0.4)) ∷ raw ((c κs z.0.3).requires z.1) ∷ []) ∵ split ! $ keep ! (0 ∷ []) $
    suffices ! (Run (at ∷ [])) (subst (λ (us : List Val). ent 𝓤 (Run (at ∷ [])) (Run us)) (sym (λ i. are.0.0 i ++ [])) (id⊢ 𝓤 (Run (at ∷ [])))) $
    enter ! 𝓣.C 𝓣.Λ fn (at ∷ []) Post $ alloc_all ! (λ l. pass_all ! refl ((tt, tt), tt) $ nothing ! $ sets ! (agg ! (no_more !)) refl (tt, tt) $ sets ! (agg ! (and_then ! (get ! refl) (no_more !))) refl (tt, (tt, tt)) $ use0 𝓛 (‵ (Data 𝓛 R)) (seen_made 𝓛 R) $ fjoin ! $
    use0 𝓛 (raw (fact 𝓤 GhostObjects)) (fact_i 𝓤 GhostObjects (emp 𝓤) (refl, refl)) $ nothing ! $ nothing ! $ fjoin ! $
    returns ! (look_at ! 0 refl) $ free_all ! refl $ keep ! (3 ∷ 0 ∷ 2 ∷ 1 ∷ []) $ by ! (leaves 𝓛 En hs c z token n (tt, tt) (tt, tt))))
