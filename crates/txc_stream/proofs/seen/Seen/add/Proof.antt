-- What a note knows comes after what was seen. No code does it.
use Rattle.std.proofs.Common.{◌≡◌, ℕ, List, [], ◌∷◌, ◌++◌, length, refl, sym, subst}
use mir.Syntax.{a_type}
use mir.Val.{Val, vptr, vunit}
use mir.MapTy.{inst_fn}
use base.Logic.{SProp, ent, emp, id⊢, apply∗, all, all_e}
use base.Fml.{Lft, Share, ftrue, flft}
use prog.Wp.{WpFn}
use types.Logic.{sem}
use types.Kit.{‵, raw, ◌⊛◌, later, ◌$◌, ◌∵◌, !, qed, by, move, keep, drop, split, split3, join, fsplit, fsplit3, fjoin, suffices, use0, use1, use2, await, feq_i}
use types.Run.{of_opd, returns, enter, unit_lit}
use types.ByLocal.{alloc_all, pass_all, free_all, look_at, sets}
use contract.Monad.{fact, fact_i}
use contract.BorrowLft.{◌⊑◌}
use contract.Running.{tables}
use denote.Exit.{yes}
use denote.RattleType.{RattleType, owns}
use denote.Signature.{types_at, plain}
use denote.Builtin.{RefOf}
use denote.Steps.{nothing, heard}
use denote.Param.{param, layouts}
use denote.Param.Laws.{param_laws}
use denote.Triple.Walked.{Stays, stay_dropped, walk_of, Goes-dropped, stay_ref, Goes-ref}
use Rattle.once_cell.specs.Once.{noted}
use Rattle.once_cell.proofs.Notes.{Note}
use Rattle.std.proofs.raw_atomic.Walks.{proved_at, leaves}
use Rattle.txc_stream.specs.Seen.{begins, IsCellAfter, with_known}
use Rattle.txc_stream.proofs.Standing as standing
use Rattle.txc_stream.proofs.Standing.{Seen, begins_more}
use Rattle.txc_stream.proofs.Shared.{note_reads}
use Rattle.txc_stream.specs.contracts.seen.Seen.add.{ended, clauses}
use Rattle.txc_stream.specs.contracts.seen.Seen.add.Key.{name as #self}
use Rattle.txc_stream.proofs.seen.Seen.add.Statement.{statement}
use Rattle.txc_stream.proofs.seen.Seen.add.Code as code

pub add_spec : {M : Type 1} → statement M
add_spec 𝓤 𝓛 𝓜 𝓡 wired T L =
    let H = 𝓛.H in let 𝓣 = tables 𝓤 H 𝓜 𝓡 𝓡.env in let R : RattleType = param 0 T in let LR = param_laws 0 T L in let En = ended T in let c = clauses T 𝓛 𝓜.mem 𝓡.returns in
    let inst = layouts (a_type ∷ []) (T, tt) in let fn = inst_fn inst code.function in
    let hs : Stays En.signature.params En.kept = (stay_ref (0 ∷ []) tt (plain (λ _. Seen 𝓛 R)), (stay_dropped (RefOf (1 ∷ []) tt (plain (λ _. Note 𝓛 R)) (λ _. tt)) yes, tt)) in
    proved_at 𝓛 En hs c 𝓜 𝓡 (Goes-ref 𝓛 3 0 tt (plain (λ _. Seen 𝓛 R)), (Goes-dropped 𝓛 3 (RefOf (1 ∷ []) tt (plain (λ _. Note 𝓛 R)) (λ _. tt)) yes (λ κs x f. refl), tt)) (#self inst) fn (code.unfolded 𝓤 H 𝓜 𝓡 wired (T, tt)) (λ z are.
    let κs = z.0.0 in let qs = z.0.1 in let Post : Val → SProp 𝓤 = (walk_of 𝓛 En hs c).post z in let Run : List Val → SProp 𝓤 = λ ws. WpFn 𝓤 H 𝓣.C 𝓣.Λ fn ws Post in
    let m = z.0.3.0 in let nb₀ : ℕ = m.ref_ptr.0 in let no₀ : ℕ = m.ref_ptr.1 in let ν₀ : ℕ = m.ghost_name in let s = m.now in let κ' : Lft = κs.0 in let q' : Share = qs.0 in
    let b : ℕ = z.0.3.1.0.ref_ptr.0 in let o : ℕ = z.0.3.1.0.ref_ptr.1 in let x = z.0.3.1.0.now in let κ : Lft = κs.1.0 in let q : Share = qs.1.0 in let μ : Lft = κs.1.1.0 in let r : Share = qs.1.1.0 in
    let more : List R.Denot = with_known s.list x.known in let Asked : Type 0 = IsCellAfter s.name (length s.list) x.cell in
    let Shuts = standing.Shuts 𝓛 R κ' q' nb₀ no₀ ν₀ in let n : (Seen 𝓛 R).Denot = record { marker = s.marker; name = s.name; list = more } in let GhostObjects : Type 0 = (s.name ≡ s.name) × (more ≡ more) in
    qed 𝓛 (((‵ (flft κ' q') ⊛ ‵ (flft κ q) ⊛ ‵ (flft μ r) ⊛ ‵ ftrue) ⊛ ‵ (owns (types_at En.signature.params κs) z.0.3 z.0.4)) ∷ raw (fact 𝓤 (μ ⊑ T.lives)) ∷ raw (fact 𝓤 Asked) ∷ []) ∵
    move ! (2 ∷ []) $ heard ! Asked (λ asked. keep ! (0 ∷ []) $ split ! $ split3 ! $ move ! (2 ∷ []) $ split ! $ move ! (4 ∷ []) $ fsplit3 ! $ fsplit ! $ keep ! (1 ∷ 2 ∷ 7 ∷ 6 ∷ 4 ∷ []) $
    -- [what was seen; the note; κ; κ'; μ]
    suffices ! (Run (vptr nb₀ no₀ ∷ vptr b o ∷ [])) (subst (λ (us : List Val). ent 𝓤 (Run (vptr nb₀ no₀ ∷ vptr b o ∷ [])) (Run us)) (sym (λ i. are.0.0 i ++ (are.1.0.0 i ++ []))) (id⊢ 𝓤 (Run (vptr nb₀ no₀ ∷ vptr b o ∷ [])))) $
    enter ! 𝓣.C 𝓣.Λ fn (vptr nb₀ no₀ ∷ vptr b o ∷ []) Post $ alloc_all ! (λ l. pass_all ! refl ((tt, tt), ((tt, tt), tt)) $
    move ! (0 ∷ 3 ∷ []) $ use2 𝓛 (later (‵ (begins R s.list s.name) ⊛ raw (all 𝓤 Shuts))) (standing.seen_opens 𝓛 R κ' q' nb₀ no₀ ν₀ s) $ await ! tt $ split ! $ move ! (2 ∷ []) $ fsplit ! $ drop ! $
    -- [what the note's `&` holds; what stands; the way back; κ; μ]
    move ! (0 ∷ 3 ∷ []) $ use2 𝓛 (later (‵ (noted R x.cell x.known) ⊛ ‵ (flft κ q))) (note_reads 𝓛 R κ q x b o) $ await ! tt $ split ! $
    move ! (2 ∷ 0 ∷ []) $ use2 𝓛 (‵ (begins R more s.name)) (begins_more 𝓛 R s.list s.name x.known x.cell asked) $
    -- [what stands now; κ; the way back; μ]
    move ! (2 ∷ []) $ use1 𝓛 (raw (Shuts n)) (all_e 𝓤 Shuts n) $ move ! (1 ∷ 0 ∷ []) $ use2 𝓛 (later (‵ (standing.lent 𝓛 R κ' q' nb₀ no₀ ν₀ n) ⊛ ‵ (flft κ' q'))) (apply∗ 𝓤 (sem 𝓛 (begins R more s.name)) _) $ await ! tt $ split ! $
    -- [what was seen; κ'; κ; μ]
    feq_i ! (List Val) z.0.4.0 (vptr nb₀ no₀ ∷ []) are.0.0 $ fjoin ! $ nothing ! $ nothing ! $ fjoin ! $ move ! (1 ∷ 0 ∷ []) $ fjoin ! $
    move ! (3 ∷ []) $ nothing ! $ move ! (1 ∷ 0 ∷ []) $ join ! $ move ! (3 ∷ 0 ∷ []) $ join ! $ move ! (2 ∷ 0 ∷ []) $ join ! $
    sets ! (of_opd ! (unit_lit !)) refl (tt, tt) $ feq_i ! (List Val) (vunit ∷ []) (vunit ∷ []) refl $ use0 𝓛 (raw (fact 𝓤 GhostObjects)) (fact_i 𝓤 GhostObjects (emp 𝓤) (refl, refl)) $
    returns ! (look_at ! 0 refl) $ free_all ! refl $ keep ! (2 ∷ 3 ∷ 1 ∷ 0 ∷ []) $ by ! (leaves 𝓛 En hs c z vunit tt (n, (tt, tt)) (tt, (tt, tt))))))
