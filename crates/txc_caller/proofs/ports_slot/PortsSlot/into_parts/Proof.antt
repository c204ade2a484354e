-- `into_parts` moves two fields, and what they own goes with them.
use mathlib.Core.Path.{◌≡◌, refl, sym, subst}
use mathlib.Core.Bool.{Bool, true}
use mathlib.Core.List.{List, [], ◌∷◌, ◌++◌}
use contract.Monad.{Fun, fact}
use contract.BorrowLft.{◌⊑◌}
use contract.Running.{tables, tables_of}
use seplogic.Ra.Ura.{Ura}
use mir.Syntax.{Dict, Fn}
use mir.MapTy.{inst_fn}
use mir.Val.{Val}
use base.Logic.{SProp, ent, id⊢}
use base.Fml.{ftrue, fsep, flft}
use prog.Memory.{Memory}
use prog.Routine.{Routine}
use prog.Wp.{WpFn, Tables}
use types.Logic.{Logic}
use sound.WpLaws.{WpFn-mono}
use types.Kit.{Item, ‵, raw, ◌⊛◌, ◌$◌, ◌∵◌, !, qed, by, move, drop, use1, join, split, fsplit, fjoin, rewrite, suffices, done}
use types.Part.{whole, sub, agg}
use types.Run.{stop, fld, no_more, and_then, of_opd, returns, enter}
use types.ByLocal.{alloc_all, pass_all, free_all, look_at, get, get_in, sets}
use denote.RattleType.{RattleType}
use denote.Param.{param}
use denote.Param.Laws.{Laws}
use denote.Exit.{no}
use denote.Signature.{type_at}
use denote.Steps.{nothing, heard}
use denote.Triple.Clauses.{Ended, Clauses}
use denote.Triple.Spec.{triple_of}
use denote.Triple.Table.{entered}
use denote.Triple.Walked.{says, Stays, stay_dropped, walk_of, ends_at, Goes-dropped, walk_Meets}
use Rattle.std_alloc.specs.Box.Ownership.{box_owns}
use Rattle.std.specs.contracts.impls.GlobalAllocator.TheImpl.{ghosts}
use Rattle.std_alloc.proofs.BoxSteps.Form.{D, B, word, box_typed}
use Rattle.std_alloc.proofs.BoxSteps.Steps.{box_out, box_in}
use Rattle.txc_rows.specs.HandleOwnership.{when}
use Rattle.txc_app.specs.declared.app.App.{Ghosts}
use Rattle.txc_caller.specs.contracts.plain_ports.PlainPorts as Core
use Rattle.txc_caller.specs.contracts.ports_slot.PortsSlot as SlotType
use Rattle.txc_caller.proofs.PortsAsBox.{E, args_of, FromSlot as From}
use Rattle.txc_caller.specs.contracts.ports_slot.PortsSlot.into_parts as F
use Rattle.txc_caller.specs.contracts.ports_slot.PortsSlot.into_parts.Key.{name as #self}
use Rattle.txc_caller.proofs.ports_slot.PortsSlot.into_parts.Statement as stated
use Rattle.txc_caller.proofs.ports_slot.PortsSlot.into_parts.Code as code

module _ (A : RattleType) (L : Laws A) (g : Ghosts A.Denot) (dict : Dict) where
  abbrev fn' : Fn
  fn' = inst_fn (args_of A dict) code.function

  abbrev ended : Ended
  ended = F.ended A g dict

  abbrev stayed : Stays ended.signature.params ended.kept
  stayed = (stay_dropped (From A L g) no, tt)

  module _ {M : Type 1} {𝓤 : Ura M} (𝓛 : Logic 𝓤) (at_mem : Memory → SProp 𝓤) (run : Routine → Fun 𝓤) (𝓣 : Tables 𝓤 𝓛.H) where
    open 𝓛 use {H}

    abbrev held : Clauses 𝓤 ended
    held = F.clauses A g dict 𝓛 at_mem run

    walk : (z : (walk_of 𝓛 ended stayed held).Ghost)
        → ent 𝓤 ((walk_of 𝓛 ended stayed held).pre z) (WpFn 𝓤 H 𝓣.C 𝓣.Λ fn' (z.0.4.0 ++ []) ((walk_of 𝓛 ended stayed held).post z))
    walk z =
        let κs = z.0.0 in let qs = z.0.1 in let Post = (walk_of 𝓛 ended stayed held).post z in
        let d = z.0.3.0 in
        let v : D (E A L g) = record { ptr = d.ptr; alloc = d.alloc; value = d.value } in
        let To = type_at ended.signature.result κs in
        let made : To.Denot = record { ptr = v.ptr; alloc = v.alloc; value = v.value } in
        let ts : Item 𝓤 = ‵ (flft κs.0 qs.0) ⊛ ‵ ftrue in
        let in_x : Item 𝓤 = raw (fact 𝓤 (κs.0 ⊑ A.lives)) in
        qed 𝓛 ((ts ⊛ ‵ (fsep ((SlotType.the_row (param 0 A) g).own_val d z.0.4.0) ftrue)) ∷ (in_x ⊛ raw (fact 𝓤 (d.is_full ≡ true))) ∷ []) ∵
        split ! $ move ! (1 ∷ []) $ fsplit ! $ move ! (3 ∷ []) $ split ! $ drop ! $ heard ! (d.is_full ≡ true) (λ full.
        fsplit ! $ move ! (1 ∷ []) $ rewrite ! 0 (λ (y : Bool). ‵ (when y (box_owns (ghosts.dealloc_token d.alloc) (Core.the_row (param 0 A) g) d.ptr d.value))) full refl $ move ! (1 ∷ []) $ fjoin ! $
        use1 𝓛 (‵ ((B (E A L g)).own_val v z.0.4.0)) (id⊢ 𝓤 _) $
        box_out (E A L g) ! v z.0.4.0 (λ b o hv e ws fa. box_in (E A L g) ! v b o v.value e refl $ use1 𝓛 (‵ (To.own_val made (word (E A L g) hv b o ∷ []))) (id⊢ 𝓤 _) $ move ! (1 ∷ []) $ drop ! $
        let w = word (E A L g) hv b o in
        let Γ : List (Item 𝓤) = ‵ (To.own_val made (w ∷ [])) ∷ ts ∷ [] in
        by ! (subst (λ (us : List Val). ent 𝓤 (types.Kit.⋆ 𝓛 Γ) (WpFn 𝓤 H 𝓣.C 𝓣.Λ fn' (us ++ []) Post)) (sym ws)
        (qed 𝓛 Γ ∵ enter ! 𝓣.C 𝓣.Λ fn' (w ∷ []) _ $ alloc_all ! (λ ls. pass_all ! refl (box_typed (E A L g) hv b o fa, tt) $
        sets ! (of_opd ! (get_in ! (fld ! refl (stop !)) (sub ! 0 refl (whole !)))) refl (tt, tt) $ sets ! (of_opd ! (get_in ! (fld ! refl (stop !)) (sub ! 1 refl (whole !)))) refl fa $
        sets ! (of_opd ! (get ! refl)) refl (tt, tt) $ sets ! (agg ! (and_then ! (get ! refl) (and_then ! (get ! refl) (no_more !)))) refl (box_typed (E A L g) hv b o fa) $ returns ! (look_at ! 0 refl) $ free_all ! refl $
        suffices ! _ (ends_at 𝓛 ended stayed held z w made (tt, tt) (tt, tt)) $ says ! refl $
        nothing ! $ nothing ! $ fjoin ! $ join ! $ move ! (1 ∷ 0 ∷ []) $ join ! $ done !)))))

pub into_parts_spec : {M : Type 1} → stated.statement M
unfolding tables_of
into_parts_spec 𝓤 𝓛 𝓜 𝓡 wired A L g dict met =
    let 𝓣 : Tables 𝓤 𝓛.H = tables_of 𝓤 𝓛.H 𝓜 (tables 𝓤 𝓛.H 𝓜 𝓡 𝓡.env) in
    let fn = fn' A L g dict in
    entered 𝓤 𝓛.H (triple_of 𝓛 (ended A L g dict).signature (F.spec A g dict 𝓛 𝓜.mem 𝓡.returns)) 𝓣.C 𝓣.Λ (#self (args_of A dict)) fn (code.unfolded 𝓤 𝓛.H 𝓜 𝓡 wired (A, tt) dict)
    (walk_Meets 𝓛 (ended A L g dict) (stayed A L g dict) (Goes-dropped 𝓛 1 (From A L g) no (λ κs x f. refl), tt) (held A L g dict 𝓛 𝓜.mem 𝓡.returns 𝓣) (WpFn 𝓤 𝓛.H 𝓣.C 𝓣.Λ fn) (WpFn-mono 𝓤 𝓛.H 𝓛.laws 𝓣 fn)
    (walk A L g dict 𝓛 𝓜.mem 𝓡.returns 𝓣))
