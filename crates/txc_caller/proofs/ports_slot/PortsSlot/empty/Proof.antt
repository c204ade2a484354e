-- `empty` makes a slot that owns nothing.
use Rattle.std.proofs.Common.{None, List, [], ◌∷◌, ◌++◌, refl, sym, subst, lit<}
use mathlib.Core.Bool.{false}
use contract.Monad.{fact}
use contract.BorrowLft.{◌⊑◌}
use contract.Running.{tables}
use mir.MapTy.{inst_fn}
use mir.Val.{Val, vstruct, vcons, vnil}
use base.Logic.{SProp, ent, id⊢}
use base.Fml.{ftrue, fsep, flft}
use prog.Wp.{WpFn}
use types.Kit.{Item, ‵, raw, ◌⊛◌, ◌$◌, ◌∵◌, !, qed, by, move, drop, use1, join, split, fsplit, fjoin, fpack, feq_i, suffices, done}
use types.Part.{agg}
use types.Run.{lit, no_more, and_then, returns, enter}
use types.ByLocal.{alloc_all, pass_all, free_all, look_at, get, sets}
use denote.Exit.{yes}
use denote.Param.{param}
use denote.RattleType.{Valss}
use denote.Builtin.{RawPtr}
use denote.RawPtr.{null_ptr, ptr_val}
use denote.Signature.{plain}
use denote.Steps.{nothing}
use denote.Struct.Struct.{within}
use denote.Struct.Owning.{shape, to}
use denote.Triple.Walked.{Stays, stay_dropped, walk_of, Goes-dropped, ends_at, says}
use Rattle.core.proofs.alloc.Calls.{handle_tells}
use Rattle.std_alloc.proofs.ResultValues.{and_tt}
use Rattle.std.proofs.raw_atomic.Walks.{proved_at}
use Rattle.std.specs.contracts.alloc.Global as Heap
use Rattle.txc_stream.specs.Names.{unstored}
use Rattle.txc_node.specs.Cache.{empty_cache_at}
use Rattle.txc_cushion.specs.Cushion.{empty_cushion}
use Rattle.txc_caller.specs.Ports.{CallerPorts}
use Rattle.txc_caller.proofs.PortsAsBox.{E, args_of}
use Rattle.txc_caller.specs.contracts.ports_slot.PortsSlot as slot
use Rattle.txc_caller.specs.contracts.ports_slot.PortsSlot.empty.{ended, clauses}
use Rattle.txc_caller.specs.contracts.ports_slot.PortsSlot.empty.Key.{name as #self}
use Rattle.txc_caller.proofs.ports_slot.PortsSlot.empty.Statement.{statement}
use Rattle.txc_caller.proofs.ports_slot.PortsSlot.empty.Code as code

-- what stands there where nothing is owned
nothing_held : CallerPorts
nothing_held = record {
  database = record { events = unstored 0; history = []; versions = []; most = 0; horizon = 0; holds = []; broken = false };
  cushion = empty_cushion (record { events = unstored 0; history = [] });
  node = record {
    settings = record { number = 0; capacity = 0; recent = 0 };
    from = 0;
    name = unstored 0;
    records = [];
    passes = 0;
    cache = empty_cache_at 0 0 0;
    seen = record { events = unstored 0; history = [] };
    broken = false;
  };
  budget = None;
}

pub empty_spec : {M : Type 1} → statement M
empty_spec 𝓤 𝓛 𝓜 𝓡 wired A L g dict met =
    let H = 𝓛.H in let 𝓣 = tables 𝓤 H 𝓜 𝓡 𝓡.env in let En = ended A g dict in let c = clauses A g dict 𝓛 𝓜.mem 𝓡.returns in let inst = args_of A dict in let fn = inst_fn inst code.function in
    let hs : Stays En.signature.params En.kept = (stay_dropped (plain (λ _. Heap.the_row)) yes, tt) in
    proved_at 𝓛 En hs c 𝓜 𝓡 (Goes-dropped 𝓛 1 (plain (λ _. Heap.the_row)) yes (λ κs x f. refl), tt) (#self inst) fn (code.unfolded 𝓤 H 𝓜 𝓡 wired (A, tt) dict) (λ z are.
    let κs = z.0.0 in let qs = z.0.1 in let Post : Val → SProp 𝓤 = (walk_of 𝓛 En hs c).post z in
    let a = z.0.3.0 in let S = slot.the_row (param 0 A) g in
    let ts : Item 𝓤 = ‵ (flft κs.0 qs.0) ⊛ ‵ ftrue in
    qed 𝓛 ((ts ⊛ ‵ (fsep (Heap.the_row.own_val a z.0.4.0) ftrue)) ∷ (raw (fact 𝓤 (κs.0 ⊑ A.lives)) ⊛ ‵ ftrue) ∷ []) ∵
    split ! $ move ! (1 ∷ []) $ fsplit ! $ move ! (3 ∷ []) $ drop ! $
    handle_tells (E A L g).al ! a z.0.4.0 (λ hv ea fits. move ! (1 ∷ []) $ drop ! $
    let w : Val = vstruct (vcons (ptr_val null_ptr) (vcons hv vnil)) in
    let made : S.Denot = record { ptr = null_ptr; alloc = a; is_full = false; value = nothing_held } in
    let Γ : List (Item 𝓤) = ‵ (Heap.the_row.own_val a (hv ∷ [])) ∷ ts ∷ [] in
    by ! (subst (λ (us : List Val). ent 𝓤 (types.Kit.⋆ 𝓛 Γ) (WpFn 𝓤 H 𝓣.C 𝓣.Λ fn (us ++ []) Post)) (sym ea)
    (qed 𝓛 Γ ∵ enter ! 𝓣.C 𝓣.Λ fn (hv ∷ []) Post $ alloc_all ! (λ l. pass_all ! refl (fits, tt) $
    sets ! (agg ! (and_then ! (lit ! tt) (and_then ! (get ! refl) (no_more !)))) refl (and_tt _ fits.0, (record { fits = lit< tt }, (fits.1, tt))) $
    returns ! (look_at ! 0 refl) $ free_all ! refl $
    nothing ! $ move ! (1 ∷ 0 ∷ []) $ fjoin ! $ feq_i ! (List Val) (ptr_val null_ptr ∷ []) (ptr_val null_ptr ∷ []) refl $ fjoin ! $
    feq_i ! (List Val) (w ∷ []) (w ∷ []) refl $ fjoin ! $
    fpack ! (Valss (RawPtr ∷ Heap.the_row ∷ [])) (within (shape (slot.the_type (param 0 A) g)) (to (slot.the_type (param 0 A) g) made) (w ∷ [])) (ptr_val null_ptr ∷ [], (hv ∷ [], tt)) $
    nothing ! $ move ! (1 ∷ 0 ∷ []) $ fjoin ! $ use1 𝓛 (‵ (S.own_val made (w ∷ []))) (id⊢ 𝓤 _) $
    suffices ! _ (ends_at 𝓛 En hs c z w made (tt, tt) (tt, tt)) $ says ! refl $
    nothing ! $ nothing ! $ fjoin ! $ join ! $ move ! (1 ∷ 0 ∷ []) $ join ! $ done !)))))
