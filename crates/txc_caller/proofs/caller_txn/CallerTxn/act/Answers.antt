use Rattle.std.proofs.Common.{◌≡◌, ◌∙◌, true, None, Option, Some, ap, refl, sym, subst}
use Rattle.std.specs.Prelude.{IsSome}
use Rattle.txc_tags.specs.Keys.{Call}
use Rattle.txc_call_registry.specs.Objects.{AllIdle}
use Rattle.txc_call_registry.proofs.Places.{some_of}
use Rattle.txc_txn.specs.RunningTxn.{IsTxn, TxnValue}
use Rattle.txc_call_ghosts.specs.Steps.{objects_after_ask}
use Rattle.txc_caller.specs.NodeLookup.{IsComputedOnMiss}
use Rattle.txc_caller.specs.Ports.{HasGrownDatabase}
use Rattle.txc_caller.specs.CallerTxn.{open_states, CallerValue, IsReadingStep, KeepsTxn}
use Rattle.txc_caller.specs.ComputedFunctions.{top_call, AsksNext, IsToldAfterAsk, ObjectsFollow}
use Rattle.txc_caller.proofs.Lent.{idle_objects, resting_idle, resting_runs}
use Rattle.txc_caller.proofs.Requests.{going_ran, keeps_seen, keeps_self, keeps_then, of_call_ran}
use Rattle.txc_caller.proofs.Letting.{grown_self}
use Rattle.txc_caller.proofs.Some.{none_of}
use Rattle.txc_caller.proofs.Telling.{follow_so, no_begun, told_so}
use Rattle.txc_caller.specs.CallerAct.{step_error, CallerActTransition}
use Rattle.txc_caller.proofs.Acting.{none_acts, ran_leads}
use Rattle.txc_caller.proofs.caller_txn.CallerTxn.act.Goals as goal

pub ran-turn-requires : goal.ran-turn-requires
ran-turn-requires g c =
    let old = c.self.inside.txn in
    let there = subst (λ (t : TxnValue). IsSome (top_call t.core.call)) (sym c.self.view_is) (c.is_computing.ensures.0 c.if-not-is_computing.false) in
    let top = some_of (top_call old.core.call) there in
    let runs = resting_runs old.core top.0 c.self.invariant.rests top.1 in
    record {
      runs = runs.1;
      none = runs.0;
      asks = subst (λ (t : TxnValue). AsksNext g.A.App.next t.objects t.core.call c.args.ask) (sym c.self.view_is) c.requires.asks;
      there = c.requires.there;
    }

pub serve-step-requires : goal.serve-step-requires
serve-step-requires g c =
    let old = c.self.inside.txn in
    let mid = c.ran-turn.new.self in
    let there = subst (λ (t : TxnValue). IsSome (top_call t.core.call)) (sym c.self.view_is) (c.is_computing.ensures.0 c.if-not-is_computing.false) in
    let top = some_of (top_call old.core.call) there in
    let runs = resting_runs old.core top.0 c.self.invariant.rests top.1 in
    record {
      going = going_ran g.A.App.next.limits old mid c.args.ask c.ran-turn.result c.ran-turn.ensures.asked c.caller.inside.ports.database.events
          (ap (λ (t : TxnValue). t.core.seen.events) c.self.view_is ∙ (c.requires.row.row ∙ sym (ap (λ (v : CallerValue). v.ports.database.events) c.caller.view_is))) c.self.invariant.lent.nodes;
      looked_up = λ k none. no_begun g.A.App.next old mid c.args.ask c.ran-turn.result c.ran-turn.ensures.asked runs.1 k none;
    }

pub invariant_of-self : goal.invariant_of-self
invariant_of-self g c = record { lent = c.is_lent-3.ensures; rests = c.serve-step.ensures.served.rests }

-- ---- no function is computed

pub returns-then-not-is_computing-clause-objects : goal.returns-then-not-is_computing-clause-objects
returns-then-not-is_computing-clause-objects g c =
    let old = c.self.inside.txn in
    let closed = none_of (top_call old.core.call)
    (λ there. let yes : c.is_computing.result ≡ true = c.is_computing.ensures.1 (subst (λ (t : TxnValue). IsSome (top_call t.core.call)) c.self.view_is there) in absurd (cc (yes, c.if-not-is_computing.true))) in
    subst (λ (t : TxnValue). AllIdle t.objects) c.self.view_is
    (idle_objects g.A.App.next old.objects old.core (resting_idle old.core c.self.invariant.rests closed) c.self.invariant.lent.valid.fits)

pub returns-then-not-is_computing-clause-step : goal.returns-then-not-is_computing-clause-step
returns-then-not-is_computing-clause-step g c = λ k is.
    let there = subst (λ (o : Option Call). IsSome o) (sym is) refl in
    let yes : c.is_computing.result ≡ true = c.is_computing.ensures.1 there in
    absurd (cc (yes, c.if-not-is_computing.true))

pub returns-then-not-is_computing-clause-keeps : goal.returns-then-not-is_computing-clause-keeps
returns-then-not-is_computing-clause-keeps g c = keeps_self c.args.self.now

pub returns-then-not-is_computing-clause-valid : goal.returns-then-not-is_computing-clause-valid
returns-then-not-is_computing-clause-valid g c = subst (IsTxn g.A.App.next) c.self.view_is c.self.invariant.lent.valid

pub returns-then-not-is_computing-clause-grown : goal.returns-then-not-is_computing-clause-grown
returns-then-not-is_computing-clause-grown g c = grown_self c.args.caller.now.ports.database

-- ---- one is

pub returns-clause-step : goal.returns-clause-step
returns-clause-step g c = λ k is.
    let old = c.self.inside.txn in
    let mid = c.ran-turn.new.self in
    let new = c.serve-step.new.txn in
    let runs = resting_runs old.core k c.self.invariant.rests (ap (λ (t : TxnValue). top_call t.core.call) c.self.view_is ∙ is) in
    subst (λ (t : TxnValue). IsReadingStep t.core new.core k c.serve-step.result) c.self.view_is
    (c.serve-step.ensures.served.step_is old.core.recorded k (of_call_ran g.A.App.next.limits old mid c.args.ask c.ran-turn.result c.ran-turn.ensures.asked k runs.2))

pub returns-clause-told : goal.returns-clause-told
returns-clause-told g c =
    let old = c.self.inside.txn in
    let mid = c.ran-turn.new.self in
    let new = c.serve-step.new.txn in
    let there = subst (λ (t : TxnValue). IsSome (top_call t.core.call)) (sym c.self.view_is) (c.is_computing.ensures.0 c.if-not-is_computing.false) in
    let top = some_of (top_call old.core.call) there in
    let runs = resting_runs old.core top.0 c.self.invariant.rests top.1 in
    let served = c.serve-step.ensures.served in
    subst (λ (t : TxnValue). IsToldAfterAsk g.A.App.next (open_states new.core) t.core.call c.args.ask new.core.call c.serve-step.result) c.self.view_is
    (told_so g.A.App.next old mid c.args.ask c.ran-turn.result c.ran-turn.ensures.asked runs.1 c.self.invariant.lent.valid.fits c.ran-turn.ensures.objects c.is_lent-2.ensures.valid.fits
    new c.is_lent-3.ensures.valid c.serve-step.result served.goes_on (served.objects (objects_after_ask old.objects old.core.call c.args.ask) c.ran-turn.ensures.objects))

pub returns-clause-objects : goal.returns-clause-objects
returns-clause-objects g c =
    let old = c.self.inside.txn in
    let new = c.serve-step.new.txn in
    subst (λ (t : TxnValue). ObjectsFollow t.objects t.core.call c.args.ask new.objects c.serve-step.result) c.self.view_is
    (follow_so old.objects old.core.call c.args.ask new.objects c.serve-step.result
    (c.serve-step.ensures.served.objects (objects_after_ask old.objects old.core.call c.args.ask) c.ran-turn.ensures.objects))

pub returns-clause-on_miss : goal.returns-clause-on_miss
returns-clause-on_miss g c =
    subst (λ (v : CallerValue). IsComputedOnMiss c.serve-step.new.txn.core v.ports.node c.serve-step.new.ports.node c.serve-step.result) c.caller.view_is c.serve-step.ensures.on_miss

pub returns-clause-keeps : goal.returns-clause-keeps
returns-clause-keeps g c =
    let old = c.self.inside.txn in
    let mid = c.ran-turn.new.self in
    let new = c.serve-step.new.txn in
    subst (λ (t : TxnValue). KeepsTxn t new) c.self.view_is
    (keeps_then old mid new (keeps_seen old mid c.ran-turn.ensures.functions c.ran-turn.ensures.asked.same) c.serve-step.ensures.served.keeps)

pub returns-clause-valid : goal.returns-clause-valid
returns-clause-valid g c = c.is_lent-3.ensures.valid

pub returns-clause-none : goal.returns-clause-none
returns-clause-none g c = λ none.
    let there : IsSome (top_call c.args.self.now.core.call) = c.is_computing.ensures.0 c.if-not-is_computing.false in
    let top = some_of (top_call c.args.self.now.core.call) there in
    let no : None ≡ Some top.0 = sym none ∙ top.1 in absurd (cc no)

pub returns-clause-caller : goal.returns-clause-caller
returns-clause-caller g c = record {
  row = c.serve-step.ensures.grown.events ∙ ap (λ (v : CallerValue). v.ports.database.events) c.caller.view_is;
  renew_after = ap (λ (v : CallerValue). v.renew_after) c.caller.view_is;
}

pub returns-clause-grown : goal.returns-clause-grown
returns-clause-grown g c = subst (λ (v : CallerValue). HasGrownDatabase v.ports.database c.serve-step.new.ports.database) c.caller.view_is c.serve-step.ensures.grown

pub returns-then-not-is_computing-clause-transition : goal.returns-then-not-is_computing-clause-transition
returns-then-not-is_computing-clause-transition g c =
    none_acts g.A.App.next.limits c.args.caller.now.ports c.args.self.now c.args.self.now c.args.ask refl

pub returns-clause-transition : goal.returns-clause-transition
returns-clause-transition g c =
    let next = g.A.App.next in
    let old = c.self.inside.txn in
    let mid = c.ran-turn.new.self in
    let new = c.serve-step.new.txn in
    let there = subst (λ (t : TxnValue). IsSome (top_call t.core.call)) (sym c.self.view_is) (c.is_computing.ensures.0 c.if-not-is_computing.false) in
    let top = some_of (top_call old.core.call) there in
    let runs = resting_runs old.core top.0 c.self.invariant.rests top.1 in
    subst (λ (v : CallerValue). CallerActTransition next.limits v.ports c.args.self.now c.args.ask c.serve-step.new.ports new.core.taken (step_error c.serve-step.result)) c.caller.view_is
    (subst (λ (t : TxnValue). CallerActTransition next.limits c.caller.inside.ports t c.args.ask c.serve-step.new.ports new.core.taken (step_error c.serve-step.result)) c.self.view_is
    (ran_leads next old mid c.args.ask c.ran-turn.result c.ran-turn.ensures.asked runs.1 c.is_lent-2.ensures.valid.fits c.caller.inside.ports c.serve-step.new.ports new.core.taken
    (step_error c.serve-step.result) c.serve-step.ensures.transition))
