use Rattle.std.proofs.Common.{◌≡◌, ◌∙◌, true, None, Option, Some, ap, refl, sym, subst}
use Rattle.std.specs.Prelude.{IsSome}
use Rattle.txc_call_registry.proofs.Places.{some_of}
use Rattle.txc_tags.specs.Keys.{Call}
use Rattle.txc_app.specs.declared.ask.Ask.TheVariants as asks
use Rattle.txc_txn.specs.RunningTxn.{TxnValue}
use Rattle.txc_caller.specs.NodeLookup.{IsComputedOnMiss}
use Rattle.txc_caller.specs.Ports.{HasGrownDatabase}
use Rattle.txc_caller.specs.CallerTxn.{open_states, CallerValue, IsReadingStep, KeepsTxn}
use Rattle.txc_caller.specs.ComputedFunctions.{call_or, top_call, IsToldAfterAsk, ObjectsFollow}
use Rattle.txc_caller.proofs.Lent.{resting_idle}
use Rattle.txc_caller.proofs.Requests.{going_begun, keeps_begun, keeps_then, of_call_begun}
use Rattle.txc_caller.proofs.Some.{none_of}
use Rattle.txc_caller.proofs.Telling.{first_follow, first_told}
use Rattle.txc_caller.specs.CallerAct.{step_error, CallerActTransition}
use Rattle.txc_caller.proofs.Acting.{begun_leads}
use Rattle.txc_caller.proofs.caller_txn.CallerTxn.call.Goals as goal

pub returns-then-is_computing-clause-step : goal.returns-then-is_computing-clause-step
returns-then-is_computing-clause-step g c =
    let top = some_of (top_call c.args.self.now.core.call) (c.is_computing.ensures.0 c.if-is_computing.true) in
    subst (λ (o : Option Call). IsReadingStep c.args.self.now.core c.act.new.self.core (call_or o c.args.key) c.act.result) (sym top.1) (c.act.ensures.step top.0 top.1)

pub start-turn-requires : goal.start-turn-requires
start-turn-requires g c =
    let old = c.self.inside.txn in
    let closed = none_of (top_call old.core.call)
    (λ there. let yes : c.is_computing.result ≡ true = c.is_computing.ensures.1 (subst (λ (t : TxnValue). IsSome (top_call t.core.call)) c.self.view_is there) in absurd (cc (yes, c.if-is_computing.false))) in
    resting_idle old.core c.self.invariant.rests closed

pub serve-step-requires : goal.serve-step-requires
serve-step-requires g c =
    let old = c.self.inside.txn in
    record {
      going = going_begun old c.start-turn.new.self c.args.key c.start-turn.result c.start-turn.ensures.begun c.caller.inside.ports.database.events
          (ap (λ (t : TxnValue). t.core.seen.events) c.self.view_is ∙ (c.requires.row.row ∙ sym (ap (λ (v : CallerValue). v.ports.database.events) c.caller.view_is))) c.self.invariant.lent.nodes;
      looked_up = λ k none. absurd (cc none);
    }

pub invariant_of-self : goal.invariant_of-self
invariant_of-self g c = record { lent = c.is_lent.ensures; rests = c.serve-step.ensures.served.rests }

pub returns-clause-step : goal.returns-clause-step
returns-clause-step g c =
    let old = c.self.inside.txn in
    let new = c.serve-step.new.txn in
    let closed = none_of (top_call c.args.self.now.core.call) (λ there. let yes : c.is_computing.result ≡ true = c.is_computing.ensures.1 there in absurd (cc (yes, c.if-is_computing.false))) in
    subst (λ (o : Option Call). IsReadingStep c.args.self.now.core new.core (call_or o c.args.key) c.serve-step.result) (sym closed)
    (subst (λ (t : TxnValue). IsReadingStep t.core new.core c.args.key c.serve-step.result) c.self.view_is
    (c.serve-step.ensures.served.step_is old.core.recorded c.args.key (of_call_begun old c.start-turn.new.self c.args.key c.start-turn.result c.start-turn.ensures.begun)))

pub returns-clause-told : goal.returns-clause-told
returns-clause-told g c =
    let old = c.self.inside.txn in
    let new = c.serve-step.new.txn in
    let closed = none_of (top_call old.core.call)
    (λ there. let yes : c.is_computing.result ≡ true = c.is_computing.ensures.1 (subst (λ (t : TxnValue). IsSome (top_call t.core.call)) c.self.view_is there) in absurd (cc (yes, c.if-is_computing.false))) in
    subst (λ (t : TxnValue). IsToldAfterAsk g.A.App.next (open_states new.core) t.core.call (asks.Call c.args.key) new.core.call c.serve-step.result) c.self.view_is
    (first_told g.A.App.next old c.start-turn.new.self new c.args.key c.start-turn.result c.start-turn.ensures.begun (resting_idle old.core c.self.invariant.rests closed)
    (c.self.invariant.lent.functions c.args.key.function c.function-function.ensures.bound) c.self.invariant.lent.valid.fits c.is_lent.ensures.valid c.serve-step.result c.serve-step.ensures.served.goes_on)

pub returns-clause-objects : goal.returns-clause-objects
returns-clause-objects g c =
    let old = c.self.inside.txn in
    let new = c.serve-step.new.txn in
    let closed = none_of (top_call old.core.call)
    (λ there. let yes : c.is_computing.result ≡ true = c.is_computing.ensures.1 (subst (λ (t : TxnValue). IsSome (top_call t.core.call)) c.self.view_is there) in absurd (cc (yes, c.if-is_computing.false))) in
    subst (λ (t : TxnValue). ObjectsFollow t.objects t.core.call (asks.Call c.args.key) new.objects c.serve-step.result) c.self.view_is
    (first_follow g.A.App.next old c.start-turn.new.self new c.args.key c.start-turn.result c.start-turn.ensures.begun (resting_idle old.core c.self.invariant.rests closed)
    (c.self.invariant.lent.functions c.args.key.function c.function-function.ensures.bound) c.self.invariant.lent.valid.fits c.is_lent.ensures.valid c.serve-step.result
    (c.serve-step.ensures.served.objects old.objects c.start-turn.ensures.objects))

pub returns-clause-on_miss : goal.returns-clause-on_miss
returns-clause-on_miss g c =
    subst (λ (v : CallerValue). IsComputedOnMiss c.serve-step.new.txn.core v.ports.node c.serve-step.new.ports.node c.serve-step.result) c.caller.view_is c.serve-step.ensures.on_miss

pub returns-clause-keeps : goal.returns-clause-keeps
returns-clause-keeps g c =
    let old = c.self.inside.txn in
    let mid = c.start-turn.new.self in
    let new = c.serve-step.new.txn in
    subst (λ (t : TxnValue). KeepsTxn t new) c.self.view_is
    (keeps_then old mid new (keeps_begun old mid c.args.key c.start-turn.result c.start-turn.ensures.begun) c.serve-step.ensures.served.keeps)

pub returns-clause-valid : goal.returns-clause-valid
returns-clause-valid g c = c.is_lent.ensures.valid

pub returns-clause-caller : goal.returns-clause-caller
returns-clause-caller g c = record {
  row = c.serve-step.ensures.grown.events ∙ ap (λ (v : CallerValue). v.ports.database.events) c.caller.view_is;
  renew_after = ap (λ (v : CallerValue). v.renew_after) c.caller.view_is;
}

pub returns-clause-grown : goal.returns-clause-grown
returns-clause-grown g c = subst (λ (v : CallerValue). HasGrownDatabase v.ports.database c.serve-step.new.ports.database) c.caller.view_is c.serve-step.ensures.grown

pub returns-clause-transition : goal.returns-clause-transition
returns-clause-transition g c =
    let next = g.A.App.next in
    let old = c.self.inside.txn in
    let new = c.serve-step.new.txn in
    let closed = none_of (top_call old.core.call)
    (λ there. let yes : c.is_computing.result ≡ true = c.is_computing.ensures.1 (subst (λ (t : TxnValue). IsSome (top_call t.core.call)) c.self.view_is there) in absurd (cc (yes, c.if-is_computing.false))) in
    subst (λ (v : CallerValue). CallerActTransition next.limits v.ports c.args.self.now (asks.Call c.args.key) c.serve-step.new.ports new.core.taken (step_error c.serve-step.result)) c.caller.view_is
    (subst (λ (t : TxnValue). CallerActTransition next.limits c.caller.inside.ports t (asks.Call c.args.key) c.serve-step.new.ports new.core.taken (step_error c.serve-step.result)) c.self.view_is
    (begun_leads next old c.start-turn.new.self c.args.key c.start-turn.result c.start-turn.ensures.begun (resting_idle old.core c.self.invariant.rests closed)
    (c.self.invariant.lent.functions c.args.key.function c.function-function.ensures.bound) c.caller.inside.ports c.serve-step.new.ports new.core.taken
    (step_error c.serve-step.result) c.serve-step.ensures.transition))
