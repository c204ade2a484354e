use Rattle.std.proofs.Common.{◌≡◌, ◌≢◌, ◌∙◌, ap, None, Option, Some, Result, sym, subst}
use Rattle.txc_stream.specs.Names.{Name}
use Rattle.txc_shared.specs.Nodes.{NodeValue}
use Rattle.txc_call.specs.CallMachine.{Calling}
use Rattle.txc_call.specs.CallSteps.{NeedsFunction}
use Rattle.txc_txn_ports.specs.declared.turn.Turn.TheVariants.{Ask, Ended}
use Rattle.txc_txn.specs.ByHand.{HandTurn, IsHandTurn}
use Rattle.txc_txn.specs.TxnCore.{CoreValue}
use Rattle.txc_caller.specs.NodeLookup.{HasMissed, IsComputedOnMiss}
use Rattle.txc_caller.specs.ActRequests.{HasMadeRequest, HasServed, IsGoing, TurnTransition, turn_error}
use Rattle.txc_caller.specs.ComputedFunctions.{IsNextStep}
use Rattle.txc_caller.specs.declared.step.CallerError.{CallerError}
use Rattle.txc_caller.specs.declared.step.Step.{Step}
use Rattle.txc_caller.proofs.Letting.{grown_then}
use Rattle.txc_caller.proofs.Served.{missed_ended, missed_step, served_ended, served_open}
use Rattle.txc_txn_ports.specs.declared.error.TxnError.{TxnError}
use Rattle.txc_caller.specs.CallerAct.{step_error}
use Rattle.txc_caller.proofs.Acting.{ended_error}
use Rattle.txc_caller.proofs.serving.serve.Goals as goal

pub pass_last-last-requires : goal.pass_last-last-requires
pass_last-last-requires g c = record {
  going = subst (λ (row : Name). IsGoing row c.pass_pins-pinned.new.txn.core c.pass_pins-pinned.result) (sym c.pass_pins-pinned.ensures.grown.events) c.pass_pins-pinned.ensures.passed.going;
  last = c.pass_pins-pinned.ensures.last;
  looked_up = λ k none begins. let was = c.pass_pins-pinned.ensures.passed.none none in c.requires.looked_up k was.0 (sym (ap (λ (m : Calling). m.need) was.1) ∙ begins);
}

pub next-requires : goal.next-requires
next-requires g c =
    let new = c.pass_last-last.new.txn in
    let fits = subst (IsHandTurn new.core) c.in-None.is c.pass_last-last.ensures.made.fits in
    let same : c.machine.result.now ≡ new.core.call = c.machine.ensures ∙ ap (λ (v : CoreValue). v.call) c.core.ensures in
    subst (λ (m : Calling). NeedsFunction m.need) (sym same) fits.1

pub returns-in-None-clause-served : goal.returns-in-None-clause-served
returns-in-None-clause-served g c =
    let mid = c.pass_pins-pinned.new.txn in
    let new = c.pass_last-last.new.txn in
    let made = subst (λ (t : HandTurn). HasMadeRequest mid c.pass_pins-pinned.result new t) c.in-None.is c.pass_last-last.ensures.made in
    let same : c.machine.result.now ≡ new.core.call = c.machine.ensures ∙ ap (λ (v : CoreValue). v.call) c.core.ensures in
    served_open (g.P.CallPorts.ports c.args.ports.now).database.events c.args.txn.now mid new c.args.turn c.pass_pins-pinned.result c.pass_pins-pinned.ensures.passed made c.next.result
    (subst (λ (m : Calling). IsNextStep m c.next.result) same c.next.ensures)

pub returns-in-None-clause-on_miss : goal.returns-in-None-clause-on_miss
returns-in-None-clause-on_miss g c =
    let new = c.pass_last-last.new.txn in
    let after = (g.P.CallPorts.ports c.pass_last-last.new.ports).node in
    let same : c.machine.result.now ≡ new.core.call = c.machine.ensures ∙ ap (λ (v : CoreValue). v.call) c.core.ensures in
    missed_step new.core (g.P.CallPorts.ports c.args.ports.now).node after c.next.result (subst (λ (m : Calling). IsNextStep m c.next.result) same c.next.ensures)
    (λ k begins. subst (λ (n : NodeValue). HasMissed new.core.pins.members k n after) c.pass_pins-pinned.ensures.node (c.pass_last-last.ensures.missed k c.in-None.is begins))

pub returns-in-None-clause-grown : goal.returns-in-None-clause-grown
returns-in-None-clause-grown g c =
    grown_then (g.P.CallPorts.ports c.args.ports.now).database (g.P.CallPorts.ports c.pass_pins-pinned.new.ports).database (g.P.CallPorts.ports c.pass_last-last.new.ports).database
    c.pass_pins-pinned.ensures.grown c.pass_last-last.ensures.grown

pub returns-in-Some-Ended-clause-served : goal.returns-in-Some-Ended-clause-served
returns-in-Some-Ended-clause-served g c =
    let mid = c.pass_pins-pinned.new.txn in
    let new = c.pass_last-last.new.txn in
    let is : c.pass_last-last.result ≡ Some (Ended c.in-Some-Ended.outcome) = cc in
    let made = subst (λ (t : HandTurn). HasMadeRequest mid c.pass_pins-pinned.result new t) is c.pass_last-last.ensures.made in
    subst (λ (r : Result Step CallerError). HasServed c.args.txn.now c.args.turn new r) (sym c.ended.ensures)
    (served_ended (g.P.CallPorts.ports c.args.ports.now).database.events c.args.txn.now mid new c.args.turn c.pass_pins-pinned.result c.pass_pins-pinned.ensures.passed c.in-Some-Ended.outcome made)

pub returns-in-Some-Ended-clause-on_miss : goal.returns-in-Some-Ended-clause-on_miss
returns-in-Some-Ended-clause-on_miss g c =
    let new = c.pass_last-last.new.txn in
    let before = (g.P.CallPorts.ports c.args.ports.now).node in
    let after = (g.P.CallPorts.ports c.pass_last-last.new.ports).node in
    subst (λ (r : Result Step CallerError). IsComputedOnMiss new.core before after r) (sym c.ended.ensures) (missed_ended new.core before after c.in-Some-Ended.outcome)

pub returns-in-Some-Ended-clause-grown : goal.returns-in-Some-Ended-clause-grown
returns-in-Some-Ended-clause-grown g c =
    grown_then (g.P.CallPorts.ports c.args.ports.now).database (g.P.CallPorts.ports c.pass_pins-pinned.new.ports).database (g.P.CallPorts.ports c.pass_last-last.new.ports).database
    c.pass_pins-pinned.ensures.grown c.pass_last-last.ensures.grown

pub returns-in-None-clause-transition : goal.returns-in-None-clause-transition
returns-in-None-clause-transition g c =
    let mid = c.pass_pins-pinned.new.txn.core in
    let between = g.P.CallPorts.ports c.pass_pins-pinned.new.ports in
    let after = g.P.CallPorts.ports c.pass_last-last.new.ports in
    let taken = c.pass_last-last.new.txn.core.taken in
    c.pass_pins-pinned.ensures.transition after taken None
    (subst (λ (t : HandTurn). TurnTransition mid between c.pass_pins-pinned.result after taken (turn_error t)) c.in-None.is c.pass_last-last.ensures.transition)

pub returns-in-Some-Ended-clause-transition : goal.returns-in-Some-Ended-clause-transition
returns-in-Some-Ended-clause-transition g c =
    let mid = c.pass_pins-pinned.new.txn.core in
    let between = g.P.CallPorts.ports c.pass_pins-pinned.new.ports in
    let after = g.P.CallPorts.ports c.pass_last-last.new.ports in
    let taken = c.pass_last-last.new.txn.core.taken in
    let is : c.pass_last-last.result ≡ Some (Ended c.in-Some-Ended.outcome) = cc in
    c.pass_pins-pinned.ensures.transition after taken _
    (subst (λ (e : Option TxnError). TurnTransition mid between c.pass_pins-pinned.result after taken e)
    (ap turn_error is ∙ ended_error c.in-Some-Ended.outcome ∙ ap (λ (r : Result Step CallerError). step_error r) (sym c.ended.ensures)) c.pass_last-last.ensures.transition)
