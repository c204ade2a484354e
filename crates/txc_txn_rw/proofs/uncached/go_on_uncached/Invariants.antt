use Rattle.std.proofs.Common.{◌≡◌, [], IsSome}
use Rattle.txc_rows.specs.States.{State}
use Rattle.txc_db.specs.History.{History}
use Rattle.txc_call_registry.specs.Objects.{numbers_of}
use Rattle.txc_call.specs.CallMachine.{CallHolds, InCall, IsCalling}
use Rattle.txc_call.specs.CallSteps.{NeedsFunction}
use Rattle.txc_txn_rw.specs.RwCore.{HasCounted}
use Rattle.txc_txn_rw.specs.Transitions.{standing_of, IsLedTo}
use Rattle.txc_txn_rw.proofs.Counting.{left}
use Rattle.txc_txn_rw.proofs.uncached.go_on_uncached.Given as goal

abbrev pub invariant-loop-reply : goal.invariant-loop-reply
invariant-loop-reply g l = record {
  fits : IsCalling g.A.App.next l.registry l.machine;
  some : IsSome l.machine.need;
  settled : ¬ (NeedsFunction l.machine.need);
  at_one : InCall 1 l.machine;
  holds : (L : History) → CallHolds g.A.App.next L l.initial.registry l.initial.machine → CallHolds g.A.App.next L l.registry l.machine;
  counted : HasCounted l.initial.machine l.machine;
  led : (s : State) → IsLedTo g.A.App.next s (standing_of l.initial.machine l.initial.registry) [] (standing_of l.machine l.registry);
  functions : numbers_of l.registry ≡ numbers_of l.initial.registry;
  same_top : l.machine.top ≡ l.initial.machine.top;
}

abbrev pub decreases-loop-reply : goal.decreases-loop-reply
decreases-loop-reply g l = left l.machine.need l.machine.asked
