use Rattle.std.proofs.Common.{◌≡◌, Err, IsNone, IsSome}
use Rattle.txc_db.specs.History.{state_at}
use Rattle.txc_call_registry.specs.Objects.{activity_of, numbers_of}
use Rattle.txc_call.specs.declared.error.CallError.TheVariants.{NoFunction}
use Rattle.txc_call.specs.CallMachine.{started}
use Rattle.txc_txn_ports.specs.declared.error.TxnError.TheVariants as errors
use Rattle.txc_txn_ports.specs.declared.turn.Turn.TheVariants.{Ended}
use Rattle.txc_txn_rw.specs.RwCore.{answers_after, IsRw, IsRwTurn, RwHolds}
use Rattle.txc_txn_ports.specs.Turns.{IsAsk}
use Rattle.txc_txn_rw.specs.Transitions.{standing_of}
use Rattle.txc_txn_rw.proofs.Running.{IsRunSo}
use Rattle.txc_txn_rw.proofs.Turns.{turns_left}
use Rattle.txc_txn_rw.proofs.calling.call_at.Given as goal

abbrev pub invariant-loop-turn : goal.invariant-loop-turn
invariant-loop-turn g l = record {
  fits : IsRw g.A.App.next l.registry l.core;
  turn : IsRwTurn l.core l.turn;
  holds : RwHolds g.A.App.next l.seen.history l.fn.registry l.fn.core → RwHolds g.A.App.next l.seen.history l.registry l.core;
  answers : l.core.answers ≡ answers_after l.fn.core.answers l.fn.key l.turn;
  begins : IsAsk l.turn → l.core.call.top ≡ l.fn.key;
  run : IsSome (activity_of l.fn.registry l.fn.key.function)
      → IsRunSo g.A.App.next g.J.Naming.database_history (state_at l.seen.history l.fn.core.base) (standing_of (started l.fn.key) l.fn.registry) l.fn.core l.core l.registry l.turn;
  base : l.core.base ≡ l.fn.core.base;
  changes : l.core.changes ≡ l.fn.core.changes;
  missing : IsNone (activity_of l.fn.registry l.fn.key.function) → l.turn ≡ Ended (Err (errors.Call (NoFunction l.fn.key.function)));
  missing_left : IsNone (activity_of l.fn.registry l.fn.key.function) → l.core ≡ l.fn.core;
  functions : numbers_of l.registry ≡ numbers_of l.fn.registry;
  missing_same : IsNone (activity_of l.fn.registry l.fn.key.function) → l.registry ≡ l.fn.registry;
}

abbrev pub decreases-loop-turn : goal.decreases-loop-turn
decreases-loop-turn g l = turns_left l.turn l.core.call.asked
