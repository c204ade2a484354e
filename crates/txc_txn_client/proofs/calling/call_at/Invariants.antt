use Rattle.std.proofs.Common.{◌≡◌, ◌≢◌, [], Some, Err, IsNone}
use mathlib.Core.List.{IsPrefix}
use Rattle.txc_call_registry.specs.Objects.{activity_of, numbers_of}
use Rattle.txc_call.specs.declared.error.CallError.TheVariants.{NoFunction}
use Rattle.txc_txn_ports.specs.declared.error.TxnError.TheVariants as errors
use Rattle.txc_txn_ports.specs.declared.turn.Turn.TheVariants.{Ended}
use Rattle.txc_txn.specs.TxnCore.{open_call, recorded_after, IsTurn, KeepsSettings}
use Rattle.txc_txn_ports.specs.Turns.{IsAsk}
use Rattle.txc_txn_client.specs.Ports.{HaveGrown}
use Rattle.txc_txn_client.proofs.Runs.{HasRunTo}
use Rattle.txc_txn_ports.specs.PortRequests.{TurnAddsSuch}
use Rattle.txc_txn_client.proofs.Counting.{requests_left}
use Rattle.txc_txn_client.proofs.calling.call_at.Given as goal

abbrev pub invariant-loop-turn : goal.invariant-loop-turn
invariant-loop-turn g l = record {
  passes : HaveGrown l.fn.ports l.ports;
  turn : IsTurn l.txn.core l.turn;
  adds : TurnAddsSuch (λ front. front.events ≡ g.J.Naming.database_history) l.turn;
  events : l.txn.core.seen.events ≡ g.J.Naming.database_history;
  begins : IsAsk l.turn → open_call l.txn.core ≡ Some l.fn.key;
  recorded : l.txn.core.recorded ≡ recorded_after l.fn.txn.core.recorded l.turn (Some l.fn.key);
  settings : KeepsSettings l.fn.txn.core l.txn.core;
  longer : IsPrefix l.fn.txn.core.seen.history l.txn.core.seen.history;
  functions : numbers_of l.txn.objects ≡ numbers_of l.fn.txn.objects;
  run : HasRunTo g.A.App.next g.J.Naming.database_history g.J.Naming.node_histories (record { txn = l.fn.txn; passes = l.fn.ports }) l.fn.key
      (record { txn = l.txn; passes = l.ports }) l.turn;
  missing : l.fn.txn.core.pins.members ≢ [] → IsNone (activity_of l.fn.txn.objects l.fn.key.function)
      → l.turn ≡ Ended (Err (errors.Call (NoFunction l.fn.key.function)));
}

abbrev pub decreases-loop-turn : goal.decreases-loop-turn
decreases-loop-turn g l = requests_left l.turn l.txn.core
