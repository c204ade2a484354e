use Rattle.std.proofs.Common.{◌≤◌}
use Rattle.example_shop.proofs.VisitorsWorkerShopTurn.run.Given as goal

abbrev pub invariant-loop-round : goal.invariant-loop-round
invariant-loop-round g l = record {
  torn : l.torn ≤ l.round-counter;
  bought : l.bought ≤ l.round-counter;
}
