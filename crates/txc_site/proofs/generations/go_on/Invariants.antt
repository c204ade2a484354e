use Rattle.std.proofs.Common.{◌≡◌, IfSome}
use Rattle.txc_db_carry.specs.Rooms.{IsHistoryFor}
use Rattle.txc_site.proofs.Turns.{HaveGoneOn}
use Rattle.txc_site.proofs.generations.go_on.Given as goal

abbrev pub invariant-loop : goal.invariant-loop
invariant-loop g l = record {
  came :
      HaveGoneOn l.plan (g.C.Clock.tells l.clock) l.count g.A.FunctionTable.numbers (g.V.Worker.gives l.workers) (g.V.Recurring.continues l.workers) l.fn.begun.front l.generations.items
      l.begun.front;
  row : l.begun.core.events ≡ l.begun.front.events;
  room : IsHistoryFor l.plan.events l.begun.front.events;
  carried : IfSome l.begun.carried_entries (λ w. w.front.events ≡ l.begun.core.events);
}
