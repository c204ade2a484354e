use Rattle.txc_cushion.proofs.InOrder.{Passed}
use Rattle.txc_cushion.proofs.users.take_users_in_order.Given as goal

abbrev pub invariant-loop-entry : goal.invariant-loop-entry
invariant-loop-entry l = Passed l.fn.entries l.stamps l.entries l.entry-index l.found
