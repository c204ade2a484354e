use Rattle.txc_txn_rw.proofs.Holding.{holds_at_first}
use Rattle.txc_caller.proofs.Writers.{held_within}
use Rattle.txc_caller.proofs.caller.Caller.begin_write.Goals as goal

pub returns-clause-of_caller : goal.returns-clause-of_caller
returns-clause-of_caller g c =
    holds_at_first g.A.App.next _ _ c.in_ok-base.base _ c.over.ensures.core (held_within _ _ c.in_ok-base.base c.in_ok-base.ensures.after c.in_ok-base.ensures.answer)
