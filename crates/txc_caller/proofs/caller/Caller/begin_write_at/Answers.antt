use Rattle.std.proofs.Common.{refl}
use Rattle.txc_txn_rw.proofs.Holding.{holds_at_first}
use Rattle.txc_caller.proofs.Writers.{base_within}
use Rattle.txc_caller.proofs.caller.Caller.begin_write_at.Goals as goal

pub returns-clause-of_caller : goal.returns-clause-of_caller
returns-clause-of_caller g c =
    holds_at_first g.A.App.next _ _ c.args.base _ c.over.ensures.core (base_within _ _ c.args.base c.in_ok-check_base.ensures.same (c.in_ok-check_base.ensures.only_if.0 refl))
