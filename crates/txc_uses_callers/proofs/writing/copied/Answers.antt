use Rattle.txc_uses_callers.proofs.Kept.{change_leaves}
use Rattle.txc_uses_callers.proofs.writing.copied.Goals as goal

pub returns-clause-of_caller : goal.returns-clause-of_caller
returns-clause-of_caller c =
    change_leaves c.called.new.caller.ports.database.history _ c.called.new.write c.put.new.self c.put.result c.put.ensures c.called.ensures.of_caller
