use Rattle.std.proofs.Common.{◌∙◌, ap}
use Rattle.txc_txn.specs.RunningTxn.{TxnValue}
use Rattle.txc_caller.proofs.Reading.{ended_grown, ended_keeps, ended_so}
use Rattle.txc_caller.proofs.caller_txn.CallerTxn.abort.Goals as goal

pub returns-clause-ended : goal.returns-clause-ended
returns-clause-ended g c =
    ended_so c.args.self c.args.caller.now c.caller.inside.ports c.give_back.new.self c.caller.inside.renew_after c.deref.result.now c.caller.view_is
    (c.deref.ensures.value ∙ (c.cancel-left.ensures.give_back ∙ ap (λ (t : TxnValue). t.core.taken) c.self.view_is)) c.give_back.ensures.after c.give_back.ensures.same

pub returns-clause-caller : goal.returns-clause-caller
returns-clause-caller g c = ended_keeps c.args.caller.now c.caller.inside.ports c.give_back.new.self c.caller.inside.renew_after c.caller.view_is c.give_back.ensures.same

pub returns-clause-grown : goal.returns-clause-grown
returns-clause-grown g c = ended_grown c.args.caller.now c.caller.inside.ports c.give_back.new.self c.caller.inside.renew_after c.caller.view_is c.give_back.ensures.same
