use Rattle.std.proofs.Common.{◌∙◌, ap, refl, rules}
use Rattle.txc_call.specs.CallMachine.{Calling}
use Rattle.txc_txn.specs.TxnCore.{value_of}
use Rattle.txc_txn.proofs.Cores.{holds_begun, not_absent}
use Rattle.txc_txn.proofs.txn_core.TxnCore.start_call.Goals as goal

pub returns-in-Ok-clause-holds : goal.returns-in-Ok-clause-holds
returns-in-Ok-clause-holds g c = λ L h.
    c.request.ensures.holds L (holds_begun g.A.App.next L c.args.registry.now (value_of c.args.self.now) c.args.key c.start.new.self c.in-Ok.ensures.after h)

-- the call was started, and is looked up
pub returns-in-Ok-clause-transition : goal.returns-in-Ok-clause-transition
returns-in-Ok-clause-transition g c =
    let looked = c.request.ensures.lookup c.args.key (ap (λ (call : Calling). call.need) c.in-Ok.ensures.after) in
    record {
      there = λ some. (record { call = looked.0.same_call ∙ c.in-Ok.ensures.after; same_objects = looked.0.same_objects; none = looked.0.none }, looked.1);
      absent = λ none. absurd (not_absent _ c.in-Ok.ensures.only_if none);
    }

-- there is no such function
pub returns-in-Err-clause-transition : goal.returns-in-Err-clause-transition
returns-in-Err-clause-transition g c = record {
  there = λ some. absurd (not_absent _ some c.in-Err.ensures.refused.1);
  absent = λ none. (record { same_call = c.in-Err.ensures.unchanged; same_objects = refl; none = c.requires.none }, search rules);
}
