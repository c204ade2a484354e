use Rattle.txc_txn.specs.TxnCore.{value_of}
use Rattle.txc_txn.proofs.Cores.{core_dropped, holds_recorded, holds_dropped}
use Rattle.txc_txn.proofs.txn_core.TxnCore.record.Goals as goal

pub returns-in_default-copy-clause-holds : goal.returns-in_default-copy-clause-holds
returns-in_default-copy-clause-holds c = λ next objects L h.
    rw c.in-Some.ensures.1 (holds_dropped next objects (value_of c.args.self.now) c.in-Some.outcome c.in-Some.ensures.0 L h)

pub returns-in_default-push-clause-holds : goal.returns-in_default-push-clause-holds
returns-in_default-push-clause-holds c = λ next objects L h.
    rw (c.in-Some.ensures.1, c.in_default-push.ensures.items) (holds_dropped next objects (value_of c.args.self.now) c.in-Some.outcome c.in-Some.ensures.0 L h)

pub returns-clause-holds : goal.returns-clause-holds
returns-clause-holds c = λ next objects L h.
    rw (c.in-Some.ensures.1, c.in-Ok-push.ensures.items) (holds_recorded next objects (value_of c.args.self.now) c.in-Some.outcome c.in-Some.ensures.0 L h)

pub returns-in_default-push-clause-fits : goal.returns-in_default-push-clause-fits
returns-in_default-push-clause-fits c = λ next objects none h.
    rw (c.in-Some.ensures.1, c.in_default-push.ensures.items) (core_dropped next objects (value_of c.args.self.now) c.in-Some.outcome c.in-Some.ensures.0 none h)
