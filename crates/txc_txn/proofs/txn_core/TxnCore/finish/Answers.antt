use Rattle.txc_txn.specs.TxnCore.{value_of}
use Rattle.txc_txn.proofs.Cores.{core_explains}
use Rattle.txc_txn.proofs.txn_core.TxnCore.finish.Goals as goal

pub returns-clause-explained : goal.returns-clause-explained
returns-clause-explained c = λ next L objects h. rw (c.receipt_pin-pin.ensures, c.deref.ensures.value, c.members.ensures) (core_explains next L objects (value_of c.args.self) c.requires.answered h)
