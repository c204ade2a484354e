use Rattle.txc_cushion.specs.Pin.{pin_of}
use Rattle.txc_txn.specs.TxnCore.{value_of}
use Rattle.txc_txn.proofs.Cores.{core_joined, holds_joined}
use Rattle.txc_txn.proofs.Cited.{never_empty}
use Rattle.txc_txn.proofs.txn_core.TxnCore.join_pin.Goals as goal

pub returns-clause-fits : goal.returns-clause-fits
returns-clause-fits c = λ next objects none h.
    rw (c.take_present.ensures, c.push_reserved.ensures.items) (core_joined never_empty next objects (value_of c.args.self.now) (pin_of c.args.pinned.now) c.requires.present c.requires.newer none h)

pub returns-clause-holds : goal.returns-clause-holds
returns-clause-holds c = λ next objects L fresh h.
    rw (c.take_present.ensures, c.push_reserved.ensures.items) (holds_joined never_empty next objects (value_of c.args.self.now) (pin_of c.args.pinned.now) c.requires.present c.requires.newer L fresh h)
