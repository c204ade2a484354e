use Rattle.txc_call_registry.specs.Objects.{AllIdle}
use Rattle.txc_txn.proofs.txn_core.TxnCore.pin_by_hand.Goals as goal

pub returns-in_default-clause-fits : goal.returns-in_default-clause-fits
returns-in_default-clause-fits c = λ next objects after left h.
    let idle : AllIdle after = rw c.drop_call.ensures.answer at left in
    c.drop_call.ensures.fits next objects after idle h

pub returns-in_default-clause-holds : goal.returns-in_default-clause-holds
returns-in_default-clause-holds c = λ next objects after L left holds. c.drop_call.ensures.holds next objects after L holds
