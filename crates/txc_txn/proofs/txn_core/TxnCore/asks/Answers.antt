use Rattle.std.proofs.Common.{rules}
use Rattle.txc_call_registry.specs.Objects.{AllIdle}
use Rattle.txc_txn.specs.TxnCore.{value_of}
use Rattle.txc_txn.proofs.Cores.{need_stands}
use Rattle.txc_txn.proofs.txn_core.TxnCore.asks.Goals as goal

pub returns-in-Present-clause-holds : goal.returns-in-Present-clause-holds
returns-in-Present-clause-holds c = λ next objects after L left h holds. c.pin_by_hand.ensures.holds next objects after L left holds

pub returns-in-Err-clause-fits : goal.returns-in-Err-clause-fits
returns-in-Err-clause-fits c = λ next objects after left h.
    let idle : AllIdle after = rw c.drop_call.ensures.answer at left in
    c.drop_call.ensures.fits next objects after idle h

pub returns-in-Err-clause-holds : goal.returns-in-Err-clause-holds
returns-in-Err-clause-holds c = λ next objects after L left h holds. c.drop_call.ensures.holds next objects after L holds

pub returns-in-Some-Value-clause-transition : goal.returns-in-Some-Value-clause-transition
returns-in-Some-Value-clause-transition c = λ objects. (
  λ runs. search (rules, runs),
  need_stands (value_of c.args.self.now) (value_of c.record.new.self) objects objects c.record.result (c.record.ensures.transition objects objects),
)
