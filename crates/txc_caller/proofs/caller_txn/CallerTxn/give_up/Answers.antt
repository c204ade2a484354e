use Rattle.std.proofs.Common.{◌≡◌, inl, subst}
use Rattle.txc_txn.specs.TxnCore.{CoreValue}
use Rattle.txc_txn.specs.RunningTxn.{TxnValue}
use Rattle.txc_caller.specs.CallerTxn.{KeepsTxn}
use Rattle.txc_caller.proofs.Lent.{resting_free}
use Rattle.txc_caller.proofs.Requests.{keeps_call}
use Rattle.txc_caller.proofs.caller_txn.CallerTxn.give_up.Goals as goal

pub give_up-requires : goal.give_up-requires
give_up-requires g c = resting_free c.self.inside.txn.core c.self.invariant.rests

pub invariant_of-self : goal.invariant_of-self
invariant_of-self g c = record { lent = c.is_lent.ensures; rests = inl c.give_up.ensures.idle }

pub returns-clause-same : goal.returns-clause-same
returns-clause-same g c =
    let new = c.give_up.new.self in
    subst (λ (t : TxnValue). new.core ≡ record t.core { call = new.core.call }) c.self.view_is c.give_up.ensures.same

pub returns-clause-keeps : goal.returns-clause-keeps
returns-clause-keeps g c =
    let new = c.give_up.new.self in
    subst (λ (t : TxnValue). KeepsTxn t new) c.self.view_is (keeps_call c.self.inside.txn new c.give_up.ensures.functions c.give_up.ensures.same)

pub returns-clause-valid : goal.returns-clause-valid
returns-clause-valid g c = c.is_lent.ensures.valid
