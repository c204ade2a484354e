use Rattle.txc_txn.proofs.txn_core.TxnCore.request.Goals as goal

pub returns-in-Some-Value-clause-transition : goal.returns-in-Some-Value-clause-transition
returns-in-Some-Value-clause-transition g c = c.record.ensures.transition c.args.registry.now c.args.registry.now
