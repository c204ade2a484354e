use Rattle.txc_txn.proofs.Cores.{core_begun}
use Rattle.txc_txn.proofs.txn_core.TxnCore.begin.Goals as goal

pub returns-clause-fits : goal.returns-clause-fits
returns-clause-fits c = λ next objects idle.
    rw (c.in-Ok.ensures, c.in-Ok-stamps_of.ensures.stamps, c.deref.ensures.value, c.new.ensures.items)
    (core_begun next objects c.args.nodes c.args.renew_after c.args.bounds c.args.pins c.new-2.result idle c.new-2.ensures.frames c.new-2.ensures.need c.requires)
