use Rattle.txc_txn_rw.proofs.ByHand.{held_at_base}
use Rattle.txc_txn_rw.proofs.rw_core.RwCore.held_answer.Goals as goal

pub returns-in-Some-Resume-clause-right : goal.returns-in-Some-Resume-clause-right
returns-in-Some-Resume-clause-right c = λ next objects L x frame outer fits holds is at. held_at_base next objects L c.args.self.now x frame outer fits.at_one holds is at
