use Rattle.txc_txn_rw.proofs.Holding.{holds_in_longer}
use Rattle.txc_db.proofs.Histories.{states_stay}
use Rattle.txc_txn_rw.proofs.laws.transactions_stay_right.Goals as goal

pub returns-clause-longer : goal.returns-clause-longer
returns-clause-longer c = holds_in_longer states_stay
