use Rattle.txc_txn.proofs.Meanings
use Rattle.txc_db.proofs.Histories.{states_stay}
use Rattle.txc_txn.proofs.laws.meaning_stays.Goals as goal

pub returns : goal.returns
returns c = Meanings.meaning_stays states_stay
