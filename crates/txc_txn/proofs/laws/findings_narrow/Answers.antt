use Rattle.txc_txn.proofs.Meanings
use Rattle.txc_txn.proofs.Cited.{keeps_exactly}
use Rattle.txc_txn.proofs.laws.findings_narrow.Goals as goal

pub returns : goal.returns
returns c = record {
  narrows = Meanings.finding_narrows keeps_exactly;
  query = Meanings.query_leaves_a_member keeps_exactly;
}
