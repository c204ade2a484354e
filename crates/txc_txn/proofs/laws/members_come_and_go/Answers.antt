use Rattle.txc_txn.proofs.Meanings
use Rattle.txc_txn.proofs.Cited.{never_empty}
use Rattle.txc_txn.proofs.laws.members_come_and_go.Goals as goal

pub returns : goal.returns
returns c = record {
  joins = Meanings.present_joins never_empty;
  fresh = Meanings.present_is_fresh;
  fewer = Meanings.fewer_members_mean_the_same;
}
