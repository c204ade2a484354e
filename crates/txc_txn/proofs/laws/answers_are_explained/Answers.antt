use Rattle.txc_txn.proofs.Meanings
use Rattle.txc_txn.proofs.laws.answers_are_explained.Goals as goal

pub returns : goal.returns
returns c = record {
  recorded = Meanings.value_is_recorded;
  frames = Meanings.open_answers_are_right;
  values = Meanings.unreached_answers_are_values;
  newest = Meanings.newest_explains;
}
