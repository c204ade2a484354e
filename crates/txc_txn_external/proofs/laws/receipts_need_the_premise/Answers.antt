use Rattle.txc_txn_external.proofs.Receipts.{receipts_need}
use Rattle.txc_txn_external.proofs.laws.receipts_need_the_premise.Goals as goal

pub returns : goal.returns
returns c = receipts_need c.the_premise_is_needed.ensures
