use Rattle.txc_txn_external.proofs.Receipts.{receipts_show}
use Rattle.txc_txn_external.proofs.laws.receipts_show_snapshots.Goals as goal

pub returns : goal.returns
returns c = receipts_show c.cached_is_uncached.ensures c.pins_show_version_tables.ensures
