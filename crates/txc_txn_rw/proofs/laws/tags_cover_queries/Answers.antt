use Rattle.txc_txn_rw.proofs.Lists.{tags_cover}
use Rattle.txc_txn_rw.proofs.laws.tags_cover_queries.Goals as goal

pub returns : goal.returns
returns c = tags_cover
