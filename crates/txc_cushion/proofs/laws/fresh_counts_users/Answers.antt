use Rattle.txc_cushion.proofs.Counts.{fresh_counts}
use Rattle.txc_cushion.proofs.laws.fresh_counts_users.Goals as goal

pub returns : goal.returns
returns c = fresh_counts
