use Rattle.txc_cushion.proofs.Counts.{retire_counts}
use Rattle.txc_cushion.proofs.laws.retire_counts_the_unused.Goals as goal

pub returns : goal.returns
returns c = retire_counts
