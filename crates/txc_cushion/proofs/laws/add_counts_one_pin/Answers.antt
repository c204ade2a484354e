use Rattle.txc_cushion.proofs.Counts.{add_counts}
use Rattle.txc_cushion.proofs.laws.add_counts_one_pin.Goals as goal

pub returns : goal.returns
returns c = add_counts
