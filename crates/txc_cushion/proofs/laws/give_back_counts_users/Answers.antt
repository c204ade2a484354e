use Rattle.txc_cushion.proofs.Counts.{give_back_counts}
use Rattle.txc_cushion.proofs.laws.give_back_counts_users.Goals as goal

pub returns : goal.returns
returns c = give_back_counts
