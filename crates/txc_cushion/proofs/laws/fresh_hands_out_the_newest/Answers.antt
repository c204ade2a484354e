use Rattle.txc_cushion.proofs.Counts.{hands_out_newest}
use Rattle.txc_cushion.proofs.laws.fresh_hands_out_the_newest.Goals as goal

pub returns : goal.returns
returns c = hands_out_newest
