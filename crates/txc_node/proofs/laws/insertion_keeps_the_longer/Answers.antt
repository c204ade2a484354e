use Rattle.txc_node.proofs.Dropped.{keeps_the_longer}
use Rattle.txc_node.proofs.laws.insertion_keeps_the_longer.Goals as goal

pub returns : goal.returns
returns c = keeps_the_longer
