use Rattle.txc_node.proofs.Dropped.{drops_the_last}
use Rattle.txc_node.proofs.laws.insertion_drops_the_last.Goals as goal

pub returns : goal.returns
returns c = drops_the_last
