use Rattle.txc_node.proofs.Trims.{trim_keeps_the_first}
use Rattle.txc_node.proofs.laws.trim_keeps_the_first.Goals as goal

pub returns : goal.returns
returns c = trim_keeps_the_first
