use Rattle.txc_node.proofs.LawLemmas.{inserts_within_bounds}
use Rattle.txc_node.proofs.laws.insertion_stays_within_bounds.Goals as goal

pub returns : goal.returns
returns c = inserts_within_bounds
