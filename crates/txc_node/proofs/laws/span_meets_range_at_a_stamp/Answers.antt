use Rattle.txc_node.proofs.LawLemmas.{meets_at_a_stamp}
use Rattle.txc_node.proofs.laws.span_meets_range_at_a_stamp.Goals as goal

pub returns : goal.returns
returns c = meets_at_a_stamp
