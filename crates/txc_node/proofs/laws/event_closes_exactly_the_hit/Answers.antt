use Rattle.txc_node.proofs.LawLemmas.{closes_exactly_the_hit}
use Rattle.txc_node.proofs.laws.event_closes_exactly_the_hit.Goals as goal

pub returns : goal.returns
returns c = closes_exactly_the_hit
