use Rattle.txc_node.proofs.LawLemmas.{shows_nothing_beyond}
use Rattle.txc_node.proofs.laws.hit_shows_nothing_beyond.Goals as goal

pub returns : goal.returns
returns c = shows_nothing_beyond
