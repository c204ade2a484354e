use Rattle.txc_node.proofs.LawLemmas.{steps_keep_caches}
use Rattle.txc_node.proofs.laws.steps_keep_caches.Goals as goal

pub returns : goal.returns
returns c = steps_keep_caches
