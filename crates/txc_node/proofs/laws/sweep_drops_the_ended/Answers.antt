use Rattle.txc_node.proofs.Swept.{drops_the_ended, changes_no_later_answer}
use Rattle.txc_node.proofs.laws.sweep_drops_the_ended.Goals as goal

pub returns : goal.returns
returns c = record { ended = drops_the_ended; later = changes_no_later_answer }
