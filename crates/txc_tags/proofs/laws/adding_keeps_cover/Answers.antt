use Rattle.txc_tags.proofs.Covering.{added_keeps}
use Rattle.txc_tags.proofs.laws.adding_keeps_cover.Goals as goal

pub returns : goal.returns
returns c = added_keeps
