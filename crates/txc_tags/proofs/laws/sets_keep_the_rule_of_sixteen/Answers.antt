use Rattle.txc_tags.proofs.Sixteen.{joins_keep_sixteen}
use Rattle.txc_tags.proofs.laws.sets_keep_the_rule_of_sixteen.Goals as goal

pub returns : goal.returns
returns c = joins_keep_sixteen
