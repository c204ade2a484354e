use Rattle.txc_tags.proofs.Sixteen.{same_added}
use Rattle.txc_tags.proofs.laws.the_same_tags_make_the_same_set.Goals as goal

pub returns : goal.returns
returns c = same_added
