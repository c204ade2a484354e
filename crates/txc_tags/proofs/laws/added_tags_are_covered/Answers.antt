use Rattle.txc_tags.proofs.Covering.{added_covers}
use Rattle.txc_tags.proofs.laws.added_tags_are_covered.Goals as goal

pub returns : goal.returns
returns c = added_covers
