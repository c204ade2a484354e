use Rattle.txc_tags.proofs.Covering.{covered_match}
use Rattle.txc_tags.proofs.laws.sets_match_where_covered_tags_do.Goals as goal

pub returns : goal.returns
returns c = covered_match
