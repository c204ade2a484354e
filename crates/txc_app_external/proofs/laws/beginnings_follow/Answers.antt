use Rattle.txc_app_external.proofs.Following
use Rattle.txc_app_external.proofs.laws.beginnings_follow.Goals as goal

pub returns : goal.returns
returns c = Following.beginnings_follow
