use Rattle.txc_app_external.proofs.Versions
use Rattle.txc_app_external.proofs.laws.versions_decide_a_read.Goals as goal

pub returns : goal.returns
returns c = Versions.found_in_each
