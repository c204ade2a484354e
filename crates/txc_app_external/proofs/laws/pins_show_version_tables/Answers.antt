use Rattle.txc_app_external.proofs.Following
use Rattle.txc_app_external.proofs.laws.pins_show_version_tables.Goals as goal

pub returns : goal.returns
returns c = Following.pins_show
