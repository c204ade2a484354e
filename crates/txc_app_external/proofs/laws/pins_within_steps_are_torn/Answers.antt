use Rattle.txc_app_external.proofs.Worked
use Rattle.txc_app_external.proofs.laws.pins_within_steps_are_torn.Goals as goal

pub returns : goal.returns
returns c = Worked.pin_within_step
