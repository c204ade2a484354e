use Rattle.txc_app_external.proofs.Worked
use Rattle.txc_app_external.proofs.laws.the_premise_is_needed.Goals as goal

pub returns : goal.returns
returns c = Worked.missing_note
