use Rattle.txc_app.proofs.Carried.{carried}
use Rattle.txc_app.proofs.laws.carried_entries_are_true.Goals as goal

pub returns : goal.returns
returns c = carried
