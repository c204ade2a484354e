use Rattle.txc_shared.proofs.Worked
use Rattle.txc_shared.proofs.laws.worked_histories.Goals as goal

pub returns : goal.returns
returns c = Worked.worked_histories
