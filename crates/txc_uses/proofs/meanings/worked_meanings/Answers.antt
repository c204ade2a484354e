use Rattle.txc_uses.proofs.Worked
use Rattle.txc_uses.proofs.meanings.worked_meanings.Goals as goal

pub returns : goal.returns
returns c = Worked.worked_meanings
