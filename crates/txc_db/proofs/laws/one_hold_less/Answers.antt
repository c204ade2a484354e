use Rattle.txc_db.proofs.HeldStamps.{one_less}
use Rattle.txc_db.proofs.laws.one_hold_less.Goals as goal

pub returns : goal.returns
returns c = one_less
