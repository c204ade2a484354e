use Rattle.std.proofs.Common.{refl}
use Rattle.txc_db.proofs.laws.worked_history.Goals as goal

pub returns : goal.returns
returns c = record {
  states = record { empty = refl; put = refl; pinned = refl; put_again = refl; newest = refl };
  tags = record { put = refl; pinned = refl; put_again = refl; newest = refl };
  moments = record { put = refl; pinned = refl; newest = refl; beyond = refl };
  answers = record { group = refl; newest = refl; none = refl };
  net = record { quiet = refl; last = refl; moved = refl };
}
