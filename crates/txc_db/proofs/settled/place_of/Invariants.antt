use Rattle.std.proofs.Common.{take}
use Rattle.txc_db.proofs.Settling.{PassesAll}
use Rattle.txc_db.proofs.settled.place_of.Given as goal

abbrev pub invariant-loop-at : goal.invariant-loop-at
invariant-loop-at l = PassesAll l.change (take l.at l.settled)
