use Rattle.std.proofs.Common.{◌≡◌, ◌++◌, drop}
use Rattle.txc_rows.specs.Placed.{placed_left}
use Rattle.txc_rows.proofs.replaced.Replaced.left.Given as goal

abbrev pub invariant-loop-i : goal.invariant-loop-i
invariant-loop-i l = l.left ++ placed_left l.from (drop l.i l.self) ≡ placed_left l.from l.self
