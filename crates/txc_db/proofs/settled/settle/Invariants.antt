use Rattle.std.proofs.Common.{◌≡◌, ◌≤◌, drop, length}
use Rattle.txc_rows.specs.Net.{settled}
use Rattle.txc_db.proofs.settled.settle.Given as goal

abbrev pub invariant-loop-left : goal.invariant-loop-left
invariant-loop-left l = record { within : l.left ≤ length l.changes; last_is : l.last.items ≡ settled (drop l.left l.changes) }

abbrev pub decreases-loop-left : goal.decreases-loop-left
decreases-loop-left l = l.left
