use Rattle.std.proofs.Common.{◌≡◌, length}
use Rattle.txc_rows.specs.Placed.{without_front_dead}
use Rattle.txc_rows.proofs.replaced.Replaced.purge.Given as goal

abbrev pub invariant-loop-self : goal.invariant-loop-self
invariant-loop-self l = without_front_dead l.from l.self ≡ without_front_dead l.from l.fn.self

abbrev pub decreases-loop-self : goal.decreases-loop-self
decreases-loop-self l = length l.self
