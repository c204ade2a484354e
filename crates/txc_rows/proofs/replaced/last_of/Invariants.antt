use Rattle.std.proofs.Common.{◌≡◌, filter, length}
use Rattle.txc_rows.specs.ReplacedIndex.{dies_within}
use Rattle.txc_rows.proofs.replaced.last_of.Given as goal

abbrev pub invariant-loop-spot : goal.invariant-loop-spot
invariant-loop-spot l = filter (dies_within l.deaths) l.spots ≡ filter (dies_within l.deaths) l.fn.spots

abbrev pub decreases-loop-spot : goal.decreases-loop-spot
decreases-loop-spot l = length l.spots
