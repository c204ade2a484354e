use Rattle.std.proofs.Common.{◌≡◌, filter}
use Rattle.txc_rows.specs.ReplacedIndex.{dies_within}
use Rattle.txc_rows.proofs.replaced.first_of.Given as goal

abbrev pub invariant-loop-spot : goal.invariant-loop-spot
invariant-loop-spot l = filter (dies_within l.deaths) l.spot-iterator ≡ filter (dies_within l.deaths) l.fn.spots
