use Rattle.std.proofs.Common.{◌≡◌, ◌+◌, filter, length}
use Rattle.txc_rows.specs.ReplacedIndex.{dies_within}
use Rattle.txc_rows.proofs.replaced.are_more.Given as goal

abbrev pub invariant-loop-spot : goal.invariant-loop-spot
invariant-loop-spot l = length (filter (dies_within l.deaths) l.fn.spots) + l.left ≡ l.most + length (filter (dies_within l.deaths) l.spot-iterator)
