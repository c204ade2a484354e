use Rattle.std.proofs.Common.{◌≡◌, ◌++◌, map, filter}
use Rattle.txc_rows.specs.Placed.{version_of}
use Rattle.txc_rows.specs.ReplacedIndex.{dies_within, picked}
use Rattle.txc_rows.proofs.replaced.take_found.Given as goal

abbrev pub invariant-loop-spot : goal.invariant-loop-spot
invariant-loop-spot l = l.found.items ++ map version_of (picked l.first l.versions.items (filter (dies_within l.deaths) l.spot-iterator))
    ≡ l.fn.found.items ++ map version_of (picked l.first l.versions.items (filter (dies_within l.deaths) l.fn.spots))
