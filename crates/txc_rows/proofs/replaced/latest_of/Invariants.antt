use Rattle.std.proofs.Common.{◌≡◌, ◌++◌, [], List, filter}
use Rattle.std.specs.Prelude.{MatchOption}
use Rattle.txc_rows.specs.declared.replaced.Spot.{Spot}
use Rattle.txc_rows.specs.ReplacedIndex.{dies_within, IsLatest}
use Rattle.txc_rows.proofs.replaced.latest_of.Given as goal

abbrev pub invariant-loop-spot : goal.invariant-loop-spot
invariant-loop-spot l = (seen : List Spot) × (filter (dies_within l.deaths) l.fn.spots ≡ seen ++ filter (dies_within l.deaths) l.spot-iterator) × MatchOption l.last (seen ≡ []) (IsLatest seen)
