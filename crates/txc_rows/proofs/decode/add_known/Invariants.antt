use Rattle.std.proofs.Common.{◌≡◌, ◌≤◌, ◌+◌, ◌++◌, length, drop, map}
use Rattle.std.specs.List.{AllByRecursion}
use Rattle.txc_rows.specs.Placed.{version_of, AreAmong}
use Rattle.txc_rows.specs.StoredVersion.{placed_from}
use Rattle.txc_rows.specs.LatestTable.{IsPlacedRow}
use Rattle.txc_rows.proofs.decode.add_known.Given as goal

abbrev pub invariant-loop-row : goal.invariant-loop-row
invariant-loop-row l = record {
  done : l.found.items ++ map version_of (map placed_from (drop l.row-index l.rows)) ≡ l.fn.found.items ++ map version_of (map placed_from l.rows);
  rest : AllByRecursion (IsPlacedRow l.table) (drop l.row-index l.rows);
  few : length l.known.items ≤ length l.fn.known.items + l.row-index;
  known : (latest : _) → AreAmong latest l.fn.known.items → AreAmong latest (map placed_from l.rows) → AreAmong latest (l.known.items ++ map placed_from (drop l.row-index l.rows));
}
