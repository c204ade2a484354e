use Rattle.std.proofs.Common.{◌≡◌, ◌++◌, drop, map}
use Rattle.std.specs.List.{AllByRecursion}
use Rattle.txc_rows.specs.StoredVersion.{placed_from}
use Rattle.txc_rows.specs.LatestTable.{IsPlacedRow}
use Rattle.txc_rows.proofs.decode.all_placed_from.Given as goal

abbrev pub invariant-loop-row : goal.invariant-loop-row
invariant-loop-row l = record {
  done : l.placed.items ++ map placed_from (drop l.row-index l.rows) ≡ map placed_from l.rows;
  rest : AllByRecursion (IsPlacedRow l.table) (drop l.row-index l.rows);
}
