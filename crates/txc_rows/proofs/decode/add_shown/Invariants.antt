use Rattle.std.proofs.Common.{◌≡◌, ◌++◌, drop, map}
use Rattle.std.specs.List.{AllByRecursion}
use Rattle.txc_rows.specs.StoredVersion.{version_shown}
use Rattle.txc_rows.specs.LatestTable.{IsShown}
use Rattle.txc_rows.proofs.decode.add_shown.Given as goal

abbrev pub invariant-loop-shown : goal.invariant-loop-shown
invariant-loop-shown l = record {
  done : l.found.items ++ map (version_shown l.table) (drop l.shown-index l.rows) ≡ l.fn.found.items ++ map (version_shown l.table) l.rows;
  rest : AllByRecursion (IsShown l.table) (drop l.shown-index l.rows);
}
