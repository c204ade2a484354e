use Rattle.std.proofs.Common.{◌≡◌, ◌++◌, true, map, drop}
use Rattle.std.specs.List.{AllByRecursion}
use Rattle.sqlite.specs.Held.{state}
use Rattle.sqlite.specs.Steps.{over_memory}
use Rattle.txc_rows.specs.StoredVersion.{AreCells, placed_from}
use Rattle.txc_rows.specs.LatestTable.{latest_in, HasTable}
use Rattle.txc_rows.proofs.statements.fill_latest.Given as goal

abbrev pub invariant-loop-row : goal.invariant-loop-row
invariant-loop-row l = record {
  table : HasTable l.tx.conn.now;
  latest : latest_in l.tx.conn.now ++ map placed_from (drop l.row-index l.rows) ≡ latest_in l.fn.tx.conn.now ++ map placed_from l.rows;
  inside : l.tx.conn.now.in_transaction ≡ true;
  base : (state over_memory l.tx.conn.now).committed ≡ (state over_memory l.fn.tx.conn.now).committed;
  rest : AllByRecursion AreCells (drop l.row-index l.rows);
  same : l.tx.conn.ghost_name ≡ l.initial.tx.conn.ghost_name;
}
