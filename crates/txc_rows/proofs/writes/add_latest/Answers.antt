use Rattle.std.proofs.Common.{[], ◌∷◌, ◌++◌}
use Rattle.sqlite.specs.Held.{state}
use Rattle.sqlite.specs.Steps.{over_memory}
use Rattle.sqlite.specs.State.{ExecutesInside}
use Rattle.sqlite.proofs.Callers.{memory_is_clean}
use Rattle.txc_rows.specs.declared.texts.TheConstants.{ADD_LATEST}
use Rattle.txc_rows.specs.declared.placed.Placed.{Placed}
use Rattle.txc_rows.specs.Placed.{new_placed}
use Rattle.txc_rows.specs.StoredVersion.{cells_of}
use Rattle.txc_rows.specs.LatestTable.{latest_in, HasLatest}
use Rattle.txc_rows.proofs.WriteLemmas.{adds_latest}
use Rattle.txc_rows.proofs.HeldLemmas.{steps, has_latest}
use Rattle.txc_rows.proofs.writes.add_latest.Goals as goal

abbrev new_one : goal.After-execute → Placed
new_one c = new_placed c.args.place c.args.row.now c.args.stamp

ran : (c : goal.After-execute) → ExecutesInside 0 ADD_LATEST.now (cells_of (new_one c)) (state over_memory c.args.tx.now.conn.now) (state over_memory c.execute.new.self.conn.now) c.execute.result
ran c = rw (c.params-to_sql.ensures, c.params-to_sql-2.ensures, c.params-to_sql-3.ensures, c.params-to_sql-4.ensures, c.params-to_sql-5.ensures, c.params-to_sql-6.ensures, c.params-to_sql-7.ensures, c.from.ensures, c.number.ensures.answer, c.table.ensures, c.id.ensures, c.number-2.ensures.answer, c.group.ensures, c.body.ensures.answer)
    at (c.execute.ensures.runs (memory_is_clean c.execute.new.self.conn.now) c.requires.inside)

pub returns-clause-step : goal.returns-clause-step
returns-clause-step c =
    let old = c.args.tx.now.conn.now in
    let new = c.execute.new.self.conn.now in
    let x = new_one c in
    let has = c.requires.table in
    steps ADD_LATEST.now (cells_of x) (HasLatest (latest_in old ++ x ∷ [])) old new c.execute.result (ran c)
    (λ count run. has_latest _ new (adds_latest (state over_memory old) (state over_memory new) x count has.schema has.latest run))
