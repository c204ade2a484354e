use Rattle.std.proofs.Common.{[], ◌∷◌, ◌++◌, ◌∙◌}
use Rattle.sqlite.specs.Held.{state}
use Rattle.sqlite.specs.Steps.{over_memory}
use Rattle.sqlite.specs.State.{ExecutesInside}
use Rattle.sqlite.proofs.Callers.{memory_is_clean}
use Rattle.txc_rows.specs.declared.texts.TheConstants.{ADD_LATEST}
use Rattle.txc_rows.specs.StoredVersion.{cells_of, placed_from}
use Rattle.txc_rows.specs.LatestTable.{latest_in, HasLatest}
use Rattle.txc_rows.proofs.WriteLemmas.{adds_latest}
use Rattle.txc_rows.proofs.SweepCalls.{bound_cells}
use Rattle.txc_rows.proofs.HeldLemmas.{steps, has_latest}
use Rattle.txc_rows.proofs.statements.add_row.Goals as goal

ran : (c : goal.After-execute) → ExecutesInside 0 ADD_LATEST.now (cells_of (placed_from c.args.row.now)) (state over_memory c.args.tx.now.conn.now) (state over_memory c.execute.new.self.conn.now) c.execute.result
ran c = rw (c.in_ok-get_ref.ensures.ok.1, c.in_ok-get_ref-2.ensures.ok.1, c.in_ok-get_ref-3.ensures.ok.1, c.in_ok-get_ref-4.ensures.ok.1, c.in_ok-get_ref-5.ensures.ok.1, c.in_ok-get_ref-6.ensures.ok.1, c.in_ok-get_ref-7.ensures.ok.1, bound_cells c.args.row.now c.requires.cells ∙ c.requires.cells) at (c.execute.ensures.runs (memory_is_clean c.execute.new.self.conn.now) c.requires.inside)

pub returns-clause-step : goal.returns-clause-step
returns-clause-step c =
    let old = c.args.tx.now.conn.now in
    let new = c.execute.new.self.conn.now in
    let x = placed_from c.args.row.now in
    let has = c.requires.table in
    steps ADD_LATEST.now (cells_of x) (HasLatest (latest_in old ++ x ∷ [])) old new c.execute.result (ran c)
    (λ count run. has_latest _ new (adds_latest (state over_memory old) (state over_memory new) x count has.schema has.latest run))
