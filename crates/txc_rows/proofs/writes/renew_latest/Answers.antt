use Rattle.std.proofs.Common.{map}
use Rattle.sqlite.specs.Held.{state}
use Rattle.sqlite.specs.Steps.{over_memory}
use Rattle.sqlite.specs.State.{ExecutesInside}
use Rattle.sqlite.proofs.Callers.{memory_is_clean}
use Rattle.txc_rows.specs.declared.texts.TheConstants.{RENEW_LATEST}
use Rattle.txc_rows.specs.Placed.{renewed}
use Rattle.txc_rows.specs.LatestTable.{latest_in, HasLatest}
use Rattle.txc_rows.proofs.PutLemmas.{few_keys}
use Rattle.txc_rows.proofs.WriteLemmas.{renew_params, renews}
use Rattle.txc_rows.proofs.HeldLemmas.{steps, has_latest}
use Rattle.txc_rows.proofs.writes.renew_latest.Goals as goal

ran : (c : goal.After-execute) → ExecutesInside 0 RENEW_LATEST.now (renew_params c.args.place c.args.stamp c.args.row.now) (state over_memory c.args.tx.now.conn.now) (state over_memory c.execute.new.self.conn.now) c.execute.result
ran c = rw (c.params-to_sql.ensures, c.params-to_sql-2.ensures, c.params-to_sql-3.ensures, c.params-to_sql-4.ensures, c.params-to_sql-5.ensures, c.params-to_sql-6.ensures, c.from.ensures, c.number.ensures.answer, c.table.ensures, c.id.ensures, c.number-2.ensures.answer, c.group.ensures, c.body.ensures.answer)
    at (c.execute.ensures.runs (memory_is_clean c.execute.new.self.conn.now) c.requires.inside)

pub returns-clause-step : goal.returns-clause-step
returns-clause-step c =
    let old = c.args.tx.now.conn.now in
    let new = c.execute.new.self.conn.now in
    let place = c.args.place in
    let s = c.args.stamp in
    let row = c.args.row.now in
    let has = c.requires.table in
    steps RENEW_LATEST.now (renew_params place s row) (HasLatest (map (renewed place row s) (latest_in old))) old new c.execute.result (ran c)
    (λ count run. has_latest _ new (renews (state over_memory old) (state over_memory new) place s row count has.schema has.latest (few_keys row.table row.id row.group (latest_in old) c.requires.keys) run))
