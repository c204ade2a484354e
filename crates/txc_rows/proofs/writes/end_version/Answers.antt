use Rattle.std.proofs.Common.{[], ◌∷◌, map}
use Rattle.sqlite.specs.Held.{state}
use Rattle.sqlite.specs.Steps.{over_memory}
use Rattle.sqlite.specs.State.{ExecutesInside}
use Rattle.sqlite.proofs.Callers.{memory_is_clean}
use Rattle.txc_rows.specs.declared.texts.TheConstants.{END_VERSION}
use Rattle.txc_rows.specs.Placed.{closed_placed}
use Rattle.txc_rows.specs.StoredVersion.{number}
use Rattle.txc_rows.specs.LatestTable.{latest_in, HasLatest}
use Rattle.txc_rows.proofs.PutLemmas.{few_current}
use Rattle.txc_rows.proofs.WriteLemmas.{closes}
use Rattle.txc_rows.proofs.HeldLemmas.{steps, has_latest}
use Rattle.txc_rows.proofs.writes.end_version.Goals as goal

ran : (c : goal.After-execute) → ExecutesInside 0 END_VERSION.now (number c.args.table ∷ number c.args.id ∷ number c.args.stamp ∷ []) (state over_memory c.args.tx.now.conn.now) (state over_memory c.execute.new.self.conn.now) c.execute.result
ran c = rw (c.params-to_sql.ensures, c.params-to_sql-2.ensures, c.params-to_sql-3.ensures, c.from.ensures, c.number.ensures.answer, c.number-2.ensures.answer) at (c.execute.ensures.runs (memory_is_clean c.execute.new.self.conn.now) c.requires.inside)

pub returns-clause-step : goal.returns-clause-step
returns-clause-step c =
    let old = c.args.tx.now.conn.now in
    let new = c.execute.new.self.conn.now in
    let t = c.args.table in
    let i = c.args.id in
    let s = c.args.stamp in
    let has = c.requires.table in
    steps END_VERSION.now (number t ∷ number i ∷ number s ∷ []) (HasLatest (map (closed_placed t i s) (latest_in old))) old new c.execute.result (ran c)
    (λ count run. has_latest _ new (closes (state over_memory old) (state over_memory new) t i s count has.schema has.latest (few_current t i (latest_in old) c.requires.current) run))
