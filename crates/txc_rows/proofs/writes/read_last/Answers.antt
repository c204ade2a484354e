use Rattle.std.proofs.Common.{◌⊎◌, [], ◌∷◌, IfOk, IfErr}
use Rattle.sqlite.specs.Held.{state}
use Rattle.sqlite.specs.Steps.{over_memory}
use Rattle.sqlite.specs.Order.{Row}
use Rattle.sqlite.specs.State.{Shown, FailsToQuery, IsTooLate}
use Rattle.sqlite.proofs.Callers.{memory_is_clean}
use Rattle.txc_rows.specs.declared.texts.TheConstants.{READ_LAST}
use Rattle.txc_rows.specs.StoredVersion.{number}
use Rattle.txc_rows.proofs.HeldLemmas.{last_step, last_touched}
use Rattle.txc_rows.proofs.writes.read_last.Goals as goal

abbrev given : goal.After-query_all → Row
given c = number c.args.table ∷ number c.args.id ∷ number c.args.group ∷ []

shown : (c : goal.After-query_all) → IfOk c.query_all.result (λ rows. Shown READ_LAST.now (given c) (state over_memory c.args.tx.now.conn.now) (state over_memory c.query_all.new.self.conn.now) rows.items)
shown c = rw (c.params-to_sql.ensures, c.params-to_sql-2.ensures, c.params-to_sql-3.ensures, c.from.ensures, c.number.ensures.answer) at (c.query_all.ensures.ok (memory_is_clean c.query_all.new.self.conn.now))

pub returns-clause-step : goal.returns-clause-step
returns-clause-step c =
    let old = c.args.tx.now.conn.now in
    let new = c.query_all.new.self.conn.now in
    let err : IfErr c.query_all.result (λ e. FailsToQuery READ_LAST.now (given c) (state over_memory old) (state over_memory new) e ⊎ IsTooLate READ_LAST.now (given c) (state over_memory old) (state over_memory new) e)
    = rw (c.params-to_sql.ensures, c.params-to_sql-2.ensures, c.params-to_sql-3.ensures, c.from.ensures, c.number.ensures.answer) at (c.query_all.ensures.err (memory_is_clean new)) in
    last_step c.args.table c.args.id c.args.group old new c.requires.table c.requires.each c.requires.inside c.query_all.result (shown c) err

pub returns-clause-touched : goal.returns-clause-touched
returns-clause-touched c = last_touched c.args.table c.args.id c.args.group c.args.tx.now.conn.now c.query_all.new.self.conn.now c.requires.table c.requires.each c.requires.inside c.query_all.result (shown c)
