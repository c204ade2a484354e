use Rattle.std.proofs.Common.{[], ◌∷◌, IfOk, IfErr}
use Rattle.sqlite.specs.Held.{state}
use Rattle.sqlite.specs.Steps.{over_memory}
use Rattle.sqlite.specs.Order.{Row}
use Rattle.sqlite.specs.State.{Shown, FailsToQuery}
use Rattle.sqlite.proofs.Callers.{memory_is_clean}
use Rattle.txc_rows.specs.declared.texts.TheConstants.{READ_PLACED}
use Rattle.txc_rows.specs.StoredVersion.{number}
use Rattle.txc_rows.proofs.Commands.{placed_is}
use Rattle.txc_rows.proofs.HeldLemmas.{read_same, row_passing}
use Rattle.txc_rows.proofs.reads.read_placed.Goals as goal

abbrev given : goal.After-query_all → Row
given c = number c.args.table ∷ number c.args.id ∷ number c.args.from ∷ []

shown : (c : goal.After-query_all) → IfOk c.query_all.result (λ rows. Shown READ_PLACED.now (given c) (state over_memory c.args.conn.now) (state over_memory c.query_all.new.self) rows.items)
shown c = rw (c.params-to_sql.ensures, c.params-to_sql-2.ensures, c.params-to_sql-3.ensures, c.from.ensures, c.number.ensures.answer) at (c.query_all.ensures.ok (memory_is_clean c.query_all.new.self))

pub returns-clause-same : goal.returns-clause-same
returns-clause-same c =
    let old = c.args.conn.now in
    let new = c.query_all.new.self in
    let err : IfErr c.query_all.result (FailsToQuery READ_PLACED.now (given c) (state over_memory old) (state over_memory new))
    = rw (c.params-to_sql.ensures, c.params-to_sql-2.ensures, c.params-to_sql-3.ensures, c.from.ensures, c.number.ensures.answer) at (c.query_all.ensures.err (memory_is_clean new)) in
    read_same READ_PLACED.now (given c) placed_is.plain old new c.requires c.query_all.result (shown c) err

pub returns-clause-versions : goal.returns-clause-versions
returns-clause-versions c = row_passing c.args.table c.args.id c.args.from c.args.conn.now c.query_all.new.self c.requires c.query_all.result (shown c)
