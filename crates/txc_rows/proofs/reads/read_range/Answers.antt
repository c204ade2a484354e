use Rattle.std.proofs.Common.{[], ◌∷◌, IfOk, IfErr, refl}
use Rattle.sqlite.specs.Held.{state}
use Rattle.sqlite.specs.Steps.{over_memory}
use Rattle.sqlite.specs.Order.{Row}
use Rattle.sqlite.specs.State.{Shown, FailsToQuery}
use Rattle.sqlite.proofs.Callers.{memory_is_clean}
use Rattle.txc_rows.specs.declared.query.Query.TheVariants.{Range}
use Rattle.txc_rows.specs.declared.texts.TheConstants.{READ_RANGE}
use Rattle.txc_rows.specs.StoredVersion.{number}
use Rattle.txc_rows.proofs.Commands.{range_filter, range_is}
use Rattle.txc_rows.proofs.StoredRows.{range_test}
use Rattle.txc_rows.proofs.HeldLemmas.{lists}
use Rattle.txc_rows.proofs.reads.read_range.Goals as goal

pub returns : goal.returns
returns c =
    let old = c.args.conn.now in
    let new = c.query_all.new.self in
    let given : Row = number c.args.table ∷ number c.args.most ∷ number c.args.from ∷ number c.args.first ∷ number c.args.last ∷ [] in
    let ok : IfOk c.query_all.result (λ rows. Shown READ_RANGE.now given (state over_memory old) (state over_memory new) rows.items)
    = rw (c.params-to_sql.ensures, c.params-to_sql-2.ensures, c.params-to_sql-3.ensures, c.params-to_sql-4.ensures, c.params-to_sql-5.ensures, c.from.ensures, c.number.ensures.answer) at (c.query_all.ensures.ok (memory_is_clean new)) in
    let err : IfErr c.query_all.result (FailsToQuery READ_RANGE.now given (state over_memory old) (state over_memory new))
    = rw (c.params-to_sql.ensures, c.params-to_sql-2.ensures, c.params-to_sql-3.ensures, c.params-to_sql-4.ensures, c.params-to_sql-5.ensures, c.from.ensures, c.number.ensures.answer) at (c.query_all.ensures.err (memory_is_clean new)) in
    lists (Range c.args.table c.args.first c.args.last) c.args.from c.args.most range_filter READ_RANGE.now range_is given (range_test c.args.table c.args.most c.args.from c.args.first c.args.last) refl old new c.requires c.query_all.result ok err
