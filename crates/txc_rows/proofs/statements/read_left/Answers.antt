use Rattle.std.proofs.Common.{[], ◌∷◌, IfOk, IfErr}
use Rattle.sqlite.specs.Held.{state}
use Rattle.sqlite.specs.Steps.{over_memory}
use Rattle.sqlite.specs.Order.{Row}
use Rattle.sqlite.specs.State.{Shown, FailsToQuery}
use Rattle.sqlite.proofs.Callers.{memory_is_clean}
use Rattle.txc_rows.specs.declared.texts.TheConstants.{READ_LEFT}
use Rattle.txc_rows.specs.StoredVersion.{number}
use Rattle.txc_rows.proofs.HeldLemmas.{leaves}
use Rattle.txc_rows.proofs.statements.read_left.Goals as goal

pub returns : goal.returns
returns c =
    let old = c.args.conn.now in
    let new = c.query_all.new.self in
    let given : Row = number c.args.from ∷ [] in
    let ok : IfOk c.query_all.result (λ rows. Shown READ_LEFT.now given (state over_memory old) (state over_memory new) rows.items)
    = rw c.params-to_sql.ensures at (c.query_all.ensures.ok (memory_is_clean new)) in
    let err : IfErr c.query_all.result (FailsToQuery READ_LEFT.now given (state over_memory old) (state over_memory new))
    = rw c.params-to_sql.ensures at (c.query_all.ensures.err (memory_is_clean new)) in
    leaves c.args.from old new c.requires c.query_all.result ok err
