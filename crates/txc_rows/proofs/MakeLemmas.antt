-- What making and dropping the table does to a connection.
use Rattle.std.proofs.Common.{◌≡◌, ℕ, [], None, Ok, refl, ap, subst, ◌∙◌}
use Rattle.sqlite.specs.Command.TheVariants.{DropTable}
use Rattle.sqlite.specs.Does.{Tally, Does}
use Rattle.sqlite.specs.Listing.{understood}
use Rattle.sqlite.specs.Effect.{Database}
use Rattle.sqlite.specs.State.{mode_of, Executes}
use Rattle.sqlite.specs.Held.{Held, state}
use Rattle.sqlite.specs.Steps.{over_memory}
use Rattle.sqlite.proofs.Callers.{statement_of, runs_as}
use Rattle.sqlite_trees.specs.declared.memory.MemStore.{MemStore}
use Rattle.txc_rows.specs.declared.texts.TheConstants.{MAKE_LATEST, DROP_LATEST}
use Rattle.txc_rows.specs.Texts.{no_schema, latest_table, latest_schema}
use Rattle.txc_rows.specs.StoredVersion.{placed_all}
use Rattle.txc_rows.specs.LatestTable.{HasNoTable, HasTable, HasLatest}
use Rattle.txc_rows.proofs.Commands.{make_latest_is, drop_latest_is}
use Rattle.txc_rows.proofs.Steps.{creates, went, same_value}

pub makes_latest : (old new : Held MemStore) → HasNoTable old → (count : ℕ) → Executes MAKE_LATEST.now [] (state over_memory old) (state over_memory new) (Ok count) → HasLatest [] new
makes_latest old new has count h =
    let it = creates no_schema MAKE_LATEST.now latest_table make_latest_is.0.command make_latest_is.1 make_latest_is.0.plain make_latest_is.2 refl (state over_memory old) (state over_memory new) count has.schema h in
    record { table = record { schema = it.0; latest = rw it.1 (record { table = tt; each = tt }) }; latest_are = ap placed_all it.1 }

pub drops_latest : (old new : Held MemStore) (count : ℕ) → HasTable old → Executes DROP_LATEST.now [] (state over_memory old) (state over_memory new) (Ok count) → HasNoTable new
drops_latest old new count has h =
    let was = state over_memory old in
    let now = state over_memory new in
    let w = runs_as DROP_LATEST.now [] was now latest_schema has.schema (DropTable 0) drop_latest_is.command drop_latest_is.plain count h in
    let text = statement_of DROP_LATEST.now (understood latest_schema DROP_LATEST.now) in
    let done = went (subst (λ c. Does was.step_limit (mode_of was) [] (record was.now { schema = c }) text None (DropTable 0) (Ok (w.tally, now.now))) has.schema w.changed) in
    let counted = went done.2 in
    let tested = went counted.2 in
    let left = went tested.2 in
    let is : now.now ≡ left.0 = ap (λ (p : Tally × Database). p.1) (same_value left.2) in
    record { schema = ap (λ (d : Database). d.schema) is ∙ left.1.0 }
