use Rattle.std.proofs.Common.{◌≡◌, ap, sym, ◌∙◌, not, length, ◌==◌, List}
use Rattle.std.specs.List.{list_any}
use Rattle.txc_rows.specs.Values.{RowValue}
use Rattle.txc_rows.specs.States.{answer}
use Rattle.txc_rows.specs.Net.{change_table, change_id, changes_state}
use Rattle.txc_rows.specs.Values.{same_row}
use Rattle.txc_rows.specs.declared.query.Change.{Change}
use Rattle.txc_rows.specs.declared.query.Query.TheVariants.{ById}
use Rattle.txc_db.proofs.Settling.{has_at, some_at}
use Rattle.txc_db.proofs.settled.makes_another.Goals as goal

pub returns-in-Put : goal.returns-in-Put
returns-in-Put c = λ s at.
    let there : c.args.rows.now ≡ answer (ById c.in-Put.row.table c.in-Put.row.id) s = at ∙ ap (λ (x : Change). answer (ById (change_table x) (change_id x)) s) c.in-Put.is in
    ap not (c.has_row.ensures ∙ (ap (list_any (same_row c.in-Put.row)) there ∙ has_at s c.in-Put.row)) ∙ ap (λ (x : Change). changes_state s x) (sym c.in-Put.is)

pub returns-in-Remove : goal.returns-in-Remove
returns-in-Remove c = λ s at.
    let there : c.args.rows.now ≡ answer (ById c.in-Remove.field-0 c.in-Remove.field-1) s = at ∙ ap (λ (x : Change). answer (ById (change_table x) (change_id x)) s) c.in-Remove.is in
    ap not (c.is_empty.ensures ∙ ap (λ (xs : List RowValue). length xs == 0) there) ∙ (some_at c.in-Remove.field-0 c.in-Remove.field-1 s ∙ ap (λ (x : Change). changes_state s x) (sym c.in-Remove.is))
