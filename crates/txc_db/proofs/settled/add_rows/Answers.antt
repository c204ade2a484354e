use Rattle.std.proofs.Common.{◌≡◌, ap, sym, ◌∙◌, slice_get, Some}
use Rattle.std.proofs.lemmas.Option.{slice_get-get_or}
use Rattle.txc_tags.specs.Tags.{with_tags}
use Rattle.txc_rows.specs.RowTags.{tags_of_row}
use Rattle.txc_rows.specs.Values.{RowValue}
use Rattle.txc_db.proofs.Settling.{rows_more}
use Rattle.txc_db.proofs.settled.add_rows.Goals as goal

pub loop-row-preserved : goal.loop-row-preserved
loop-row-preserved c =
    let at : slice_get c.args.rows.now c.loop-row.row-index ≡ Some c.row-item.result = slice_get-get_or c.args.rows.now c.loop-row.row-index c.row-item.result c.loop-row-test.true ∙ ap (λ (r : RowValue). Some r) (sym c.row-item.is) in
    c.in_ok-add_row.ensures ∙ (ap (with_tags (tags_of_row c.row-item.result)) c.loop-row.invariant ∙ rows_more c.args.rows.now c.loop-row.row-index c.row-item.result c.args.tags.now at)
