use Rattle.std.proofs.Common.{◌≡◌, ap, sym, ◌∙◌, slice_get, Some, [], ◌∷◌}
use Rattle.std.specs.List.{flat_map}
use Rattle.std.proofs.lemmas.Option.{slice_get-get_or}
use Rattle.txc_tags.specs.Tags.{with_tags}
use Rattle.txc_rows.specs.RowTags.{tags_of_row}
use Rattle.txc_rows.specs.Net.{puts_of}
use Rattle.txc_rows.specs.declared.query.Change.{Change}
use Rattle.txc_db.proofs.Settling.{puts_more}
use Rattle.txc_db.proofs.settled.add_puts.Goals as goal

pub loop-change-preserved : goal.loop-change-preserved
loop-change-preserved c =
    let at : slice_get c.args.changes.now c.loop-change.change-index ≡ Some c.change-item.result = slice_get-get_or c.args.changes.now c.loop-change.change-index c.change-item.result c.loop-change-test.true ∙ ap (λ (r : Change). Some r) (sym c.change-item.is) in
    c.in_ok-add_put.ensures ∙ (ap (with_tags (flat_map tags_of_row (puts_of (c.change-item.result ∷ [])))) c.loop-change.invariant ∙ puts_more c.args.changes.now c.loop-change.change-index c.change-item.result c.args.tags.now at)
