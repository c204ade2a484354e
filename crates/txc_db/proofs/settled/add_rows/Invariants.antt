use Rattle.std.proofs.Common.{◌≡◌, take}
use Rattle.std.specs.List.{flat_map}
use Rattle.txc_tags.specs.Tags.{with_tags}
use Rattle.txc_rows.specs.RowTags.{tags_of_row}
use Rattle.txc_db.proofs.settled.add_rows.Given as goal

abbrev pub invariant-loop-row : goal.invariant-loop-row
invariant-loop-row l = l.tags ≡ with_tags (flat_map tags_of_row (take l.row-index l.rows)) l.initial.tags
