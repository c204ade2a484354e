use Rattle.std.proofs.Common.{◌≡◌, take}
use Rattle.std.specs.List.{flat_map}
use Rattle.txc_tags.specs.Tags.{with_tags}
use Rattle.txc_rows.specs.RowTags.{tags_of_row}
use Rattle.txc_rows.specs.Net.{puts_of}
use Rattle.txc_db.proofs.settled.add_puts.Given as goal

abbrev pub invariant-loop-change : goal.invariant-loop-change
invariant-loop-change l = l.tags ≡ with_tags (flat_map tags_of_row (puts_of (take l.change-index l.changes))) l.initial.tags
