use Rattle.std.proofs.Common.{◌≡◌, true}
use Rattle.txc_tags.specs.declared.tag.Rows.{Rows}
use Rattle.txc_node.specs.declared.place.Place.{Place}
use Rattle.txc_node.specs.IndexedEntries.{lists_rows, is_live}
use Rattle.txc_node.proofs.tag_index.clean_all.Given as goal

abbrev pub invariant-loop-i : goal.invariant-loop-i
invariant-loop-i l = (r : Rows) (q : Place) → is_live l.entries.entries q ≡ true → lists_rows l.fn.buckets.entries r q ≡ true → lists_rows l.buckets.entries r q ≡ true
