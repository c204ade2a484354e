use Rattle.std.proofs.Common.{◌≡◌, ◌<◌, ℕ, true, get_or}
use Rattle.txc_tags.specs.declared.tag.Tag.{Tag}
use Rattle.txc_node.specs.IndexedEntries.{lists, KeepsListed}
use Rattle.txc_node.proofs.tag_index.TagIndex.list.Given as goal

abbrev pub invariant-loop-tag : goal.invariant-loop-tag
invariant-loop-tag l = record {
  listed : (k : ℕ) → k < l.tag-index → (d : Tag) → lists l.self.tables.items (get_or l.tags k d) l.place ≡ true;
  kept : KeepsListed (λ t q. Unit {0}) l.fn.self.tables.items l.self.tables.items;
}
