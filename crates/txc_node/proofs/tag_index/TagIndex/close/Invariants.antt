use Rattle.std.proofs.Common.{◌≡◌, ℕ, ◌<◌, true, get_or}
use Rattle.txc_tags.specs.declared.tag.Tag.{Tag}
use Rattle.txc_node.specs.IndexedEntries.{AreSparedBy, Closes, KeepsListed, is_live}
use Rattle.txc_node.proofs.tag_index.TagIndex.close.Given as goal

abbrev pub invariant-loop-tag : goal.invariant-loop-tag
invariant-loop-tag l = record {
  closes : Closes l.closing.stamp l.closing.tags.now l.fn.entries l.entries l.count;
  spared : (k : ℕ) → k < l.tag-index → (d : Tag) → AreSparedBy l.closing.stamp l.closing.tags.now l.entries.entries l.fn.self.tables.items (get_or l.closing.tags.now k d);
  kept : KeepsListed (λ t q. is_live l.entries.entries q ≡ true) l.fn.self.tables.items l.self.tables.items;
}
