use Rattle.std.proofs.Common.{◌≡◌, true, false}
use Rattle.txc_tags.specs.Tags.{has_tag}
use Rattle.txc_node.specs.Places.{equal_places}
use Rattle.txc_node.specs.IndexedEntries.{KeepsListed}
use Rattle.txc_node.proofs.tag_index.TagIndex.unlist_others.Given as goal

abbrev pub invariant-loop-tag : goal.invariant-loop-tag
invariant-loop-tag l = record {
  places : KeepsListed (λ t q. equal_places l.place q ≡ false) l.fn.self.tables.items l.self.tables.items;
  tags : KeepsListed (λ t q. has_tag l.others t ≡ true) l.fn.self.tables.items l.self.tables.items;
}
