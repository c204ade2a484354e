use Rattle.std.proofs.Common.{◌≡◌, false}
use Rattle.txc_node.specs.Places.{equal_places}
use Rattle.txc_node.specs.IndexedEntries.{KeepsListed}
use Rattle.txc_node.proofs.tag_index.TagIndex.unlist.Given as goal

abbrev pub invariant-loop-tag : goal.invariant-loop-tag
invariant-loop-tag l = KeepsListed (λ t q. equal_places l.place q ≡ false) l.fn.self.tables.items l.self.tables.items
