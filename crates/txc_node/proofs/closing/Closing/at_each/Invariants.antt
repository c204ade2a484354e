use Rattle.std.proofs.Common.{ℕ, ◌<◌, get_or}
use Rattle.txc_node.specs.declared.place.Place.{Place}
use Rattle.txc_node.specs.IndexedEntries.{Closes, IsSpared}
use Rattle.txc_node.proofs.closing.Closing.at_each.Given as goal

abbrev pub invariant-loop-i : goal.invariant-loop-i
invariant-loop-i l = record {
  closes : Closes l.self.stamp l.self.tags.now l.fn.entries l.entries l.count;
  spared : (k : ℕ) → k < l.i → (d : Place) → IsSpared l.self.stamp l.self.tags.now l.entries.entries (get_or l.places k d);
}
