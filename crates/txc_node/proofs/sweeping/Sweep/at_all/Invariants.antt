use Rattle.std.proofs.Common.{◌≡◌, ℕ, ◌<◌}
use Rattle.txc_node.specs.IndexedEntries.{entries_of}
use Rattle.txc_node.specs.Sweep.{AreStored, AreGoneAt, Sheds}
use Rattle.txc_node.proofs.sweeping.Sweep.at_all.Given as goal

abbrev pub invariant-loop-i : goal.invariant-loop-i
invariant-loop-i l = record {
  stored : AreStored l.index.tables.items l.cache.entries;
  cap : l.cache.cap ≡ l.fn.cache.cap;
  sheds : Sheds l.self.processed l.self.horizon (entries_of l.fn.cache.entries) (entries_of l.cache.entries);
  gone : (k : ℕ) → k < l.i → AreGoneAt l.self.processed l.self.horizon (entries_of l.cache.entries) l.keys.entries k;
}
