use Rattle.std.proofs.Common.{◌≡◌, ℕ, ◌<◌, get_or}
use Rattle.txc_stamp.specs.Interval.{Interval}
use Rattle.txc_node.specs.IndexedEntries.{entries_of}
use Rattle.txc_node.specs.Sweep.{AreStored, IsGone, Sheds}
use Rattle.txc_node.proofs.sweeping.Sweep.at_key.Given as goal

abbrev pub invariant-loop-i : goal.invariant-loop-i
invariant-loop-i l = record {
  stored : AreStored l.index.tables.items l.cache.entries;
  cap : l.cache.cap ≡ l.fn.cache.cap;
  sheds : Sheds l.self.processed l.self.horizon (entries_of l.fn.cache.entries) (entries_of l.cache.entries);
  gone : (k : ℕ) → k < l.i → (d : Interval) → IsGone l.self.processed l.self.horizon (entries_of l.cache.entries) l.key (get_or l.versions k d);
}
