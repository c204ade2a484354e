use Rattle.std.proofs.Common.{ℕ, ◌<◌}
use Rattle.txc_node.specs.IndexedEntries.{AreSparedAt, Closes}
use Rattle.txc_node.proofs.closing.Closing.in_table.Given as goal

abbrev pub invariant-loop-i : goal.invariant-loop-i
invariant-loop-i l = record {
  closes : Closes l.self.stamp l.self.tags.now l.fn.entries l.entries l.count;
  spared : (k : ℕ) → k < l.i → AreSparedAt l.self.stamp l.self.tags.now l.entries.entries l.buckets.entries k;
}
