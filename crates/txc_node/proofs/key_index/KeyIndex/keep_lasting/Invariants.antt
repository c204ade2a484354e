use Rattle.std.proofs.Common.{◌≡◌, ◌-◌, drop}
use Rattle.txc_tags.specs.Keys.{Call}
use Rattle.txc_node.specs.IndexedEntries.{listed}
use Rattle.txc_node.specs.Sweep.{lasting, AreAllLasting}
use Rattle.txc_node.proofs.key_index.KeyIndex.keep_lasting.Given as goal

abbrev pub invariant-loop-n : goal.invariant-loop-n
invariant-loop-n l = record {
  same : (k : Call) → lasting l.sweep.processed l.sweep.horizon (listed l.self.versions.entries k) ≡ lasting l.sweep.processed l.sweep.horizon (listed l.fn.self.versions.entries k);
  from : AreAllLasting l.sweep.processed l.sweep.horizon (drop (l.len - l.n) l.self.versions.entries);
}
