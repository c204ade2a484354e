use Rattle.std.proofs.Common.{◌≡◌, ◌+◌, ◌<◌, ◌≤◌, length, take}
use Rattle.txc_node.specs.Cache.{bytes_of}
use Rattle.txc_node.proofs.indexed.IndexedEntries.trim.Given as goal

-- what is left is a prefix of what there was, and with one entry more it has too many bytes
abbrev pub invariant-loop-self : goal.invariant-loop-self
invariant-loop-self l = record {
  rest : l.self.entries ≡ take (length l.self.entries) l.initial.self.entries;
  few : length l.self.entries ≤ length l.initial.self.entries;
  over : length l.self.entries < length l.initial.self.entries → l.most < bytes_of (take (length l.self.entries + 1) l.initial.self.entries);
  capacity : l.self.capacity ≡ l.initial.self.capacity;
}

abbrev pub decreases-loop-self : goal.decreases-loop-self
decreases-loop-self l = length l.self.entries
