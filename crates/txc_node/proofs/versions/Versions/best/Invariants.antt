use Rattle.std.proofs.Common.{◌<◌, List, length}
use Rattle.std.specs.Prelude.{IfSome}
use Rattle.txc_tags.specs.Keys.{Call}
use Rattle.txc_node.specs.declared.entry.Entry.{Entry}
use Rattle.txc_node.specs.Best.{BestSoFar}
use Rattle.txc_node.specs.IndexedEntries.{AreOf}
use Rattle.txc_node.proofs.versions.Versions.best.Given as goal

abbrev pub invariant-loop-i : goal.invariant-loop-i
invariant-loop-i l = record {
  within : IfSome l.best (λ b. b < length l.self);
  so_far : (key : Call) (es : List Entry) → AreOf key es l.self → BestSoFar l.processed key l.lo l.hi es l.i l.best;
}
