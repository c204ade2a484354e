use Rattle.std.proofs.Common.{◌≡◌, ◌++◌, map, take, drop}
use Rattle.txc_node.specs.IndexedEntries.{in_stead}
use Rattle.txc_node.proofs.versions.change_each.Given as goal

abbrev pub invariant-loop-other : goal.invariant-loop-other
invariant-loop-other l = l.reaches ≡ map (in_stead l.reach) (take l.other-index l.fn.reaches) ++ drop l.other-index l.fn.reaches
