use Rattle.std.proofs.Common.{take}
use Rattle.txc_node.specs.Counts.{AreCountsOf}
use Rattle.txc_shared.proofs.node_pass.count_records.Given as goal

abbrev pub invariant-loop-at : goal.invariant-loop-at
invariant-loop-at l = AreCountsOf (take l.at l.front.list) l.counts
