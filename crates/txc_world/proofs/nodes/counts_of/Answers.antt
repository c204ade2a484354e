use Rattle.std.proofs.Common.{List, sym, subst, take}
use Rattle.txc_node.specs.Counts.{AreCountsOf}
use Rattle.txc_node.specs.declared.record.Record.{Record}
use Rattle.txc_shared.proofs.Turns.{take_read}
use Rattle.txc_world.proofs.nodes.counts_of.Goals as goal

pub loop-at-preserved : goal.loop-at-preserved
loop-at-preserved c =
    let all = c.args.front.now.records in
    subst (λ (rs : List Record). AreCountsOf rs c.add.new.self) (sym (take_read all c.loop-at.at c.in-Some.step.now c.in-Some.ensures)) (c.add.ensures.history (take c.loop-at.at all) c.loop-at.invariant)
