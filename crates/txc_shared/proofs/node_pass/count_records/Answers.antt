use Rattle.std.proofs.Common.{take, sym, subst}
use Rattle.txc_node.specs.Counts.{AreCountsOf}
use Rattle.txc_node.specs.declared.record.Record.{Record}
use Rattle.std.specs.Prelude.{List}
use Rattle.txc_shared.proofs.Turns.{take_read}
use Rattle.txc_shared.proofs.node_pass.count_records.Goals as goal

pub loop-at-preserved : goal.loop-at-preserved
loop-at-preserved c =
    let all = c.args.front.now.list in
    subst (λ (rs : List Record). AreCountsOf rs c.add.new.self) (sym (take_read all c.loop-at.at c.get.result.now c.get.ensures)) (c.add.ensures.history (take c.loop-at.at all) c.loop-at.invariant)
