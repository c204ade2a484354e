use Rattle.txc_node.specs.contracts.node.NodeCore.{the_view}
use Rattle.txc_node.proofs.Swept.{sweep_bounded}
use Rattle.txc_node.proofs.node.NodeCore.sweep.Goals as goal

pub invariant_of-self : goal.invariant_of-self
invariant_of-self c =
    rw (c.drop_ended.ensures.entries, c.drop_ended.ensures.capacity) (sweep_bounded (the_view c.self.inside) c.args.horizon c.self.invariant)
