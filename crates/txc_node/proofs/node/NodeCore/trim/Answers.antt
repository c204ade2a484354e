use Rattle.txc_node.specs.contracts.node.NodeCore.{the_view}
use Rattle.txc_node.proofs.Trims.{trim_bounded}
use Rattle.txc_node.proofs.node.NodeCore.trim.Goals as goal

pub invariant_of-self : goal.invariant_of-self
invariant_of-self c =
    rw (c.trim.ensures.entries, c.trim.ensures.capacity) (trim_bounded (the_view c.self.inside) c.args.most c.self.invariant)
