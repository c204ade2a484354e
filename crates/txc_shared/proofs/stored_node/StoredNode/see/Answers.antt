use Rattle.txc_shared.specs.Nodes.{start_of}
use Rattle.txc_shared.proofs.stored_node.StoredNode.see.Goals as goal

pub invariant_of-self : goal.invariant_of-self
invariant_of-self g c = (
  c.nodes_go_on.ensures.sees g.A.App.next c.self.inside.seen.history c.longer.new.self.history (start_of c.self.inside.settings c.self.inside.from) c.self.inside.log.records c.self.inside.core c.self.inside.broken
      c.longer.ensures.this c.self.invariant.0,
  c.self.invariant.1,
)
