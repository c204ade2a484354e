use Rattle.txc_world.specs.Ports.{PortsValue, whole_of}
use Rattle.txc_world.proofs.PortsLemmas.{node_from}
use Rattle.txc_world.proofs.TruthLemmas.{true_node}
use Rattle.txc_world.proofs.ports.Ports.node.Goals as goal

pub returns-clause-is_true : goal.returns-clause-is_true
returns-clause-is_true g c =
    let p : PortsValue = record { database = c.self.inside.database; cushion = c.self.inside.cushion; nodes = c.self.inside.nodes.items; spare = c.self.inside.spare.items; actors = c.self.inside.actors } in
    let q : PortsValue = c.args.self.now in
    true_node (whole_of q) q.actors c.index.result.now (node_from p q c.self.view_is c.args.at c.index.result.now c.self.invariant.1 c.requires c.index.ensures)
