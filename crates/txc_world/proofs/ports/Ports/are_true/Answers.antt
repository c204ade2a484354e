use Rattle.std.proofs.Common.{get_or, subst}
use Rattle.std.specs.Prelude.{All}
use Rattle.txc_world.specs.Ports.{PortsValue, whole_of}
use Rattle.txc_world.specs.Worlds.{IsTrueNode}
use Rattle.txc_world.proofs.TruthLemmas.{true_node}
use Rattle.txc_world.proofs.ports.Ports.are_true.Goals as goal

pub returns : goal.returns
returns g c =
    let p : PortsValue = record { database = c.self.inside.database; cushion = c.self.inside.cushion; nodes = c.self.inside.nodes.items; spare = c.self.inside.spare.items; actors = c.self.inside.actors } in
    subst (λ (v : PortsValue). All (IsTrueNode g.A.App.next (whole_of v)) v.nodes) c.self.view_is
    (λ i n within. true_node (whole_of p) p.actors (get_or p.nodes i n) (c.self.invariant.1.nodes i n within))
