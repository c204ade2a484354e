use Rattle.std.proofs.Common.{◌∙◌, ◌≤◌, ◌<◌, length, set, ap, refl, sym, subst}
use Rattle.txc_world.specs.Ports.{PortsValue, whole_of}
use Rattle.txc_world.proofs.NodeLemmas.{stays_advanced}
use Rattle.txc_world.proofs.KeptLemmas.{kept_advance, told_advance}
use Rattle.txc_world.proofs.PortsLemmas.{keeps_itself, keeps_node_from, led_advanced, ports_node_from}
use Rattle.txc_world.proofs.ports.Ports.advance.Goals.{in-Ok, in-Err}
use Rattle.txc_world.proofs.ports.Ports.advance.Goals as goal

pub invariant_of-self : goal.invariant_of-self
invariant_of-self g c =
    let p : PortsValue = record { database = c.self.inside.database; cushion = c.self.inside.cushion; nodes = c.self.inside.nodes.items; spare = c.self.inside.spare.items; actors = c.self.inside.actors } in (
      c.self.invariant.0,
      ports_node_from p c.args.self.now c.self.view_is c.args.at c.index_mut-node.result.now c.advance-advanced.new.node c.self.invariant.1
          (subst (λ n. c.args.at < n) c.len.ensures c.if-at-len.false) c.index_mut-node.ensures.value (stays_advanced (whole_of p) c.index_mut-node.result.now c.advance-advanced.new.node c.self.inside.actors c.advance-advanced.result c.advance-advanced.ensures) c.is_sound.ensures,
    )

pub returns-then-at-len : goal.returns-then-at-len
returns-then-at-len g c = record {
  transition = (refl, subst (λ n. n ≤ c.args.at) c.len.ensures c.if-at-len.true);
  keeps = keeps_itself c.args.self.now;
}

pub returns : goal.returns
returns g c =
    let p : PortsValue = record { database = c.self.inside.database; cushion = c.self.inside.cushion; nodes = c.self.inside.nodes.items; spare = c.self.inside.spare.items; actors = c.self.inside.actors } in
    let node = c.index_mut-node.result.now in
    let within : c.args.at < length c.args.self.now.nodes = subst (λ n. c.args.at < n) c.len.ensures c.if-at-len.false in
    record {
      transition = kept_advance c.args.self.now (record p { nodes = set p.nodes c.args.at c.advance-advanced.new.node }) c.args.at c.advance-advanced.result c.match-advanced.result
          (led_advanced p c.args.self.now c.self.view_is c.args.at node c.advance-advanced.new.node c.advance-advanced.result within c.index_mut-node.ensures.value c.advance-advanced.ensures)
          (elim c.match-advanced.branch [
            | in-Ok w ↦ w.result-is ∙ sym (ap told_advance w.in-Ok.is)
            | in-Err w ↦ w.result-is ∙ sym (ap told_advance w.in-Err.is)
          ]);
      keeps = keeps_node_from p c.args.self.now c.self.view_is c.args.at node c.advance-advanced.new.node c.index_mut-node.ensures.value
          (stays_advanced (whole_of p) node c.advance-advanced.new.node c.self.inside.actors c.advance-advanced.result c.advance-advanced.ensures);
    }
