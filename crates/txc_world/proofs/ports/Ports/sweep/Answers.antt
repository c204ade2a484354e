use Rattle.std.proofs.Common.{◌∙◌, ◌≤◌, ◌<◌, length, set, ap, refl, sym, subst}
use Rattle.txc_world.specs.NodeSteps.{SweepTransition}
use Rattle.txc_world.specs.Ports.{PortsValue, whole_of}
use Rattle.txc_world.proofs.NodeLemmas.{swept_so, stays_swept}
use Rattle.txc_world.proofs.KeptLemmas.{kept_sweep, told_sweep}
use Rattle.txc_world.proofs.PortsLemmas.{keeps_itself, keeps_node_from, led_from, ports_node_from}
use Rattle.txc_world.proofs.ports.Ports.sweep.Goals.{in-Ok, in-Err}
use Rattle.txc_world.proofs.ports.Ports.sweep.Goals as goal

pub invariant_of-self : goal.invariant_of-self
invariant_of-self g c =
    let p : PortsValue = record { database = c.self.inside.database; cushion = c.self.inside.cushion; nodes = c.self.inside.nodes.items; spare = c.self.inside.spare.items; actors = c.self.inside.actors } in
    let done = c.sweep-swept.ensures in (
      c.self.invariant.0,
      ports_node_from p c.args.self.now c.self.view_is c.args.at c.index_mut-node.result.now c.sweep-swept.new.self c.self.invariant.1
          (subst (λ n. c.args.at < n) c.len.ensures c.if-at-len.false) c.index_mut-node.ensures.value
          (stays_swept (whole_of p) c.index_mut-node.result.now c.sweep-swept.new.self c.self.inside.actors c.args.horizon c.sweep-swept.result
          (swept_so c.self.inside.actors c.args.horizon c.index_mut-node.result.now c.sweep-swept.new.self c.sweep-swept.result done.after done.answer done.only_if done.left done.refused)) c.is_sound.ensures,
    )

pub returns-then-at-len : goal.returns-then-at-len
returns-then-at-len g c = record {
  transition = (refl, subst (λ n. n ≤ c.args.at) c.len.ensures c.if-at-len.true);
  keeps = keeps_itself c.args.self.now;
}

pub returns : goal.returns
returns g c =
    let p : PortsValue = record { database = c.self.inside.database; cushion = c.self.inside.cushion; nodes = c.self.inside.nodes.items; spare = c.self.inside.spare.items; actors = c.self.inside.actors } in
    let node = c.index_mut-node.result.now in
    let new = c.sweep-swept.new.self in
    let done = c.sweep-swept.ensures in
    let within : c.args.at < length c.args.self.now.nodes = subst (λ n. c.args.at < n) c.len.ensures c.if-at-len.false in
    let swept : SweepTransition p.actors c.args.horizon node new c.sweep-swept.result = swept_so p.actors c.args.horizon node new c.sweep-swept.result done.after done.answer done.only_if done.left done.refused in
    record {
      transition = kept_sweep c.args.self.now (record p { nodes = set p.nodes c.args.at new }) c.args.at c.args.horizon c.sweep-swept.result c.match-swept.result
          (led_from p c.args.self.now c.self.view_is c.args.at _ node new within c.index_mut-node.ensures.value
          (subst (λ (v : PortsValue). SweepTransition v.actors c.args.horizon node new c.sweep-swept.result) c.self.view_is swept))
          (elim c.match-swept.branch [
            | in-Ok w ↦ w.result-is ∙ sym (ap told_sweep w.in-Ok.is)
            | in-Err w ↦ w.result-is ∙ sym (ap told_sweep w.in-Err.is)
          ]);
      keeps = keeps_node_from p c.args.self.now c.self.view_is c.args.at node new c.index_mut-node.ensures.value
          (stays_swept (whole_of p) node new p.actors c.args.horizon c.sweep-swept.result swept);
    }
