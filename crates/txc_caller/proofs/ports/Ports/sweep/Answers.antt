use Rattle.std.proofs.Common.{◌≡◌, ◌∙◌, ap, subst, sym}
use Rattle.txc_shared.specs.Nodes.{NodeValue}
use Rattle.txc_caller.specs.Ports.{CallerPorts, CallerSweepTransition}
use Rattle.txc_caller.proofs.Asked.{swept}
use Rattle.txc_caller.proofs.Budgets.{swept_ports}
use Rattle.txc_caller.proofs.ports.Ports.sweep.Goals as goal

pub returns-clause-transition : goal.returns-clause-transition
returns-clause-transition g c =
    let inside = c.behind-plain.inside in
    let old : CallerPorts = record { database = inside.database; cushion = inside.cushion; node = inside.node; budget = inside.budget } in
    let done = c.sweep-swept.ensures in
    let is : old ≡ c.args.self.now = c.behind-plain.view_is ∙ (c.deref_mut.ensures.value ∙ (c.take-plain.ensures.ports ∙ c.self.view_is)) in
    let after : c.sweep-swept.new.self ≡ c.put.new.self.value.node = sym (ap (λ (p : CallerPorts). p.node) c.put.ensures.1) in
    subst (λ (p : CallerPorts). CallerSweepTransition c.args.horizon p.node c.put.new.self.value.node c.sweep-swept.result) is
    (subst (λ (node : NodeValue). CallerSweepTransition c.args.horizon old.node node c.sweep-swept.result) after
    (swept old.node c.sweep-swept.new.self c.args.horizon c.sweep-swept.result done.after done.answer done.refused done.left))

pub invariant_of-behind-plain : goal.invariant_of-behind-plain
invariant_of-behind-plain g c =
    let inside = c.behind-plain.inside in
    let old : CallerPorts = record { database = inside.database; cushion = inside.cushion; node = inside.node; budget = inside.budget } in
    let done = c.sweep-swept.ensures in
    swept_ports old c.sweep-swept.new.self c.args.horizon c.sweep-swept.result c.behind-plain.invariant
    (swept old.node c.sweep-swept.new.self c.args.horizon c.sweep-swept.result done.after done.answer done.refused done.left)
