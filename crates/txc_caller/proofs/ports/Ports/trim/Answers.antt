use Rattle.std.proofs.Common.{◌≡◌, ◌∙◌, ap, subst, sym}
use Rattle.txc_shared.specs.Nodes.{NodeValue}
use Rattle.txc_caller.specs.Ports.{CallerPorts, CallerTrimTransition}
use Rattle.txc_caller.proofs.Asked.{trimmed}
use Rattle.txc_caller.proofs.ports.Ports.trim.Goals as goal

pub returns-clause-transition : goal.returns-clause-transition
returns-clause-transition g c =
    let inside = c.behind-plain.inside in
    let old : CallerPorts = record { database = inside.database; cushion = inside.cushion; node = inside.node; budget = inside.budget } in
    let done = c.trim-trimmed.ensures in
    let is : old ≡ c.args.self.now = c.behind-plain.view_is ∙ (c.deref_mut.ensures.value ∙ (c.take-plain.ensures.ports ∙ c.self.view_is)) in
    let after : c.trim-trimmed.new.self ≡ c.put.new.self.value.node = sym (ap (λ (p : CallerPorts). p.node) c.put.ensures.1) in
    subst (λ (p : CallerPorts). CallerTrimTransition c.args.most p.node c.put.new.self.value.node c.trim-trimmed.result) is
    (subst (λ (node : NodeValue). CallerTrimTransition c.args.most old.node node c.trim-trimmed.result) after
    (trimmed old.node c.trim-trimmed.new.self c.args.most c.trim-trimmed.result done.after done.answer done.refused done.left))
