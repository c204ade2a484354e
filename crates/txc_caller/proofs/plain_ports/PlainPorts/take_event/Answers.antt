use Rattle.std.proofs.Common.{◌∙◌, ap, sym}
use Rattle.txc_db.specs.FrontsAndFeeds.{FrontValue}
use Rattle.txc_caller.specs.Budgets.{node_bytes}
use Rattle.txc_caller.specs.Ports.{CallerPorts}
use Rattle.txc_caller.proofs.Asked.{ports_with_node}
use Rattle.txc_caller.proofs.Budgets.{within_same}
use Rattle.txc_caller.proofs.plain_ports.PlainPorts.take_event.Goals as goal

pub take_event-requires-clause-row : goal.take_event-requires-clause-row
take_event-requires-clause-row g c = ap (λ (f : FrontValue). f.events) c.requires ∙ sym (c.self.invariant.node ∙ ap (λ (p : CallerPorts). p.database.events) c.self.view_is)

pub invariant_of-self : goal.invariant_of-self
invariant_of-self g c =
    let p : CallerPorts = record { database = c.self.inside.database; cushion = c.self.inside.cushion; node = c.self.inside.node; budget = c.self.inside.budget } in
    ports_with_node p c.take_event.new.node c.self.invariant c.take_event.ensures.keeps
    (within_same p.budget (node_bytes p.node) (node_bytes c.take_event.new.node) (c.take_event.ensures.bytes c.self.invariant.unstored) c.self.invariant.within)
