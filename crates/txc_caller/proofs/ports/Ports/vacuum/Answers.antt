use Rattle.std.proofs.Common.{◌≡◌, ◌∙◌, ap, subst, sym}
use Rattle.txc_db.specs.DatabaseValue.{DatabaseValue}
use Rattle.txc_caller.specs.Ports.{CallerPorts, HasGrownDatabase}
use Rattle.txc_caller.proofs.Growing.{vacuum_grown}
use Rattle.txc_caller.proofs.Letting.{grown_same}
use Rattle.txc_caller.proofs.ports.Ports.vacuum.Goals as goal

-- without memory for an event the database stays
pub returns-then-not-take_events-clause-grown : goal.returns-then-not-take_events-clause-grown
returns-then-not-take_events-clause-grown g c =
    grown_same c.args.self.now.database c.take_events.new.self.database (ap (λ (p : CallerPorts). p.database) c.take_events.ensures.same)

pub returns-clause-grown : goal.returns-clause-grown
returns-clause-grown g c =
    let inside = c.behind-plain.inside in
    let old : CallerPorts = record { database = inside.database; cushion = inside.cushion; node = inside.node; budget = inside.budget } in
    let is : old ≡ c.take_events.new.self = c.behind-plain.view_is ∙ (c.deref_mut.ensures.value ∙ (c.take-plain.ensures.ports ∙ c.self.view_is)) in
    let same : old.database ≡ c.args.self.now.database = ap (λ (p : CallerPorts). p.database) (is ∙ c.take_events.ensures.same) in
    let after : c.vacuum-horizon.new.self ≡ c.put.new.self.value.database = sym (ap (λ (p : CallerPorts). p.database) c.put.ensures.1) in
    subst (λ (d : DatabaseValue). HasGrownDatabase d c.put.new.self.value.database) same
    (subst (λ (d : DatabaseValue). HasGrownDatabase old.database d) after
    (vacuum_grown old.database c.vacuum-horizon.new.self c.vacuum-horizon.result c.vacuum-horizon.ensures.after c.vacuum-horizon.ensures.unchanged))
