use Rattle.std.proofs.Common.{◌≡◌, ◌∙◌, ap, subst, sym}
use Rattle.txc_db.specs.DatabaseValue.{DatabaseValue}
use Rattle.txc_caller.specs.Ports.{CallerPorts, HasGrownDatabase}
use Rattle.txc_caller.proofs.Growing.{hold_grown}
use Rattle.txc_caller.proofs.ports.Ports.hold.Goals as goal

pub returns-clause-grown : goal.returns-clause-grown
returns-clause-grown g c =
    let inside = c.behind-plain.inside in
    let old : CallerPorts = record { database = inside.database; cushion = inside.cushion; node = inside.node; budget = inside.budget } in
    let is : old ≡ c.args.self.now = c.behind-plain.view_is ∙ (c.deref_mut.ensures.value ∙ (c.take-plain.ensures.ports ∙ c.self.view_is)) in
    let after : c.hold-held.new.self ≡ c.put.new.self.value.database = sym (ap (λ (p : CallerPorts). p.database) c.put.ensures.1) in
    subst (λ (p : CallerPorts). HasGrownDatabase p.database c.put.new.self.value.database) is
    (subst (λ (d : DatabaseValue). HasGrownDatabase old.database d) after
    (hold_grown old.database c.hold-held.new.self c.hold-held.result c.hold-held.ensures.after c.hold-held.ensures.unchanged))
