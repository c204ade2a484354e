use Rattle.std.proofs.Common.{◌≡◌, ◌∙◌, ap, sym}
use Rattle.txc_caller.specs.Ports.{CallerPorts}
use Rattle.txc_caller.proofs.Begun.{begun_core}
use Rattle.txc_caller.proofs.ports.Ports.begin.Goals as goal

pub returns-clause-begun : goal.returns-clause-begun
returns-clause-begun g c =
    let inside = c.behind-plain.inside in
    let old : CallerPorts = record { database = inside.database; cushion = inside.cushion; node = inside.node; budget = inside.budget } in
    let is : old ≡ c.args.self.now = c.behind-plain.view_is ∙ (c.deref_mut.ensures.value ∙ (c.take-plain.ensures.ports ∙ c.self.view_is)) in
    let done = c.begun-core.ensures in
    begun_core c.begun-core.result c.args.renew_after c.args.bounds inside.cushion.events c.put.new.self.value.database.events inside.cushion c.args.self.now.cushion
    (c.behind-plain.invariant.cushion ∙ sym (ap (λ (p : CallerPorts). p.database.events) c.put.ensures.1))
    (ap (λ (p : CallerPorts). p.cushion) is)
    done.fits done.holds done.idle done.row done.bounds done.renew_after done.nodes done.recorded done.members done.taken done.present
