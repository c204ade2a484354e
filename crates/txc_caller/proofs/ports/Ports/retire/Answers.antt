use Rattle.std.proofs.Common.{◌≡◌, ◌∙◌, ap, subst, sym}
use Rattle.txc_db.specs.DatabaseValue.{DatabaseValue}
use Rattle.txc_caller.specs.Ports.{CallerPorts, HasGrownDatabase}
use Rattle.txc_caller.proofs.Growing.{each_go_grown}
use Rattle.txc_caller.proofs.ports.Ports.retire.Goals as goal

pub returns-in-Ok-clause-grown : goal.returns-in-Ok-clause-grown
returns-in-Ok-clause-grown g c =
    let one = c.behind-plain.inside in
    let two = c.behind-plain-in-Ok.inside in
    let old : CallerPorts = record { database = one.database; cushion = one.cushion; node = one.node; budget = one.budget } in
    let mid : CallerPorts = record { database = two.database; cushion = two.cushion; node = two.node; budget = two.budget } in
    let is : old ≡ c.args.self.now = c.behind-plain.view_is ∙ (c.deref_mut.ensures.value ∙ (c.take-plain.ensures.ports ∙ c.self.view_is)) in
    let same : mid.database ≡ c.args.self.now.database =
    ap (λ (p : CallerPorts). p.database) (c.behind-plain-in-Ok.view_is ∙ c.deref_mut-in-Ok.ensures.value) ∙ ap (λ (p : CallerPorts). p.database) is in
    let after : c.let_each_go.new.database ≡ c.put.new.self.value.database = sym (ap (λ (p : CallerPorts). p.database) c.put.ensures.1) in
    subst (λ (d : DatabaseValue). HasGrownDatabase d c.put.new.self.value.database) same
    (subst (λ (d : DatabaseValue). HasGrownDatabase mid.database d) after
    (each_go_grown c.deref.result.now mid.database c.let_each_go.new.database c.let_each_go.ensures.unpinned))
