use Rattle.std.proofs.Common.{◌≡◌, ◌∙◌, ap, subst, sym}
use Rattle.txc_db.specs.DatabaseValue.{DatabaseValue}
use Rattle.txc_caller.specs.Ports.{CallerPorts, HasGrownDatabase}
use Rattle.txc_caller.proofs.Growing.{commit_grown}
use Rattle.txc_caller.proofs.Letting.{grown_same, grown_then}
use Rattle.txc_caller.proofs.ports.Ports.commit.Goals as goal

pub returns-in_err-stamp-clause-grown : goal.returns-in_err-stamp-clause-grown
returns-in_err-stamp-clause-grown g c =
    let inside = c.behind-plain.inside in
    let old : CallerPorts = record { database = inside.database; cushion = inside.cushion; node = inside.node; budget = inside.budget } in
    let is : old ≡ c.args.self.now = c.behind-plain.view_is ∙ (c.deref_mut.ensures.value ∙ (c.take-plain.ensures.ports ∙ c.self.view_is)) in
    let after : c.commit-committed.new.self ≡ c.put.new.self.value.database = sym (ap (λ (p : CallerPorts). p.database) c.put.ensures.1) in
    subst (λ (p : CallerPorts). HasGrownDatabase p.database c.put.new.self.value.database) is
    (subst (λ (d : DatabaseValue). HasGrownDatabase old.database d) after
    (commit_grown old.database c.commit-committed.new.self c.args.changes.now c.commit-committed.result c.commit-committed.ensures.after c.commit-committed.ensures.unchanged))

pub returns-clause-grown : goal.returns-clause-grown
returns-clause-grown g c =
    let inside = c.behind-plain.inside in
    let old : CallerPorts = record { database = inside.database; cushion = inside.cushion; node = inside.node; budget = inside.budget } in
    let is : old ≡ c.args.self.now = c.behind-plain.view_is ∙ (c.deref_mut.ensures.value ∙ (c.take-plain.ensures.ports ∙ c.self.view_is)) in
    let mid = c.put.new.self.value in
    let after : c.commit-committed.new.self ≡ mid.database = sym (ap (λ (p : CallerPorts). p.database) c.put.ensures.1) in
    let one = subst (λ (p : CallerPorts). HasGrownDatabase p.database mid.database) is
    (subst (λ (d : DatabaseValue). HasGrownDatabase old.database d) after
    (commit_grown old.database c.commit-committed.new.self c.args.changes.now c.commit-committed.result c.commit-committed.ensures.after c.commit-committed.ensures.unchanged)) in
    grown_then c.args.self.now.database mid.database c.take_events-has_all.new.self.database one
    (grown_same mid.database c.take_events-has_all.new.self.database (ap (λ (p : CallerPorts). p.database) c.take_events-has_all.ensures.same))
