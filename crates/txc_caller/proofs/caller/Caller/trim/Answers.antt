use Rattle.std.proofs.Common.{ap, subst, ◌∙◌}
use Rattle.txc_caller.specs.Ports.{CallerPorts, HasGrownDatabase}
use Rattle.txc_caller.specs.CallerTxn.{CallerValue}
use Rattle.txc_caller.proofs.Letting.{grown_same}
use Rattle.txc_caller.proofs.caller.Caller.trim.Goals as goal

pub returns-clause-caller : goal.returns-clause-caller
returns-clause-caller g c = record {
  row = ap (λ (p : CallerPorts). p.database.events) c.trim.ensures.same ∙ ap (λ (v : CallerValue). v.ports.database.events) c.self.view_is;
  renew_after = ap (λ (v : CallerValue). v.renew_after) c.self.view_is;
}

pub returns-clause-grown : goal.returns-clause-grown
returns-clause-grown g c =
    subst (λ (v : CallerValue). HasGrownDatabase v.ports.database c.trim.new.self.database) c.self.view_is
    (grown_same c.self.inside.ports.database c.trim.new.self.database (ap (λ (p : CallerPorts). p.database) c.trim.ensures.same))
