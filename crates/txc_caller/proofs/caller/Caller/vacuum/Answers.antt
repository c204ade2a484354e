use Rattle.std.proofs.Common.{ap, subst, ◌∙◌}
use Rattle.txc_caller.specs.Ports.{HasGrownDatabase}
use Rattle.txc_caller.specs.CallerTxn.{CallerValue}
use Rattle.txc_caller.proofs.caller.Caller.vacuum.Goals as goal

pub returns-clause-caller : goal.returns-clause-caller
returns-clause-caller g c = record {
  row = c.vacuum.ensures.grown.events ∙ ap (λ (v : CallerValue). v.ports.database.events) c.self.view_is;
  renew_after = ap (λ (v : CallerValue). v.renew_after) c.self.view_is;
}

pub returns-clause-grown : goal.returns-clause-grown
returns-clause-grown g c = subst (λ (v : CallerValue). HasGrownDatabase v.ports.database c.vacuum.new.self.database) c.self.view_is c.vacuum.ensures.grown
