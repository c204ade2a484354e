use Rattle.std.proofs.Common.{ap, inl, sym, subst, ◌∙◌}
use Rattle.txc_txn.specs.TxnCore.{value_of, IsIdle}
use Rattle.txc_caller.specs.Ports.{CallerPorts, HasGrownDatabase}
use Rattle.txc_caller.specs.CallerTxn.{CallerValue, IsBegunReading}
use Rattle.txc_caller.proofs.Begun.{begun_reading}
use Rattle.txc_caller.proofs.Letting.{grown_same}
use Rattle.txc_caller.proofs.caller.Caller.begin.Goals as goal

pub new-requires : goal.new-requires
new-requires g c = record {
  fits = c.in_ok-core.ensures.begun.fits;
  holds = c.in_ok-core.ensures.begun.holds;
  idle = c.in_ok-core.ensures.begun.idle;
  nodes = c.in_ok-core.ensures.begun.nodes;
}

pub invariant_of-result : goal.invariant_of-result
invariant_of-result g c = record { lent = c.new.ensures.lent; rests = inl (subst IsIdle (sym c.new.ensures.core) c.in_ok-core.ensures.begun.idle) }

pub returns-clause-begun : goal.returns-clause-begun
returns-clause-begun g c =
    let old : CallerValue = record { ports = c.self.inside.ports; renew_after = c.self.inside.renew_after } in
    let new : CallerValue = record { ports = c.begin.new.self; renew_after = c.self.inside.renew_after } in
    subst (λ (v : CallerValue). IsBegunReading g.A.App.next c.args.bounds v new c.new.result) c.self.view_is
    (begun_reading g.A.App.next c.args.bounds old c.begin.new.self c.new.result (value_of c.in_ok-core.core) c.new.ensures.core c.new.ensures.lent
    c.in_ok-core.ensures.begun c.in_ok-core.ensures.users c.begin.ensures.same)

pub returns-clause-caller : goal.returns-clause-caller
returns-clause-caller g c = record {
  row = ap (λ (p : CallerPorts). p.database.events) c.begin.ensures.same ∙ ap (λ (v : CallerValue). v.ports.database.events) c.self.view_is;
  renew_after = ap (λ (v : CallerValue). v.renew_after) c.self.view_is;
}

pub returns-clause-grown : goal.returns-clause-grown
returns-clause-grown g c =
    subst (λ (v : CallerValue). HasGrownDatabase v.ports.database c.begin.new.self.database) c.self.view_is
    (grown_same c.self.inside.ports.database c.begin.new.self.database (ap (λ (p : CallerPorts). p.database) c.begin.ensures.same))

pub returns-in_err-core-clause-caller : goal.returns-in_err-core-clause-caller
returns-in_err-core-clause-caller g c = record {
  row = ap (λ (p : CallerPorts). p.database.events) c.begin.ensures.same ∙ ap (λ (v : CallerValue). v.ports.database.events) c.self.view_is;
  renew_after = ap (λ (v : CallerValue). v.renew_after) c.self.view_is;
}

pub returns-in_err-core-clause-grown : goal.returns-in_err-core-clause-grown
returns-in_err-core-clause-grown g c =
    subst (λ (v : CallerValue). HasGrownDatabase v.ports.database c.begin.new.self.database) c.self.view_is
    (grown_same c.self.inside.ports.database c.begin.new.self.database (ap (λ (p : CallerPorts). p.database) c.begin.ensures.same))
