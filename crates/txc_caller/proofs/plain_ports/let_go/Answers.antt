use Rattle.std.proofs.Common.{ℕ, Option, Some, refl, sym, subst}
use Rattle.txc_caller.specs.Ports.{IsLetGo}
use Rattle.txc_caller.proofs.Letting.{grown_self, let_go_events, let_go_grown, let_go_history, let_go_so}
use Rattle.txc_caller.proofs.plain_ports.let_go.Goals as goal

pub returns-in-Some-clause-unpinned : goal.returns-in-Some-clause-unpinned
returns-in-Some-clause-unpinned c =
    subst (λ (u : Option ℕ). IsLetGo u c.args.database.now c.unpin-unpinned.new.self) (sym c.in-Some.is)
    (let_go_so c.in-Some.stamp c.args.database.now c.unpin-unpinned.new.self c.unpin-unpinned.result c.unpin-unpinned.ensures.after c.unpin-unpinned.ensures.unchanged c.unpin-unpinned.ensures.refused)

pub returns-in-Some-clause-history : goal.returns-in-Some-clause-history
returns-in-Some-clause-history c =
    let_go_history (Some c.in-Some.stamp) c.args.database.now c.unpin-unpinned.new.self
    (let_go_so c.in-Some.stamp c.args.database.now c.unpin-unpinned.new.self c.unpin-unpinned.result c.unpin-unpinned.ensures.after c.unpin-unpinned.ensures.unchanged c.unpin-unpinned.ensures.refused)

pub returns-in-Some-clause-events : goal.returns-in-Some-clause-events
returns-in-Some-clause-events c =
    let_go_events (Some c.in-Some.stamp) c.args.database.now c.unpin-unpinned.new.self
    (let_go_so c.in-Some.stamp c.args.database.now c.unpin-unpinned.new.self c.unpin-unpinned.result c.unpin-unpinned.ensures.after c.unpin-unpinned.ensures.unchanged c.unpin-unpinned.ensures.refused)

pub returns-in-None-clause-unpinned : goal.returns-in-None-clause-unpinned
returns-in-None-clause-unpinned c = subst (λ (u : Option ℕ). IsLetGo u c.args.database.now c.args.database.now) (sym c.in-None.is) refl

pub returns-in-Some-clause-grown : goal.returns-in-Some-clause-grown
returns-in-Some-clause-grown c =
    let_go_grown (Some c.in-Some.stamp) c.args.database.now c.unpin-unpinned.new.self
    (let_go_so c.in-Some.stamp c.args.database.now c.unpin-unpinned.new.self c.unpin-unpinned.result c.unpin-unpinned.ensures.after c.unpin-unpinned.ensures.unchanged c.unpin-unpinned.ensures.refused)

pub returns-in-None-clause-grown : goal.returns-in-None-clause-grown
returns-in-None-clause-grown c = grown_self c.args.database.now
