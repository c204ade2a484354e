use Rattle.std.proofs.Common.{[], sym, subst}
use Rattle.txc_call.specs.CallMachine.{Calling, CallHolds}
use Rattle.txc_txn_rw.specs.RwCore.{query_of_reading, RwHolds, RwValue}
use Rattle.txc_txn_rw.specs.Transitions.{standing_of, RwCallTransition}
use Rattle.txc_txn_rw.proofs.Holding.{holds_moved}
use Rattle.txc_txn_rw.proofs.rw_core.RwCore.start.Goals as goal

pub returns-in-Ok-clause-holds : goal.returns-in-Ok-clause-holds
returns-in-Ok-clause-holds g c = λ L h.
    let was : RwValue = record { base = c.self.inside.base; queried = c.self.inside.queried.items; answers = c.self.inside.answers.items; changes = c.self.inside.changes.items; call = c.self.inside.machine; reading = query_of_reading c.self.inside.reading } in
    c.go_on.ensures.holds L
    (holds_moved g.A.App.next L c.args.registry.now was (subst (λ (w : RwValue). RwHolds g.A.App.next L c.args.registry.now w) (sym c.self.view_is) h)
    c.args.registry.now c.start.new.self was.reading
    (λ M hold. subst (λ (w : Calling). CallHolds g.A.App.next M c.args.registry.now w) (sym c.in-Ok.ensures.after) tt))

pub returns-in-Ok-clause-transition : goal.returns-in-Ok-clause-transition
returns-in-Ok-clause-transition g c = λ there s.
    subst (λ (w : Calling). RwCallTransition g.A.App.next s (standing_of w c.args.registry.now) [] c.go_on.new.self c.go_on.new.registry c.go_on.result) c.in-Ok.ensures.after
    (c.go_on.ensures.transition s)
