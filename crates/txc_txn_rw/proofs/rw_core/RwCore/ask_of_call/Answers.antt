use Rattle.std.proofs.Common.{◌≡◌, Some, sym, subst, ap, ◌∙◌}
use Rattle.txc_txn_rw.specs.RwCore.{query_of_reading, RwHolds, RwValue}
use Rattle.txc_txn_rw.proofs.Holding.{given_up, holds_moved}
use Rattle.txc_txn_rw.proofs.rw_core.RwCore.ask_of_call.Goals as goal

pub returns-in_default-clause-holds : goal.returns-in_default-clause-holds
returns-in_default-clause-holds g c = λ L h.
    let was : RwValue = record { base = c.self.inside.base; queried = c.self.inside.queried.items; answers = c.self.inside.answers.items; changes = c.self.inside.changes.items; call = c.self.inside.machine; reading = query_of_reading c.self.inside.reading } in
    let same : c.args.self.now ≡ was = sym (c.self.view_is ∙ c.in_default.ensures.unchanged) in
    given_up g.A.App.next L c.args.registry.now was (subst (λ (w : RwValue). RwHolds g.A.App.next L c.args.registry.now w) same h)
    c.cancel.new.registry c.cancel.new.self was.reading c.cancel.ensures.rest.0 c.cancel.ensures.need

pub returns-clause-holds : goal.returns-clause-holds
returns-clause-holds g c = λ L h.
    subst (λ (w : RwValue). RwHolds g.A.App.next L c.args.registry.now w) (sym c.in-Ok.ensures.after)
    (holds_moved g.A.App.next L c.args.registry.now c.args.self.now h c.args.registry.now c.args.self.now.call (Some c.args.query) (λ M hold. hold))

pub returns-clause-turn : goal.returns-clause-turn
returns-clause-turn g c = (
  ap (λ (w : RwValue). w.reading) c.in-Ok.ensures.after,
  ap (λ (w : RwValue). w.call.need) c.in-Ok.ensures.after ∙ c.requires.need,
)
