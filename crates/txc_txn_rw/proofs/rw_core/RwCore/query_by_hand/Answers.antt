use Rattle.std.proofs.Common.{◌≡◌, Some, sym, subst, ap, ◌∙◌}
use Rattle.txc_call_registry.specs.Objects.{Objects}
use Rattle.txc_call.specs.CallMachine.{Calling}
use Rattle.txc_txn_rw.specs.RwCore.{query_of_reading, RwHolds, RwValue}
use Rattle.txc_txn_rw.specs.ByHand.{IsRwByHand}
use Rattle.txc_txn_rw.proofs.ByHand.{asking_fits}
use Rattle.txc_txn_rw.proofs.Holding.{given_up, holds_moved}
use Rattle.txc_txn_rw.proofs.rw_core.RwCore.query_by_hand.Goals as goal

pub returns-in_default-clause-holds : goal.returns-in_default-clause-holds
returns-in_default-clause-holds c = λ next objects after L left h.
    let was : RwValue = record { base = c.self.inside.base; queried = c.self.inside.queried.items; answers = c.self.inside.answers.items; changes = c.self.inside.changes.items; call = c.self.inside.machine; reading = query_of_reading c.self.inside.reading } in
    let same : c.args.self.now ≡ was = sym (c.self.view_is ∙ c.in_default.ensures.unchanged) in
    given_up next L objects was (subst (λ (w : RwValue). RwHolds next L objects w) same h) after c.give_up.new.self was.reading
    (ap (λ (v : Calling). v.frames) c.give_up.ensures.after) (ap (λ (v : Calling). v.need) c.give_up.ensures.after)

pub returns-clause-holds : goal.returns-clause-holds
returns-clause-holds c = λ next objects after L left h.
    subst (λ (os : Objects). RwHolds next L os c.ask.new.self) (sym left)
    (subst (λ (w : RwValue). RwHolds next L objects w) (sym c.in-Ok.ensures.after)
    (holds_moved next L objects c.args.self.now h objects c.args.self.now.call (Some c.args.query) (λ M hold. hold)))

pub returns-clause-fits : goal.returns-clause-fits
returns-clause-fits c = λ next objects after left calling at_one.
    subst (λ (os : Objects). IsRwByHand next os c.ask.new.self) (sym left)
    (subst (λ (w : RwValue). IsRwByHand next objects w) (sym c.in-Ok.ensures.after) (asking_fits next objects c.args.self.now c.args.query c.requires.need calling at_one))

pub returns-clause-turn : goal.returns-clause-turn
returns-clause-turn c = (
  ap (λ (w : RwValue). w.reading) c.in-Ok.ensures.after,
  ap (λ (w : RwValue). w.call.need) c.in-Ok.ensures.after ∙ c.requires.need,
)
