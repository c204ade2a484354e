use Rattle.std.proofs.Common.{◌≡◌, Some, rules, sym, subst}
use Rattle.txc_call_registry.specs.Objects.{Objects}
use Rattle.txc_call.specs.CallMachine.{InCall, IsCalling}
use Rattle.txc_txn_rw.specs.RwCore.{query_of_reading, RwHolds, RwValue}
use Rattle.txc_txn_rw.specs.ByHand.{RwHandTransition}
use Rattle.txc_txn_rw.specs.Transitions.{standing_of}
use Rattle.txc_txn_rw.proofs.ByHand.{hand_turns, kept_holds}
use Rattle.txc_txn_rw.proofs.Holding.{holds_moved}
use Rattle.txc_txn_ports.specs.declared.turn.Turn.TheVariants.{Ended}
use Rattle.txc_txn_rw.proofs.rw_core.RwCore.asks_by_hand.Goals as goal

pub returns-in-Some-Query-clause-fits : goal.returns-in-Some-Query-clause-fits
returns-in-Some-Query-clause-fits c = λ next objects after left calling at_one.
    let calling' = c.pass_nodes.ensures.fits next objects (subst (λ (w : RwValue). IsCalling next objects w.call) (sym c.self.view_is) calling) in
    let at_one' = c.pass_nodes.ensures.within 1 (subst (λ (w : RwValue). InCall 1 w.call) (sym c.self.view_is) at_one) in
    c.query_by_hand.ensures.fits next objects after left calling' at_one'

pub returns-in-Some-Query-clause-holds : goal.returns-in-Some-Query-clause-holds
returns-in-Some-Query-clause-holds c = λ next objects after L left calling at_one h.
    let was : RwValue = record { base = c.self.inside.base; queried = c.self.inside.queried.items; answers = c.self.inside.answers.items; changes = c.self.inside.changes.items; call = c.self.inside.machine; reading = query_of_reading c.self.inside.reading } in
    c.query_by_hand.ensures.holds next objects after L left
    (holds_moved next L objects was (subst (λ (w : RwValue). RwHolds next L objects w) (sym c.self.view_is) h) objects c.pass_nodes.new.machine was.reading
    (λ M hold. c.pass_nodes.ensures.holds next objects M (subst (λ (w : RwValue). IsCalling next objects w.call) (sym c.self.view_is) calling) hold))

pub returns-in-Some-Query-clause-transition : goal.returns-in-Some-Query-clause-transition
returns-in-Some-Query-clause-transition c = λ objects.
    rw (← c.self.view_is)
    (hand_turns c.self.inside.machine c.pass_nodes.new.machine objects c.query_by_hand.new.self c.pass_nodes.ensures.after c.query_by_hand.result
    (λ runs. search (rules, runs)) (c.query_by_hand.ensures.transition objects))

pub returns-in-Some-Value-clause-holds : goal.returns-in-Some-Value-clause-holds
returns-in-Some-Value-clause-holds c = λ next objects after L left calling at_one h.
    let was : RwValue = record { base = c.self.inside.base; queried = c.self.inside.queried.items; answers = c.self.inside.answers.items; changes = c.self.inside.changes.items; call = c.self.inside.machine; reading = query_of_reading c.self.inside.reading } in
    let calling' = c.pass_nodes.ensures.fits next objects (subst (λ (w : RwValue). IsCalling next objects w.call) (sym c.self.view_is) calling) in
    let at_one' = c.pass_nodes.ensures.within 1 (subst (λ (w : RwValue). InCall 1 w.call) (sym c.self.view_is) at_one) in
    kept_holds next objects after c.keep_value.new.self c.keep_value.ensures.idle (c.keep_value.ensures.fits next objects calling' at_one') L
    (c.keep_value.ensures.holds next objects L calling' at_one'
    (holds_moved next L objects was (subst (λ (w : RwValue). RwHolds next L objects w) (sym c.self.view_is) h) objects c.pass_nodes.new.machine was.reading
    (λ M hold. c.pass_nodes.ensures.holds next objects M (subst (λ (w : RwValue). IsCalling next objects w.call) (sym c.self.view_is) calling) hold)))

pub returns-in-Some-Value-clause-transition : goal.returns-in-Some-Value-clause-transition
returns-in-Some-Value-clause-transition c = λ objects.
    subst (λ (w : RwValue). RwHandTransition (standing_of w.call objects) c.keep_value.new.self (Some (Ended c.keep_value.result))) c.self.view_is
    (hand_turns c.self.inside.machine c.pass_nodes.new.machine objects c.keep_value.new.self c.pass_nodes.ensures.after (Ended c.keep_value.result)
    (λ runs. search (rules, runs)) (c.keep_value.ensures.transition objects))

pub returns-in_default-clause-holds : goal.returns-in_default-clause-holds
returns-in_default-clause-holds c = λ next objects after L left calling at_one h.
    let was : RwValue = record { base = c.self.inside.base; queried = c.self.inside.queried.items; answers = c.self.inside.answers.items; changes = c.self.inside.changes.items; call = c.self.inside.machine; reading = query_of_reading c.self.inside.reading } in
    let is : record was { call = c.pass_nodes.new.machine } ≡ c.in_default.self = search rules in
    subst (λ (w : RwValue). RwHolds next L after w) is
    (subst (λ (os : Objects). RwHolds next L os (record was { call = c.pass_nodes.new.machine })) (sym left)
    (holds_moved next L objects was (subst (λ (w : RwValue). RwHolds next L objects w) (sym c.self.view_is) h) objects c.pass_nodes.new.machine was.reading
    (λ M hold. c.pass_nodes.ensures.holds next objects M (subst (λ (w : RwValue). IsCalling next objects w.call) (sym c.self.view_is) calling) hold)))
