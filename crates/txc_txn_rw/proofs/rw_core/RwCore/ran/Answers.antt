use Rattle.std.proofs.Common.{◌≡◌, Some, None, Err, refl, ap, sym, subst, ◌∙◌}
use Rattle.txc_tags.specs.Keys.{Call}
use Rattle.txc_call.specs.CallMachine.{InCall, IsCalling}
use Rattle.txc_call.specs.CallSteps.{due_ask, objects_after, with_resumed, FunctionExists}
use Rattle.txc_txn_ports.specs.declared.turn.Turn.TheVariants.{Ended}
use Rattle.txc_txn_rw.specs.ByHand.{answers_by_hand, HasRwAsked, RwObjectsLeft}
use Rattle.txc_txn_rw.specs.RwCore.{query_of_reading, RwHolds, RwValue}
use Rattle.txc_txn_rw.specs.Transitions.{standing_of}
use Rattle.txc_txn_rw.proofs.Holding.{given_up, holds_moved}
use Rattle.txc_txn_rw.proofs.rw_core.RwCore.ran.Goals as goal

pub ran-requires-clause-common : goal.ran-requires-clause-common
ran-requires-clause-common c = (1, subst (λ (w : RwValue). InCall 1 w.call) (sym c.self.view_is) c.requires.asks.7.at_one)

pub returns-in-Ok-clause-fits : goal.returns-in-Ok-clause-fits
returns-in-Ok-clause-fits c = λ next objects after need within is asked there left fits.
    let was : RwValue = record { base = c.self.inside.base; queried = c.self.inside.queried.items; answers = c.self.inside.answers.items; changes = c.self.inside.changes.items; call = c.self.inside.machine; reading = query_of_reading c.self.inside.reading } in
    let same : c.args.self.now ≡ was = sym c.self.view_is in
    let kept = c.in-Ok.ensures.keeps next objects need (subst (λ (w : RwValue). w.call.need ≡ Some need) same is) within (subst (λ (w : RwValue). IsCalling next objects w.call) same fits.call)
    (subst (λ (w : RwValue). due_ask next objects w.call.frames need ≡ Some c.args.ask) same asked) (subst (λ (w : RwValue). FunctionExists (with_resumed objects w.call.frames need) c.args.ask) same there) in
    let left' = subst (λ (w : RwValue). RwObjectsLeft (objects_after objects w.call.frames need c.args.ask) c.asks_by_hand.result after) same left in
    let inside = kept.within 1 (subst (λ (w : RwValue). InCall 1 w.call) same fits.at_one) in
    c.asks_by_hand.ensures.fits next (objects_after objects was.call.frames need c.args.ask) after left' kept.fits inside

pub returns-in-Ok-clause-holds : goal.returns-in-Ok-clause-holds
returns-in-Ok-clause-holds c = λ next objects after L need within is asked there left fits h.
    let was : RwValue = record { base = c.self.inside.base; queried = c.self.inside.queried.items; answers = c.self.inside.answers.items; changes = c.self.inside.changes.items; call = c.self.inside.machine; reading = query_of_reading c.self.inside.reading } in
    let same : c.args.self.now ≡ was = sym c.self.view_is in
    let kept = c.in-Ok.ensures.keeps next objects need (subst (λ (w : RwValue). w.call.need ≡ Some need) same is) within (subst (λ (w : RwValue). IsCalling next objects w.call) same fits.call)
    (subst (λ (w : RwValue). due_ask next objects w.call.frames need ≡ Some c.args.ask) same asked) (subst (λ (w : RwValue). FunctionExists (with_resumed objects w.call.frames need) c.args.ask) same there) in
    let left' = subst (λ (w : RwValue). RwObjectsLeft (objects_after objects w.call.frames need c.args.ask) c.asks_by_hand.result after) same left in
    let inside = kept.within 1 (subst (λ (w : RwValue). InCall 1 w.call) same fits.at_one) in
    let ran = objects_after objects was.call.frames need c.args.ask in
    c.asks_by_hand.ensures.holds next ran after L left' kept.fits inside
    (holds_moved next L objects was (subst (λ (w : RwValue). RwHolds next L objects w) same h) ran c.ran.new.self was.reading (λ M hold. kept.holds M hold))

pub returns-in-Ok-clause-asked : goal.returns-in-Ok-clause-asked
returns-in-Ok-clause-asked c =
    let was : RwValue = record { base = c.self.inside.base; queried = c.self.inside.queried.items; answers = c.self.inside.answers.items; changes = c.self.inside.changes.items; call = c.self.inside.machine; reading = query_of_reading c.self.inside.reading } in
    let same : c.args.self.now ≡ was = sym c.self.view_is in
    let q = c.requires.asks in
    let calling = (c.in-Ok.ensures.keeps q.0 q.1 q.2 (subst (λ (w : RwValue). w.call.need ≡ Some q.2) same q.4) q.3 (subst (λ (w : RwValue). IsCalling q.0 q.1 w.call) same q.7.call)
    (subst (λ (w : RwValue). due_ask q.0 q.1 w.call.frames q.2 ≡ Some c.args.ask) same q.5) (subst (λ (w : RwValue). FunctionExists (with_resumed q.1 w.call.frames q.2) c.args.ask) same q.6)).fits in
    let all : HasRwAsked c.args.limits was c.args.ask c.asks_by_hand.new.self c.asks_by_hand.result = record {
      turn_fits = c.asks_by_hand.ensures.turn;
      transition = λ need is objects. (
        standing_of c.ran.new.self (objects_after objects was.call.frames need c.args.ask),
        c.in-Ok.ensures.answer objects need is,
        c.asks_by_hand.ensures.transition (objects_after objects was.call.frames need c.args.ask),
      );
      answers = subst (λ (k : Call). c.asks_by_hand.new.self.answers ≡ answers_by_hand was.answers k c.asks_by_hand.result) c.in-Ok.ensures.same_top
          (c.asks_by_hand.ensures.answers q.0 (objects_after q.1 was.call.frames q.2 c.args.ask) calling);
      goes_on = λ unended. c.asks_by_hand.ensures.goes_on unended ∙ c.in-Ok.ensures.same_top;
      same = c.asks_by_hand.ensures.same;
    } in
    subst (λ (w : RwValue). HasRwAsked c.args.limits w c.args.ask c.asks_by_hand.new.self c.asks_by_hand.result) c.self.view_is all

pub returns-in-Err-clause-holds : goal.returns-in-Err-clause-holds
returns-in-Err-clause-holds c = λ next objects after L need within is asked there left fits h.
    let was : RwValue = record { base = c.self.inside.base; queried = c.self.inside.queried.items; answers = c.self.inside.answers.items; changes = c.self.inside.changes.items; call = c.self.inside.machine; reading = query_of_reading c.self.inside.reading } in
    given_up next L objects was (subst (λ (w : RwValue). RwHolds next L objects w) (sym c.self.view_is) h) after c.ran.new.self was.reading
    c.in-Err.ensures.rest.1 c.in-Err.ensures.rest.0

pub returns-in-Err-clause-asked : goal.returns-in-Err-clause-asked
returns-in-Err-clause-asked c =
    let was : RwValue = record { base = c.self.inside.base; queried = c.self.inside.queried.items; answers = c.self.inside.answers.items; changes = c.self.inside.changes.items; call = c.self.inside.machine; reading = query_of_reading c.self.inside.reading } in
    let same : c.args.self.now ≡ was = sym c.self.view_is in
    let new : RwValue = record was { call = c.ran.new.self } in
    let all : HasRwAsked c.args.limits was c.args.ask new (Some (Ended (Err c.into.result))) = record {
      turn_fits = (c.in-Err.ensures.rest.0, subst (λ (w : RwValue). w.reading ≡ None) same c.requires.none);
      transition = λ need is objects. (Err c.in-Err.error, c.in-Err.ensures.answer objects need is, ap (λ e. Some (Ended (Err e))) c.into.ensures);
      answers = refl;
      goes_on = λ unended. absurd unended;
      same = refl;
    } in
    subst (λ (w : RwValue). HasRwAsked c.args.limits w c.args.ask new (Some (Ended (Err c.into.result)))) c.self.view_is all
