use Rattle.std.proofs.Common.{◌≡◌, Some, None, Err, refl, ap, subst, ◌∙◌}
use Rattle.txc_tags.specs.Keys.{Call}
use Rattle.txc_txn_ports.specs.declared.turn.Turn.TheVariants.{Ended}
use Rattle.txc_txn.specs.ByHand.{standing_of, recorded_by_hand}
use Rattle.txc_txn.specs.TxnCore.{value_of}
use Rattle.txc_call.specs.CallSteps.{objects_after}
use Rattle.txc_txn.proofs.Cores.{common, core_went_on, holds_went_on}
use Rattle.txc_txn.proofs.txn_core.TxnCore.ran.Goals as goal

pub ran-requires-clause-common : goal.ran-requires-clause-common
ran-requires-clause-common c =
    let q = c.requires.asks in
    let three = common q.0 q.1 (value_of c.args.self.now) None (λ i d below. tt) q.2 q.4 q.7 in
    (three.0, three.2)

pub asks-requires-clause-fits : goal.asks-requires-clause-fits
asks-requires-clause-fits c =
    let q = c.requires.asks in
    let kept = c.in-Ok.ensures.keeps q.0 q.1 q.2 q.4 q.3 q.7.call q.5 q.6 in
    let after = objects_after q.1 c.args.self.now.machine.frames q.2 c.args.ask in (
      q.0,
      after,
      core_went_on q.0 q.1 (value_of c.args.self.now) None (λ i d below. tt) after c.ran.new.self
          (λ t here all. kept.within t all) (λ present. refl) (λ none unreached. kept.no_reach unreached) c.requires.none q.2 q.4 kept.fits q.7,
    )

pub returns-in-Ok-clause-fits : goal.returns-in-Ok-clause-fits
returns-in-Ok-clause-fits c = λ next objects after need within is asked there left h.
    let kept = c.in-Ok.ensures.keeps next objects need is within h.call asked there in
    let ran = objects_after objects c.args.self.now.machine.frames need c.args.ask in
    c.asks.ensures.fits next ran after left
    (core_went_on next objects (value_of c.args.self.now) None (λ i d below. tt) ran c.ran.new.self
    (λ t here all. kept.within t all) (λ present. refl) (λ none unreached. kept.no_reach unreached) c.requires.none need is kept.fits h)

pub returns-in-Ok-clause-holds : goal.returns-in-Ok-clause-holds
returns-in-Ok-clause-holds c = λ next objects after L need within is asked there left h holds.
    let kept = c.in-Ok.ensures.keeps next objects need is within h.call asked there in
    let ran = objects_after objects c.args.self.now.machine.frames need c.args.ask in
    c.asks.ensures.holds next ran after L left
    (core_went_on next objects (value_of c.args.self.now) None (λ i d below. tt) ran c.ran.new.self
    (λ t here all. kept.within t all) (λ present. refl) (λ none unreached. kept.no_reach unreached) c.requires.none need is kept.fits h)
    (holds_went_on next objects (value_of c.args.self.now) None (λ i d below. tt) ran c.ran.new.self
    (λ t here all. kept.within t all) (λ present. refl) (λ none unreached. kept.no_reach unreached) L (kept.holds L holds.valid.right) holds)

pub returns-in-Ok-clause-asked : goal.returns-in-Ok-clause-asked
returns-in-Ok-clause-asked c = record {
  turn_fits = c.asks.ensures.turn;
  transition = λ need is objects. (
    standing_of c.ran.new.self (objects_after objects c.args.self.now.machine.frames need c.args.ask),
    c.in-Ok.ensures.answer objects need is,
    c.asks.ensures.transition (objects_after objects c.args.self.now.machine.frames need c.args.ask),
  );
  adds = c.asks.ensures.no_add;
  left = c.asks.ensures.left;
  recorded = subst (λ (k : Call). c.asks.new.self.recorded.items ≡ recorded_by_hand c.args.self.now.recorded.items c.asks.result (Some k)) c.in-Ok.ensures.same_top c.asks.ensures.recorded;
  goes_on = λ unended. c.asks.ensures.goes_on unended ∙ ap Some c.in-Ok.ensures.same_top;
  same = c.asks.ensures.same;
}

pub returns-in-Err-clause-asked : goal.returns-in-Err-clause-asked
returns-in-Err-clause-asked c = record {
  turn_fits = (c.in-Err.ensures.rest.0, c.requires.none);
  transition = λ need is objects. (Err c.in-Err.error, c.in-Err.ensures.answer objects need is, ap (λ e. Some (Ended (Err e))) c.into.ensures);
  adds = tt;
  left = rw c.requires.none refl;
  recorded = refl;
  goes_on = λ unended. absurd unended;
  same = refl;
}
