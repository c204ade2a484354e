use Rattle.std.proofs.Common.{inl, Some, refl, ap, sym, subst, ◌∙◌}
use Rattle.txc_tags.specs.Keys.{Call}
use Rattle.txc_txn.specs.Transitions.{StartTransition}
use Rattle.txc_world.specs.declared.actor.Actor.TheVariants.{Reading}
use Rattle.txc_world.specs.declared.reply.Refusal.TheVariants.{MidCall}
use Rattle.txc_world.specs.declared.step.ActorStep.TheVariants.{Start}
use Rattle.txc_world.specs.declared.reply.Reply.TheVariants.{Started}
use Rattle.txc_world.specs.ActorValues.{call_at_turn, reads}
use Rattle.txc_txn.specs.TxnCore.{CoreValue}
use Rattle.txc_txn.proofs.Offered.{adds_none}
use Rattle.txc_world.specs.Parts.{IsPartOf}
use Rattle.txc_world.specs.Ports.{whole_of}
use Rattle.txc_world.proofs.Acted.{none_by_test, reading_mid_call, refused_so}
use Rattle.txc_world.proofs.Losing.{none_left, start_not_lost}
use Rattle.txc_world.proofs.Fairness.{counts_unowned}
use Rattle.txc_world.proofs.PortsLemmas.{keeps_itself}
use Rattle.txc_world.proofs.Turning.{reading_same}
use Rattle.txc_world.proofs.acting.start.Goals as goal

pub returns-then-is_some-clause-acted : goal.returns-then-is_some-clause-acted
returns-then-is_some-clause-acted g c =
    refused_so g.A.App.next (Start c.args.key.now) c.args.whole.now (Reading c.args.current.now) MidCall c.requires.fits
    (reading_mid_call g.A.App.next 0 c.args.whole.now c.args.current.now (Start c.args.key.now) (sym c.is_some.ensures ∙ c.if-is_some.true) (inl (c.args.key.now, refl))).0 tt

pub returns-then-is_some-clause-transition : goal.returns-then-is_some-clause-transition
returns-then-is_some-clause-transition g c = λ next pass.
    (reading_mid_call next pass c.args.whole.now c.args.current.now (Start c.args.key.now) (sym c.is_some.ensures ∙ c.if-is_some.true) (inl (c.args.key.now, refl))).1

pub returns-clause-transition : goal.returns-clause-transition
returns-clause-transition g c = λ next pass.
    let no_call = none_by_test c.args.current.now.call (sym c.is_some.ensures ∙ c.if-is_some.false) in
    rw no_call (
      refl,
      record {
        txn = c.start-turn.new.self;
        turn = c.start-turn.result;
        actor_is = ap (λ (k : Call). reads (record { txn = c.start-turn.new.self; call = Some (call_at_turn k c.start-turn.result) })) c.copy-2.ensures;
        transition = subst (λ (k : Call). StartTransition c.args.current.now.txn.core c.args.current.now.txn.objects k c.start-turn.new.self.core c.start-turn.new.self.objects c.start-turn.result) c.copy.ensures c.start-turn.ensures.transition;
        same = c.start-turn.ensures.same;
      },
    )

pub returns-clause-acted : goal.returns-clause-acted
returns-clause-acted g c =
    let whole = whole_of c.args.whole.now in
    let core = c.args.current.now.txn.core in
    let new = c.start-turn.new.self.core in
    let no_call = none_by_test c.args.current.now.call (sym c.is_some.ensures ∙ c.if-is_some.false) in
    let same = c.start-turn.ensures.same in
    record {
      fits = record {
        seen = subst (IsPartOf whole) (sym (ap (λ (v : CoreValue). v.seen) same)) c.requires.fits.seen;
        nodes = ap (λ (v : CoreValue). v.nodes) same ∙ c.requires.fits.nodes;
        call = record {
          turn = c.start-turn.ensures.turn_fits;
          no_value = c.start-turn.ensures.no_value;
          key = λ asks. c.start-turn.ensures.begins asks ∙ ap Some (c.copy.ensures ∙ sym c.copy-2.ensures);
          adds = adds_none (IsPartOf whole) c.start-turn.result c.start-turn.ensures.no_add;
          not_lost = start_not_lost ⊥ new c.start-turn.new.self.objects c.start-turn.result core c.args.current.now.txn.objects
              c.copy.result c.start-turn.ensures.transition;
          drops = none_left new c.start-turn.ensures.left;
        };
      };
      told =
          reading_same new.bounds core.bounds (Some c.copy-2.result) (Some c.args.key.now) new.recorded core.recorded
          (ap (λ (v : CoreValue). v.bounds) same) (ap Some c.copy-2.ensures) (ap (λ (v : CoreValue). v.recorded) same);
      history = refl;
      due = rw no_call refl;
      explained = tt;
      keeps = keeps_itself c.args.whole.now;
      spare = refl;
      counts = counts_unowned c.args.whole.now core new Started (ap (λ (v : CoreValue). v.taken) same) c.start-turn.ensures.left tt;
    }
