use Rattle.std.proofs.Common.{Option, Err, sym, subst, ◌∙◌, refl}
use Rattle.std.proofs.lemmas.Result.{err_from_is_err_and}
use Rattle.txc_stamp.specs.Interval.{Interval}
use Rattle.txc_call.specs.Reaches.{InReach}
use Rattle.txc_txn_rw.specs.Transitions.{standing_of}
use Rattle.txc_txn_rw.proofs.Counting.{counted_first, counted_next}
use Rattle.txc_txn_rw.proofs.Holding.{nothing_handed_in}
use Rattle.txc_txn_rw.proofs.Running.{led_by_none, not_led}
use Rattle.txc_txn_rw.proofs.uncached.go_on_uncached.Goals as goal

pub reply-requires-clause-common : goal.reply-requires-clause-common
reply-requires-clause-common g c =
    (1, subst (λ (r : Option Interval). InReach 1 r) (sym c.in-Some.ensures.3) tt, c.loop-reply.invariant.at_one)

pub loop-reply-preserved : goal.loop-reply-preserved
loop-reply-preserved g c = record {
  fits = c.reply.ensures.fits;
  some = c.in_ok-reply.ensures.open;
  settled = c.in_ok-reply.ensures.settled;
  at_one = c.in_ok-reply.ensures.within 1 (subst (λ (r : Option Interval). InReach 1 r) (sym c.in-Some.ensures.3) tt) c.loop-reply.invariant.at_one;
  holds = λ L h.
      c.in_ok-reply.ensures.holds L c.in-Some.ensures.0 c.in-Some.ensures.1
      (nothing_handed_in g.A.App.next L c.in-Some.ensures.0 c.in-Some.reply c.in-Some.ensures.2 c.in-Some.ensures.3)
      (c.loop-reply.invariant.holds L h);
  counted =
      counted_next c.args.machine.now c.loop-reply.machine c.reply.new.self c.in-Some.ensures.0 c.in-Some.reply c.in-Some.ensures.1 c.in-Some.ensures.2
      c.in_ok-reply.ensures.counted c.loop-reply.invariant.counted;
  led = λ s.
      led_by_none g.A.App.next s (standing_of c.args.machine.now c.args.registry.now) c.loop-reply.machine c.loop-reply.registry (standing_of c.reply.new.self c.reply.new.registry)
      c.in-Some.ensures.0 c.in-Some.reply c.in-Some.ensures.1 c.in-Some.ensures.2 c.in-Some.ensures.3
      c.in_ok-reply.ensures.answer (c.loop-reply.invariant.led s);
  functions = c.reply.ensures.functions ∙ c.loop-reply.invariant.functions;
  same_top = c.reply.ensures.same_top ∙ c.loop-reply.invariant.same_top;
}

pub loop-reply-init : goal.loop-reply-init
loop-reply-init g c = record {
  fits = c.requires.fits;
  some = c.requires.some;
  settled = c.requires.settled;
  at_one = c.requires.at_one;
  holds = λ L h. h;
  counted = counted_first c.args.machine.now;
  led = λ s. not_led g.A.App.next s (standing_of c.args.machine.now c.args.registry.now);
  functions = refl;
  same_top = refl;
}

pub returns-in_err-reply-clause-led : goal.returns-in_err-reply-clause-led
returns-in_err-reply-clause-led g c = λ s.
    let p = err_from_is_err_and c.from_residual.result c.from_residual.ensures.1 in
    rw (p.1, p.2)
    (led_by_none g.A.App.next s (standing_of c.args.machine.now c.args.registry.now) c.loop-reply.machine c.loop-reply.registry (Err c.in_err-reply.field-0.0)
    c.in-Some.ensures.0 c.in-Some.reply c.in-Some.ensures.1 c.in-Some.ensures.2 c.in-Some.ensures.3
    c.in_err-reply.ensures.answer (c.loop-reply.invariant.led s))
