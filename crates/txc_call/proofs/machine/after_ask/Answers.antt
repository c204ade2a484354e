use Rattle.std.proofs.Common.{ℕ, Some, inr, subst}
use Rattle.txc_call.specs.declared.need.Need.{Need}
use Rattle.txc_call.specs.Frames.{begun_frame}
use Rattle.txc_call.specs.Needs.{NeedFits}
use Rattle.txc_call.specs.CallSteps.{with_ask, AfterOneAsk}
use Rattle.txc_call.specs.MachineTurn.{turn_of, with_begun}
use Rattle.txc_call.proofs.Transitions.{given_place}
use Rattle.txc_call.proofs.OneAsk.{ran_resume}
use Rattle.txc_call.proofs.machine.after_ask.Goals as goal

pub settle-requires-in-Resume-clause-some : goal.settle-requires-in-Resume-clause-some
settle-requires-in-Resume-clause-some c =
    let fits = subst (λ (n : Need). NeedFits c.requires.fits.0 c.requires.fits.1 c.args.frames.now.top (Some n) c.args.frames.now.stack) c.in-Resume.is c.requires.fits.3 in
    (given_place c.requires.fits.0.limits.asks c.args.frames.now.stack c.give.new.self c.in-Resume.held.reach c.in-Resume.held.tags fits.1 c.in-Ok.ensures.after fits.0.1.few).1

pub returns-in_ok-enter-in-Begin-clause-answer : goal.returns-in_ok-enter-in-Begin-clause-answer
returns-in_ok-enter-in-Begin-clause-answer c = λ objects.
    let k = c.in-Begin.key in
    rw c.in-Begin.is (inr (
    subst (λ (n : ℕ). AfterOneAsk c.args.limits c.args.frames.now.stack n (begun_frame k) c.args.ask (with_begun objects k)
    (turn_of c.settle.result c.settle.new.frames.stack c.settle.new.frames.asked (with_ask (with_begun objects k) k.function c.args.ask))) c.enter.ensures.same_count
    (c.settle.ensures.answer (begun_frame k) c.args.frames.now.stack (with_begun objects k) c.in_ok-enter-in-Begin.ensures.after)))

pub returns-in-Ok-clause-answer : goal.returns-in-Ok-clause-answer
returns-in-Ok-clause-answer c = λ objects.
    let fits = subst (λ (n : Need). NeedFits c.requires.fits.0 c.requires.fits.1 c.args.frames.now.top (Some n) c.args.frames.now.stack) c.in-Resume.is c.requires.fits.3 in
    rw c.in-Resume.is (ran_resume c.args.limits c.args.frames.now.stack c.give.new.self c.args.frames.now.asked c.in-Resume.held c.args.ask objects c.settle-in-Resume.result c.settle-in-Resume.new.frames.stack c.settle-in-Resume.new.frames.asked
    fits.1 c.in-Ok.ensures.after (λ frame outer os e. c.settle-in-Resume.ensures.answer frame outer os e))
