use Rattle.std.proofs.Common.{ℕ, List, Some, subst}
use Rattle.txc_call.specs.declared.frame.Frame.{Frame}
use Rattle.txc_call.specs.declared.need.Need.{Need}
use Rattle.txc_call.specs.Needs.{NeedFits}
use Rattle.txc_call.specs.MachineTurn.{turn_of, AfterAsk}
use Rattle.txc_call.proofs.Transitions.{given_place, held_onward}
use Rattle.txc_call.proofs.pump.run.Goals as goal

pub go_on-requires-in-Resume-clause-some : goal.go_on-requires-in-Resume-clause-some
go_on-requires-in-Resume-clause-some g c =
    let fits = subst (λ (n : Need). NeedFits g.A.App.next c.args.registry.now c.args.frames.now.top (Some n) c.args.frames.now.stack) c.in-Resume.is c.requires.fits in
    (given_place g.A.App.next.limits.asks c.args.frames.now.stack c.resume.new.self.stack c.in-Resume.held.reach c.in-Resume.held.tags fits.1 c.in_ok-ask-in-Resume.ensures.frame fits.0.1.few).1

pub go_on-requires-in-Resume-clause-few : goal.go_on-requires-in-Resume-clause-few
go_on-requires-in-Resume-clause-few g c =
    let fits = subst (λ (n : Need). NeedFits g.A.App.next c.args.registry.now c.args.frames.now.top (Some n) c.args.frames.now.stack) c.in-Resume.is c.requires.fits in
    (given_place g.A.App.next.limits.asks c.args.frames.now.stack c.resume.new.self.stack c.in-Resume.held.reach c.in-Resume.held.tags fits.1 c.in_ok-ask-in-Resume.ensures.frame fits.0.1.few).2

pub returns-in_ok-ask-in-Resume-clause-answer : goal.returns-in_ok-ask-in-Resume-clause-answer
returns-in_ok-ask-in-Resume-clause-answer g c =
    let next = g.A.App.next in
    let turn = turn_of c.go_on-in-Resume.result c.go_on-in-Resume.new.frames.stack c.go_on-in-Resume.new.frames.asked c.go_on-in-Resume.new.registry in
    let fits = subst (λ (n : Need). NeedFits next c.args.registry.now c.args.frames.now.top (Some n) c.args.frames.now.stack) c.in-Resume.is c.requires.fits in
    rw c.in-Resume.is (held_onward next c.args.frames.now.asked c.args.frames.now.stack c.resume.new.self.stack c.in-Resume.held c.in_ok-ask-in-Resume.ask c.args.registry.now c.resume.new.registry turn
    fits.1 c.in_ok-ask-in-Resume.ensures.frame c.in_ok-ask-in-Resume.ensures.objects c.in_ok-ask-in-Resume.ensures.answer
    (λ (frame : Frame) (outer : List Frame) e. subst (λ (n : ℕ). AfterAsk next outer n frame c.in_ok-ask-in-Resume.ask c.resume.new.registry turn) c.resume.ensures.same_count (c.go_on-in-Resume.ensures.answer frame outer e)))
