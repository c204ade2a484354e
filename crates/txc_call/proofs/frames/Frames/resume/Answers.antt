use Rattle.std.proofs.Common.{ap, arith}
use Rattle.txc_app.specs.declared.app.Limits.{Limits}
use Rattle.txc_call.proofs.OpenFrames.{released_given, resumed_at}
use Rattle.txc_call.proofs.frames.Frames.resume.Goals as goal

pub give-requires : goal.give-requires
give-requires g c =
    let s = c.requires.some in
    let same = ap (λ (l : Limits). l.asks) c.limits-limits.ensures.answer in
    let few = s.3 in
    (s.0, s.1, s.2, omega (arith, few, same, c.limits-limits.ensures.asks), s.4)

pub returns-in-Ok-resume-clause-open : goal.returns-in-Ok-resume-clause-open
returns-in-Ok-resume-clause-open g c =
    let top = c.in-Some.ensures in
    let frame = c.in-Some.frame.now in
    resumed_at g.A.App.next c.args.registry.now c.resume.new.self c.args.self.now.top c.args.self.now.stack c.give.new.self
    c.requires.open.0 c.in-Ok-resume.ask c.args.answer frame top.0 c.function-function.result c.args.reach c.args.tags.now top.1
    c.function-function.ensures.answer c.requires.open.1 c.in-Ok-resume.ensures.answer c.in-Ok-resume.ensures.after
    (c.in-Ok.ensures.after frame top.0 top.1)

pub returns-in-Err-clause-released : goal.returns-in-Err-clause-released
returns-in-Err-clause-released g c =
    let top = c.in-Some.ensures in
    let frame = c.in-Some.frame.now in
    let objects = c.args.registry.now in
    rw c.in-Err.ensures.unchanged (released_given g.A.App.next objects objects c.args.self.now.top c.args.self.now.stack c.give.new.self
    frame top.0 c.args.reach c.args.tags.now top.1 (c.in-Ok.ensures.after frame top.0 top.1) c.requires.open.1.free)
