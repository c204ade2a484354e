use Rattle.std.proofs.Common.{◌≡◌, Some, ap, ◌∙◌}
use Rattle.txc_call_registry.specs.Activity.{begun, idle, running}
use Rattle.txc_call_registry.specs.Objects.{Objects, activity_of, with_activity}
use Rattle.txc_call_registry.proofs.Offered.{restored}
use Rattle.txc_call.proofs.OpenFrames.{free_below, opened_at}
use Rattle.txc_call.proofs.frames.Frames.begin.Goals as goal

pub begin-requires : goal.begin-requires
begin-requires g c = record {
  idle = rw c.function-function.ensures.answer (free_below c.args.key.function c.args.self.now.stack c.args.registry.now c.requires.rising c.requires.open.free c.requires.there);
}

pub returns-in_default-clause-unchanged : goal.returns-in_default-clause-unchanged
returns-in_default-clause-unchanged g c =
    let objects = c.args.registry.now in
    let f = c.function-function.result in
    let free : activity_of objects f ≡ Some idle = rw c.function-function.ensures.answer (free_below c.args.key.function c.args.self.now.stack objects c.requires.rising c.requires.open.free c.requires.there) in
    c.release.ensures ∙ ap (λ (os : Objects). with_activity os f idle) c.in-Ok.ensures.after ∙ restored f objects idle (running (begun c.args-2.result.now)) free

pub returns-clause-open : goal.returns-clause-open
returns-clause-open g c =
    let objects = c.args.registry.now in
    let free = free_below c.args.key.function c.args.self.now.stack objects c.requires.rising c.requires.open.free c.requires.there in
    rw c.enter.ensures.same_top (opened_at g.A.App.next objects c.begin.new.self c.args.self.now.top c.args.self.now.stack c.enter.new.self.stack
    c.args.key c.in-Ok.ask c.function-function.result c.args-2.result.now c.requires.open c.requires.rising free
    c.function-function.ensures.answer c.args-2.ensures.answer c.in-Ok.ensures.answer c.in-Ok.ensures.after c.in-Ok-enter.ensures.after)
