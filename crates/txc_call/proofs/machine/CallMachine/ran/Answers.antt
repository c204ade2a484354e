use Rattle.std.proofs.Common.{◌≡◌, Some, Ok, sym, ap, subst, ◌∙◌}
use Rattle.txc_call.specs.declared.need.Need.{Need}
use Rattle.txc_call.specs.CallMachine.{Calling}
use Rattle.txc_call.specs.CallSteps.{objects_after, AfterRan}
use Rattle.txc_call.proofs.Keeping.{step_ran_keeps}
use Rattle.txc_call.proofs.machine.CallMachine.ran.Goals as goal

pub returns-in-Ok-clause-keeps : goal.returns-in-Ok-clause-keeps
returns-in-Ok-clause-keeps c = λ next objects need is within calling asked there.
    let new : Calling = record { top = c.after_ask.new.frames.top; asked = c.after_ask.new.frames.asked; frames = c.after_ask.new.frames.stack; need = Some c.in-Ok.next } in
    let two : Some c.in-Some.need ≡ Some need = sym c.in-Some.is ∙ c.replace.ensures.value ∙ ap (λ (v : Calling). v.need) c.self.view_is ∙ is in
    let same : c.in-Some.need ≡ need = cc in
    let transition = subst (λ (v : Calling). AfterRan c.args.limits v.frames v.asked objects need c.args.ask
    (Ok (record { frames = new.frames; asked = new.asked; need = new.need; objects = objects_after objects v.frames need c.args.ask }))) c.self.view_is
    (subst (λ (n : Need). AfterRan c.args.limits c.self.inside.frames.stack c.self.inside.frames.asked objects n c.args.ask
    (Ok (record { frames = new.frames; asked = new.asked; need = new.need; objects = objects_after objects c.self.inside.frames.stack n c.args.ask }))) same (c.in-Ok.ensures.answer objects)) in
    step_ran_keeps next c.args.limits within c.right_answers_give_the_value.ensures c.args.self.now new objects need c.args.ask is calling c.requires.common asked there
    (c.in-Ok.ensures.same_top ∙ ap (λ (v : Calling). v.top) c.self.view_is) transition
