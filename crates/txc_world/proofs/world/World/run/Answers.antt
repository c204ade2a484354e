use Rattle.std.proofs.Common.{◌∙◌, List, ap, subst}
use Rattle.txc_world.specs.declared.step.Step.{Step}
use Rattle.txc_world.specs.Observation.{observed_from, AreDue, AreExplained}
use Rattle.txc_world.proofs.Tellings.{length_more, loop_due, loop_explained, loop_told, loop_whole, steps_done}
use Rattle.txc_world.proofs.Balancing.{loop_tidy, loop_tidy_end}
use Rattle.txc_world.proofs.Transitions.{loop_led, loop_led_end}
use Rattle.txc_world.proofs.Forward.{loop_back}
use Rattle.txc_world.proofs.world.World.run.Goals as goal

pub loop-step-preserved : goal.loop-step-preserved
loop-step-preserved g c =
    let h = c.loop-step.invariant in
    let start = c.args.self.now.told in
    let steps = c.args.steps.now in
    let i = c.loop-step.step-index in
    let replies = c.loop-step.replies.items in
    rw c.push_reserved.ensures.items (record {
      told = loop_told g.A.App.next start steps i replies c.step-item.result c.step-reply.result c.loop-step-test.true c.step-item.is h.each
          c.loop-step.self.told c.step-reply.new.self.told h.told c.step-reply.ensures.told;
      led = loop_led g.A.App.next c.args.self.now steps i replies c.step-item.result c.step-reply.result c.loop-step-test.true c.step-item.is h.each
          c.loop-step.self c.step-reply.new.self h.led (record { told = c.step-reply.ensures.told; transition = c.step-reply.ensures.transition; world = c.step-reply.ensures.world });
      due = loop_due g.A.App.next start steps i replies c.step-item.result c.step-reply.result c.loop-step-test.true c.step-item.is h.each
          c.loop-step.self.told h.told h.due c.step-reply.ensures.due;
      explained = loop_explained g.A.App.next start steps i replies c.step-item.result c.step-reply.result c.loop-step-test.true c.step-item.is h.each
          c.loop-step.self.told c.step-reply.new.self.told h.told c.step-reply.ensures.told h.explained c.step-reply.ensures.explained;
      tidy = loop_tidy c.args.steps.now i c.step-item.result c.loop-step-test.true replies c.step-reply.result c.step-item.is h.each
          c.args.self.now c.loop-step.self c.step-reply.new.self h.tidy c.step-reply.ensures.balanced;
      each = length_more replies c.step-reply.result i h.each;
      room = rw c.push_reserved.ensures.capacity h.room;
    })

pub returns-clause-told : goal.returns-clause-told
returns-clause-told g c =
    c.loop-step.invariant.told ∙ ap (λ (ss : List Step). observed_from c.args.self.now.told ss c.loop-step.replies.items) (steps_done c.args.steps.now c.loop-step.step-index c.loop-step-test.false c.loop-step.auto.step-index-end)

pub returns-clause-explained : goal.returns-clause-explained
returns-clause-explained g c =
    subst (λ (ss : List Step). AreExplained g.A.App.next c.args.self.now.told ss c.loop-step.replies.items) (steps_done c.args.steps.now c.loop-step.step-index c.loop-step-test.false c.loop-step.auto.step-index-end) c.loop-step.invariant.explained

pub returns-clause-due : goal.returns-clause-due
returns-clause-due g c =
    subst (λ (ss : List Step). AreDue c.args.self.now.told ss c.loop-step.replies.items) (steps_done c.args.steps.now c.loop-step.step-index c.loop-step-test.false c.loop-step.auto.step-index-end) c.loop-step.invariant.due

pub returns-clause-explained_in_the_end : goal.returns-clause-explained_in_the_end
returns-clause-explained_in_the_end g c =
    let h = c.loop-step.invariant in
    loop_whole g.A.App.next c.args.self.now.told c.args.steps.now c.loop-step.step-index c.loop-step.replies.items c.loop-step.self.told
    c.loop-step-test.false c.loop-step.auto.step-index-end h.told h.explained

pub returns-clause-balanced : goal.returns-clause-balanced
returns-clause-balanced g c = λ in_hand h tidy.
    (loop_tidy_end c.args.steps.now c.loop-step.step-index c.loop-step.replies.items c.loop-step-test.false c.loop-step.auto.step-index-end
    c.args.self.now c.loop-step.self c.loop-step.invariant.tidy in_hand h tidy).0

pub returns-clause-tidy : goal.returns-clause-tidy
returns-clause-tidy g c = λ in_hand h tidy.
    (loop_tidy_end c.args.steps.now c.loop-step.step-index c.loop-step.replies.items c.loop-step-test.false c.loop-step.auto.step-index-end
    c.args.self.now c.loop-step.self c.loop-step.invariant.tidy in_hand h tidy).1

pub returns-clause-transition : goal.returns-clause-transition
returns-clause-transition g c =
    loop_led_end g.A.App.next c.args.self.now c.args.steps.now c.loop-step.step-index c.loop-step.replies.items c.loop-step-test.false c.loop-step.auto.step-index-end
    c.loop-step.self c.loop-step.invariant.led

pub returns-clause-sessions : goal.returns-clause-sessions
returns-clause-sessions g c =
    loop_back g.A.App.next c.args.self.now.told c.args.steps.now c.loop-step.step-index c.loop-step.replies.items c.loop-step-test.false c.loop-step.auto.step-index-end
    c.has_sessions.ensures c.loop-step.invariant.explained
