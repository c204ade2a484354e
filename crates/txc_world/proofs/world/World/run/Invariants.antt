use Rattle.std.proofs.Common.{◌≡◌, ◌≤◌, length, take}
use Rattle.std.specs.Prelude.{vec_capacity}
use Rattle.txc_world.specs.Tidy.{in_hand_by, AreTidy, LoseNoSnapshot, InHand}
use Rattle.txc_world.specs.Worlds.{IsBalanced}
use Rattle.txc_world.specs.StepEffects.{AreAfterSteps}
use Rattle.txc_world.specs.Observation.{observed_from, AreDue, AreExplained}
use Rattle.txc_world.proofs.world.World.run.Given as goal

abbrev pub invariant-loop-step : goal.invariant-loop-step
invariant-loop-step g l = record {
  told : l.self.told ≡ observed_from l.initial.self.told (take l.step-index l.steps) l.replies.items;
  led : AreAfterSteps g.A.App.next l.initial.self (take l.step-index l.steps) l.replies.items l.self;
  due : AreDue l.initial.self.told (take l.step-index l.steps) l.replies.items;
  explained : AreExplained g.A.App.next l.initial.self.told (take l.step-index l.steps) l.replies.items;
  tidy : (in_hand : InHand) → IsBalanced l.initial.self in_hand → AreTidy in_hand (take l.step-index l.steps) l.replies.items
      → IsBalanced l.self (in_hand_by in_hand (take l.step-index l.steps) l.replies.items) × LoseNoSnapshot (take l.step-index l.steps) l.replies.items;
  each : length l.replies.items ≡ l.step-index;
  room : length l.steps ≤ vec_capacity l.replies;
}
