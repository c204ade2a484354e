-- The effect of every step of an actor, whatever it has open.
use Rattle.std.specs.Prelude.{◌≡◌, ℕ, List, Option, Some, length, slice_get, slice_set}
use Rattle.txc_app.specs.Eval.{Next}
use Rattle.txc_world.specs.declared.actor.Actor.{Actor}
use Rattle.txc_world.specs.declared.reply.Reply.{Reply}
use Rattle.txc_world.specs.declared.step.ActorStep.{ActorStep}
use Rattle.txc_world.specs.Actors.{observed_of, IsActor}
use Rattle.txc_world.specs.StepEffects.{ActTransition}
use Rattle.txc_world.specs.Holdings.{account_of, ActCounts}
use Rattle.txc_world.specs.ActorValues.{actor_value}
use Rattle.txc_world.specs.Ports.{PortsValue, whole_of, KeepsRow}
use Rattle.txc_world.specs.Observation.{act_in, observed_after, IsActDue, ReplyExplains}

-- The actor keeps the invariant of actors, and its open transaction and the history are those that the step
-- reports. The reply is the one that is due, and explains the actor's earlier results. The ports keep their
-- history, and the keeper its pins. And no other actor has less after it.
pub record IsActed {A C : Type 0} (next : Next) (act : ActorStep) (old new : PortsValue) (before after : Actor A C)
    (reply : Reply) : Type 0 where
  pub fits : IsActor next (whole_of new) (length new.nodes) after
  pub told : observed_of after ≡ observed_after act reply (observed_of before)
  pub history : new.database.history ≡ act_in act reply (observed_of before) old.database.history
  pub due : IsActDue (observed_of before) act reply
  pub explained : ReplyExplains next new.database.history (length old.database.history) (observed_of before) reply
  pub keeps : KeepsRow old new
  pub spare : new.spare ≡ old.spare
  pub counts : ActCounts old new (account_of before) (account_of after) reply

-- There is an actor before and after the step, as for every step of an actor.
pub record ActsThere {A C : Type 0} (next : Next) (renew_after pass : ℕ) (act : ActorStep) (old new : PortsValue)
    (slot after : Option (Actor A C)) (reply : Reply) : Type 0 where
  pub was : Actor A C
  pub is : Actor A C
  pub there : slot ≡ Some was
  pub left : after ≡ Some is
  pub acted : IsActed next act old new was is reply
  pub transition : ActTransition next renew_after pass act old new (actor_value was) (actor_value is) reply

-- the same of the actor of a number, while the others stay as they are
pub record ActsAt {A C : Type 0} (next : Next) (renew_after number : ℕ) (act : ActorStep) (old new : PortsValue)
    (actors after : List (Option (Actor A C))) (reply : Reply) : Type 0 where
  pub was : Actor A C
  pub is : Actor A C
  pub there : slice_get actors number ≡ Some (Some was)
  pub others : after ≡ slice_set actors number (Some is)
  pub acted : IsActed next act old new was is reply
  pub transition : ActTransition next renew_after number act old new (actor_value was) (actor_value is) reply
