-- Steps of a world that are taken one after another.
use Rattle.std.proofs.Common.{List, [], ◌∷◌, ◌++◌, refl, subst}
use Rattle.txc_app.specs.Eval.{Next}
use Rattle.txc_world.specs.declared.step.Step.{Step}
use Rattle.txc_world.specs.declared.reply.Reply.{Reply}
use Rattle.txc_world.specs.Worlds.{WorldValue}
use Rattle.txc_script_world.specs.TaskSteps.{AreTaken, IsTaken}

-- a step by itself
pub taken_alone : (next : Next) (old new : WorldValue) (step : Step) (reply : Reply) → IsTaken next old step reply new → AreTaken next old (step ∷ []) (reply ∷ []) new
taken_alone next old new step reply one = (new, one, refl)

-- a step after others
pub taken_more : (next : Next) (old mid new : WorldValue) (steps : List Step) (replied : List Reply) (step : Step) (reply : Reply)
    → AreTaken next old steps replied mid → IsTaken next mid step reply new → AreTaken next old (steps ++ step ∷ []) (replied ++ reply ∷ []) new
taken_more next old mid new [] [] step reply all one = (new, subst (λ (w : WorldValue). IsTaken next w step reply new) all one, refl)
taken_more next old mid new [] (r ∷ replied) step reply all one = absurd all
taken_more next old mid new (s ∷ steps) [] step reply all one = absurd all
taken_more next old mid new (s ∷ steps) (r ∷ replied) step reply all one = (all.0, all.1, taken_more next all.0 mid new steps replied step reply all.2 one)
