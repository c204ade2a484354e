-- Only private functions need this file: parts of what a line of a world's script asks for.
use Rattle.std.specs.Prelude.{◌≡◌, ◌⊎◌, ℕ, Bool, List, [], ◌∷◌, ◌++◌}
use Rattle.txc_app.specs.Eval.{Next}
use Rattle.txc_world.specs.declared.step.ActorStep.{ActorStep}
use Rattle.txc_world.specs.declared.step.Step.{Step}
use Rattle.txc_world.specs.declared.reply.Reply.{Reply}
use Rattle.txc_world.specs.Worlds.{WorldValue}
use Rattle.txc_script_world.specs.TaskSteps.{AreTaken, DoesEnd, DoesUnpin, TaskHasBegun, TaskIsDone}
use Rattle.txc_script_world.specs.TaskTexts.{printed_text, is_refused_line}
use Rattle.txc_script_world.specs.declared.printed.Printed.{Printed}
use Rattle.txc_script_world.specs.declared.printed.Printed.TheVariants.{Replied}
use Rattle.txc_script_world.specs.declared.task.Task.{Task}

-- an actor ended its transaction so
pub record HasEndedTxn (next : Next) (world : WorldValue) (actor : ℕ) (act : ActorStep) (reply : Reply)
    (end : WorldValue) : Type 0 where
  pub steps : List Step
  pub replied : List Reply
  pub taken : AreTaken next world steps replied end
  pub does : DoesEnd actor act steps replied (Replied reply)

-- the stamps were unpinned
pub record HasUnpinned (next : Next) (world : WorldValue) (stamps : List ℕ) (count : ℕ) (printed : Printed)
    (end : WorldValue) : Type 0 where
  pub steps : List Step
  pub replied : List Reply
  pub taken : AreTaken next world steps replied end
  pub does : DoesUnpin stamps count steps replied printed

-- none of the steps of what a line asks for were taken, or the first ones
abbrev pub IsCutShort : Next → WorldValue → Task → WorldValue → Type 0
IsCutShort next world task end = (end ≡ world) ⊎ TaskHasBegun next world task end

-- the line's request was done, and its text was appended
pub record IsTaskDone (next : Next) (world : WorldValue) (task : Task) (end : WorldValue) (old new : List ℕ)
    (refused : Bool) : Type 0 where
  pub printed : Printed
  pub done : TaskIsDone next world task printed end
  pub text : new ≡ old ++ (printed_text printed ++ 10 ∷ [])
  pub is_refused : refused ≡ is_refused_line printed
