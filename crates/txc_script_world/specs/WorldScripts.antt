-- Scripts of a world: the requests of their lines, and the results.
use Rattle.std.specs.Prelude.{◌≡◌, ◌⊎◌, ℕ, List, [], ◌∷◌, ◌++◌}
use Rattle.txc_app.specs.Eval.{Next}
use Rattle.txc_script.specs.Kinds.{ScriptKind, no_closing}
use Rattle.txc_script_lines.specs.declared.fault.OwnFault.{OwnFault}
use Rattle.txc_world.specs.Worlds.{WorldValue}
use Rattle.txc_script_world.specs.Tasks.{SpellsTask}
use Rattle.txc_script_world.specs.TaskSteps.{TaskHasBegun, TaskIsDone}
use Rattle.txc_script_world.specs.TaskTexts.{printed_text, is_refused_line}
use Rattle.txc_script_world.specs.WorldFaults.{IsWorldFault}
use Rattle.txc_script_world.specs.declared.printed.Printed.{Printed}
use Rattle.txc_script_world.specs.declared.task.Task.{Task}

-- nothing was done of what a line asks for, or the first steps were taken, or all of them
abbrev pub BreaksOffTask : Next → WorldValue → List ℕ → WorldValue → Type 0
BreaksOffTask next s line end =
    (end ≡ s) ⊎ ((task : Task) × SpellsTask line task × TaskHasBegun next s task end)

-- A script of a world's lines, over functions with this meaning: a line's request is done by steps, and nothing
-- is written after all lines.
abbrev pub world_script : Next → ScriptKind WorldValue Task Printed OwnFault
world_script next = record {
  asks = λ s. SpellsTask;
  does = TaskIsDone next;
  breaks_off = BreaksOffTask next;
  text = λ printed. printed_text printed ++ 10 ∷ [];
  is_refused = is_refused_line;
  is_wrong = λ s. IsWorldFault;
  closes = λ s given closing end. (closing ≡ no_closing) × (end ≡ s);
  breaks_at_end = λ s end. ⊥;
}
