-- The uniqueness of the faults of a world's lines.
use Rattle.std.specs.Prelude.{ℕ, List}
use Rattle.txc_script.specs.Words.{words_of}
use Rattle.txc_script_lines.specs.Faults.{WordsFault}
use Rattle.txc_script_world.specs.Tasks.{SpellsTask}
use Rattle.txc_script_world.specs.WorldFaults.{IsWorldFault}
use Rattle.txc_script_world.specs.declared.task.Task.{Task}

-- nothing is wrong with the words of a line that asks for something
abbrev pub NothingIsWrongWithTasks : Type 0
NothingIsWrongWithTasks =
    (line : List ℕ) (task : Task) (fault : WordsFault) → SpellsTask line task → IsWorldFault (words_of line) fault
    → ⊥
