-- Lines of a world's script are answered.
use Rattle.std.proofs.Common.{ℕ, List, refl, inl, inr}
use Rattle.txc_app.specs.Eval.{Next}
use Rattle.txc_world.specs.Worlds.{WorldValue}
use Rattle.txc_script.specs.Answers.{IsUnanswered}
use Rattle.txc_script.specs.LineFaults.{IsWrong}
use Rattle.txc_script.specs.Words.{words_of}
use Rattle.txc_script_lines.specs.Faults.{WordsUnanswered}
use Rattle.txc_script.specs.declared.unread.LineError.TheVariants.{Wrong, Memory}
use Rattle.txc_script_world.specs.TaskParts.{IsCutShort}
use Rattle.txc_script_world.specs.Tasks.{SpellsTask}
use Rattle.txc_script_world.specs.WorldFaults.{IsWorldFault}
use Rattle.txc_script_world.specs.WorldScripts.{world_script}
use Rattle.txc_script_world.specs.declared.task.Task.{Task}
use Rattle.txc_script_world.proofs.NothingWrong.{nothing_wrong}

-- a line that was not read left the world as it was
pub unread : (next : Next) (s : WorldValue) (line : List ℕ) (reason : WordsUnanswered) → IsWrong (IsWorldFault (words_of line)) reason → IsUnanswered (world_script next) s line s reason
unread next s line (Wrong fault) h = ((λ task spells. nothing_wrong line task fault spells h), refl, h)
unread next s line Memory h = inl refl

-- what a line asks for broke off
pub broke : (next : Next) (s end : WorldValue) (line : List ℕ) (task : Task) → SpellsTask line task → IsCutShort next s task end → IsUnanswered (world_script next) s line end Memory
broke next s end line task is (inl same) = inr (inl same)
broke next s end line task is (inr begun) = inr (inr (task, is, begun))
