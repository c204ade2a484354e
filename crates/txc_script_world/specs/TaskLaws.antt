-- The sources of the text of a world's lines.
use Rattle.std.specs.Prelude.{◌≡◌, ◌≢◌, ℕ, List, Some, slice_get}
use Rattle.txc_app.specs.Eval.{Next}
use Rattle.txc_shared.specs.Nodes.{NodeValue}
use Rattle.txc_world.specs.declared.step.Step.{Step}
use Rattle.txc_world.specs.declared.reply.Reply.{Reply}
use Rattle.txc_world.specs.ActorValues.{reads, ReadingValue}
use Rattle.txc_world.specs.Worlds.{WorldValue}
use Rattle.txc_script_world.specs.TaskSteps.{Does, DoesCounts, ShowsMembers}
use Rattle.txc_script_world.specs.TaskTexts.{printed_text}
use Rattle.txc_script_world.specs.declared.printed.Printed.{Printed}
use Rattle.txc_script_world.specs.declared.task.Task.{Task}
use Rattle.txc_script_world.specs.declared.task.Task.TheVariants.{Pins, Counts}

-- The text of a line that takes steps depends only on their replies, not on the world: with the same replies
-- the same is written.
abbrev pub AreWrittenByReplies : Type 0
AreWrittenByReplies = (next other : Next) (world elsewhere : WorldValue) (task : Task) (steps others : List Step)
    (replied : List Reply) (a b : Printed) → ((actor : ℕ) → task ≢ Pins actor)
    → ((node function : ℕ) → task ≢ Counts node function)
    → Does next world task steps replied a → Does other elsewhere task others replied b → a ≡ b

-- the text of the pins of an actor's read-only transaction depends only on its pin set
abbrev pub ArePinsWrittenByPinSet : Type 0
ArePinsWrittenByPinSet = (next other : Next) (world elsewhere : WorldValue) (actor : ℕ) (r : ReadingValue)
    (a b : Printed) → slice_get world.actors actor ≡ Some (reads r)
    → slice_get elsewhere.actors actor ≡ Some (reads r) → ShowsMembers next world actor a
    → ShowsMembers other elsewhere actor b → printed_text a ≡ printed_text b

-- the text of a function's counts depends only on the records of the node
abbrev pub AreCountsWrittenByRecords : Type 0
AreCountsWrittenByRecords = (world elsewhere : WorldValue) (node function : ℕ) (n other : NodeValue) (a b : Printed)
    → slice_get world.ports.nodes node ≡ Some n → slice_get elsewhere.ports.nodes node ≡ Some other
    → n.records ≡ other.records → DoesCounts world node function a → DoesCounts elsewhere node function b → a ≡ b
