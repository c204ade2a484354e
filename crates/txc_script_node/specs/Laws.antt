-- The uniqueness of a line's meaning, and of its result.
use Rattle.std.specs.Prelude.{◌≡◌, ◌≢◌, ℕ, List}
use Rattle.std.specs.List.{All}
use Rattle.txc_node.specs.declared.op.Op.{Op}
use Rattle.txc_node.specs.declared.refusal.Refusal.TheVariants.{Memory}
use Rattle.txc_node.specs.declared.reply.Reply.TheVariants.{Refused}
use Rattle.txc_node.specs.Cache.{Cache}
use Rattle.txc_node.specs.declared.hit.HitValue.{HitValue}
use Rattle.txc_node.specs.declared.reply.Reply.{Reply}
use Rattle.txc_script_settings.specs.declared.mode.Mode.{Mode}
use Rattle.txc_script.specs.Kinds.{Given, Replied, AreGiven}
use Rattle.txc_script.specs.Lines.{IsQuiet}
use Rattle.txc_script_node.specs.Lines.{IsStepLine}
use Rattle.txc_script_node.specs.NodeScripts.{node_script}
use Rattle.txc_script_node.specs.LineMeaning.{Line, IsLine}

-- no line without a reply names a step
abbrev pub NoQuietLineNamesAStep : Type 0
NoQuietLineNamesAStep = (line : List ℕ) (op : Op) → IsQuiet line → IsStepLine line op → ⊥

-- a line names one step at most: its name, and each of its words, has one meaning
abbrev pub NamesOneStep : Type 0
NamesOneStep = (line : List ℕ) (a b : Op) → IsStepLine line a → IsStepLine line b → a ≡ b

-- a line is at most one of these: quiet, a step, an insertion that cannot be made, and malformed
abbrev pub IsOneThing : Type 0 → Type 0
IsOneThing F = (line : List ℕ) (a b : Line) → IsLine F line a → IsLine F line b → a ≡ b

-- no step was refused for want of memory
abbrev pub HadMemory : List (Given Op (Reply HitValue)) → Type 0
HadMemory given = All (λ g. (op : Op) → g ≢ Replied op (Refused Memory)) given

-- Lines from one state, of which no step is refused for want of memory, have only one result: the same replies
-- and the same last state, whatever the faults that only lines of this kind have.
abbrev pub AreAnsweredOneWay : Type 0 → Type 0
AreAnsweredOneWay F = (mode : Mode) (c : Cache) (number : ℕ) (lines : List (List ℕ))
    (a b : List (Given Op (Reply HitValue))) (end other : Cache)
    → AreGiven (node_script {F = F} mode) c number lines a end → AreGiven (node_script {F = F} mode) c number lines b other
    → HadMemory a → HadMemory b
    → (a ≡ b) × (end ≡ other)
