-- The meanings of a line, for the statement of a law.
use Rattle.std.specs.Prelude.{◌≡◌, ⊤, ℕ, List, Some, None}
use Rattle.txc_node.specs.declared.value.TheConstants.{MAX_VALUE_LEN}
use Rattle.txc_node.specs.Cache.{Cache}
use Rattle.txc_node.specs.declared.entry.Entry.{Entry}
use Rattle.txc_node.specs.declared.entry.EntryError.{EntryError}
use Rattle.txc_node.specs.declared.op.Op.{Op}
use Rattle.txc_node.specs.declared.op.Op.TheVariants.{Insert, Lookup, Event, Sweep, Trim}
use Rattle.txc_node.specs.Steps.{refusal_by, entry_refusal}
use Rattle.txc_script_settings.specs.declared.mode.Mode.TheVariants.{Node}
use Rattle.txc_script.specs.Kinds.{IsMalformed}
use Rattle.txc_script.specs.Lines.{IsQuiet}
use Rattle.txc_script_node.specs.Lines.{IsStepLine}
use Rattle.txc_script_node.specs.NodeScripts.{node_script}

-- an insertion's entry can be made
abbrev pub CanBeMade : Op → Type 0
CanBeMade (Insert e) = entry_refusal MAX_VALUE_LEN e ≡ None
CanBeMade (Lookup key lo hi) = ⊤
CanBeMade (Event stamp tags) = ⊤
CanBeMade (Sweep horizon) = ⊤
CanBeMade (Trim most) = ⊤

-- the step is such a one, and can be made
abbrev pub NamesStep : (Op → Type 0) → Op → Type 0
NamesStep Is op = Is op × CanBeMade op

-- there is such an insertion, and its entry cannot be made, for this reason
abbrev pub IsUnmade : (Op → Type 0) → EntryError → Type 0
IsUnmade Is error = (e : Entry) × Is (Insert e) × (entry_refusal MAX_VALUE_LEN e ≡ Some (refusal_by error))

-- the meaning of a line: none, a step, an insertion whose entry cannot be made, or malformed
pub data Line : Type 0 where
  Quiet : Line
  Step : Op → Line
  Unmade : EntryError → Line
  Malformed : Line

-- the bytes are such a line, with these faults that only lines of this kind have
abbrev pub IsLine : Type 0 → List ℕ → Line → Type 0
IsLine F bytes Quiet = IsQuiet bytes
IsLine F bytes (Step op) = NamesStep (IsStepLine bytes) op
IsLine F bytes (Unmade error) = IsUnmade (IsStepLine bytes) error
IsLine F bytes Malformed = (c : Cache) × IsMalformed (node_script {F = F} Node) c bytes
