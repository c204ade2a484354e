-- The effect of a run on the lines of its script, for any kind of script.
use Rattle.std.specs.Prelude.{◌≡◌, ◌⊎◌, ℕ, false, List, [], ◌∷◌, ◌++◌, Option, Result, Ok, Err, take}
use Rattle.std.specs.List.{list_any}
use Rattle.std.specs.Io.KnownBytes.{Appends, Consumes, IsAtEnd}
use Rattle.txc_script.specs.Kinds.{ScriptKind, Given, Closing, AreFirstLines, AreGiven, ClosesScript, IsStatusOf, IsWholeScript, is_malformed, lines_text}
use Rattle.txc_script.specs.Lines.{IsPlain}
use Rattle.txc_script.specs.Script.{AreLinesOf, BeginsWithLines, HasNoEnd}
use Rattle.txc_script.specs.declared.fault.RunFault.{RunFault}
use Rattle.txc_script.specs.declared.fault.RunFault.TheVariants.{Read, Write, Memory}
use Rattle.txc_script.specs.declared.fault.Status.{Status}

-- the results of a script's lines, counted from 1, and the state that they leave
abbrev pub Answers : {S A R F : Type 0} → ScriptKind S A R F → S → List (List ℕ) → List (Given A R) → S → Type 0
Answers kind start lines given end = AreGiven kind start 1 lines given end

-- a run answered these lines and the end of the script, and left this state
pub record Ends {S A R F : Type 0} (kind : ScriptKind S A R F) (start : S) (read : List ℕ) (at_end : Type 0)
    (lines : List (List ℕ)) (given : List (Given A R)) (closing : Closing) (left : S) : Type 0 where
  pub end : S
  pub answers : Answers kind start lines given end
  pub whole : IsWholeScript read at_end lines given
  pub closes : ClosesScript kind end given closing left

-- the place at which a run without memory stopped: right after the lines that it answered; or within the next
-- line; or, if these are all lines, at the end of the script
pub data Breaks {S A R F : Type 0} (kind : ScriptKind S A R F) (read : List ℕ) (at_end : Type 0)
    (lines : List (List ℕ)) (end left : S) : Type 0 where
  After : (others : List ℕ) → BeginsWithLines read lines others → left ≡ end → Breaks kind read at_end lines end left
  Within : (others line : List ℕ) → BeginsWithLines read lines others
      → AreFirstLines read at_end (lines ++ line ∷ []) → IsPlain line → kind.breaks_off end line left
      → Breaks kind read at_end lines end left
  AtEnd : AreLinesOf read lines → at_end → kind.breaks_at_end end left → Breaks kind read at_end lines end left

-- a run answered these lines, then stopped, and left this state
pub record BreaksOff {S A R F : Type 0} (kind : ScriptKind S A R F) (start : S) (read : List ℕ) (at_end : Type 0)
    (lines : List (List ℕ)) (given : List (Given A R)) (left : S) : Type 0 where
  pub end : S
  pub answers : Answers kind start lines given end
  pub breaks : Breaks kind read at_end lines end left

-- The text that a run wrote for the bytes that it read, by its result, with the state that it left: the replies
-- of the lines that it answered, and then the text after all lines. After a reader's fault the lines are those
-- that had ended; without memory, those before it stopped; after a writer's fault a prefix of the text was
-- written. After a reader's fault, and without memory, no line was malformed.
abbrev pub ScriptHasWritten : {S A R F : Type 0} → ScriptKind S A R F → S → List ℕ → Type 0 → List ℕ
    → Result (Status F) RunFault → S → Type 0
ScriptHasWritten {S} {A} {R} {F} kind start read at_end written (Ok status) left =
    (lines : List (List ℕ)) × (given : List (Given A R)) × (closing : Closing)
    × Ends kind start read at_end lines given closing left
    × (written ≡ lines_text kind given ++ closing.text) × IsStatusOf kind left lines given closing status
ScriptHasWritten {S} {A} {R} {F} kind start read at_end written (Err Read) left =
    (lines : List (List ℕ)) × (given : List (Given A R)) × (rest : List ℕ)
    × Answers kind start lines given left × BeginsWithLines read lines rest × HasNoEnd rest
    × (written ≡ lines_text kind given) × (list_any is_malformed given ≡ false)
ScriptHasWritten {S} {A} {R} {F} kind start read at_end written (Err Write) left =
    (lines : List (List ℕ)) × (given : List (Given A R)) × (n : ℕ)
    × ((BreaksOff kind start read at_end lines given left × (written ≡ take n (lines_text kind given)))
    ⊎ ((closing : Closing) × Ends kind start read at_end lines given closing left
    × (written ≡ take n (lines_text kind given ++ closing.text))))
ScriptHasWritten {S} {A} {R} {F} kind start read at_end written (Err Memory) left =
    (lines : List (List ℕ)) × (given : List (Given A R))
    × BreaksOff kind start read at_end lines given left
    × (written ≡ lines_text kind given) × (list_any is_malformed given ≡ false)

-- A run from this state: the bytes that it read, the bytes that it wrote, its result, and the state that it
-- left.
abbrev pub ScriptHasRun : {S A R F : Type 0} → ScriptKind S A R F → S → Option (List ℕ) → Option (List ℕ)
    → Option (List ℕ) → Option (List ℕ) → Result (Status F) RunFault → S → Type 0
ScriptHasRun kind start remaining_old remaining_new contents_old contents_new result left =
    (read : List ℕ) × (written : List ℕ)
    × Consumes remaining_old remaining_new read × Appends contents_old contents_new written
    × ScriptHasWritten kind start read (IsAtEnd remaining_new) written result left
