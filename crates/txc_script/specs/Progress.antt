-- Only private functions need this file: a run in progress.
use Rattle.std.specs.Prelude.{◌≡◌, ◌⊎◌, ◌||◌, ℕ, Bool, false, List, [], ◌++◌, Option, Result, Ok, Err, length, take}
use Rattle.std.specs.List.{list_any}
use Rattle.std.specs.Io.KnownBytes.{Appends, Keeps}
use Rattle.std.specs.declared.alloc.AllocError.{AllocError}
use Rattle.txc_script.specs.Flows.{IsFlowAfter, status_after}
use Rattle.txc_script.specs.Kinds.{ScriptKind, Given, Gives, is_malformed, is_refused, line_text, lines_text}
use Rattle.txc_script.specs.Lines.{IsPlain}
use Rattle.txc_script.specs.Runs.{Answers, ScriptHasWritten}
use Rattle.txc_script.specs.Script.{BeginsWithLines, HasNoEnd, AreLinesOf}
use Rattle.txc_script.specs.declared.fault.RunFault.{RunFault}
use Rattle.txc_script.specs.declared.fault.RunFault.TheVariants.{Memory, Write}
use Rattle.txc_script.specs.declared.fault.Status.{Status}
use Rattle.txc_script.specs.declared.fault.Status.TheVariants as statuses
use Rattle.txc_script.specs.declared.piece.TheConstants.{MAX_KEPT}
use Rattle.txc_script.specs.declared.running.Flow.{Flow}
use Rattle.txc_script.specs.declared.running.Flow.TheVariants.{GoesOn, Stopped}
use Rattle.txc_script.specs.declared.running.Replies.{Replies}
use Rattle.txc_script.specs.declared.running.Running.{Running}

-- the part of a line that is kept
abbrev pub kept_of : List ℕ → List ℕ
kept_of line = take MAX_KEPT line

-- the state of a run, the number of lines read, the kept part of the line that has not ended, the pending
-- replies, and whether a refusal was written
pub record Progress (S : Type 0) : Type 0 where
  pub state : S
  pub lines : ℕ
  pub line : List ℕ
  pub text : List ℕ
  pub refused : Bool

abbrev pub progress_of : {S F : Type 0} → S → Running F → Progress S
progress_of state r = record {
  state = state;
  lines = r.lines;
  line = r.line;
  text = r.replies.text.items;
  refused = r.replies.is_refused;
}

-- a line of this number was answered: it found one state and left another, and its result was added to the
-- replies
pub record AnswersLine {S A R F : Type 0} (kind : ScriptKind S A R F) (s next : S) (old new : Replies F) (number : ℕ)
    (line : List ℕ) (flow : Flow F) : Type 0 where
  pub given : Given A R
  pub gives : Gives kind s number line given next
  pub text : new.text.items ≡ old.text.items ++ line_text kind given
  pub refused : new.is_refused ≡ (old.is_refused || is_refused kind given)
  pub flow_is : IsFlowAfter kind next number line given flow

-- nothing was done of what a line asks for, or it broke off
abbrev pub MayBreakOff : {S A R F : Type 0} → ScriptKind S A R F → S → List ℕ → S → Type 0
MayBreakOff kind s line end = (end ≡ s) ⊎ (IsPlain line × kind.breaks_off s line end)

-- the lines that have ended were answered, and none was malformed; these bytes were written, and the remaining
-- replies are pending
pub record HasAnsweredLines {S A R F : Type 0} (kind : ScriptKind S A R F) (start : S) (read written : List ℕ)
    (p : Progress S) : Type 0 where
  pub lines : List (List ℕ)
  pub given : List (Given A R)
  pub rest : List ℕ
  pub answers : Answers kind start lines given p.state
  pub begins : BeginsWithLines read lines rest
  pub not_ended : HasNoEnd rest
  pub kept : p.line ≡ kept_of rest
  pub text : written ++ p.text ≡ lines_text kind given
  pub count : p.lines ≡ length lines
  pub refused : p.refused ≡ list_any (is_refused kind) given
  pub well_formed : list_any is_malformed given ≡ false

-- all lines of the script were answered, and none was malformed
pub record HasLast {S A R F : Type 0} (kind : ScriptKind S A R F) (start : S) (read written : List ℕ)
    (p : Progress S) : Type 0 where
  pub lines : List (List ℕ)
  pub given : List (Given A R)
  pub answers : Answers kind start lines given p.state
  pub all : AreLinesOf read lines
  pub text : written ++ p.text ≡ lines_text kind given
  pub refused : p.refused ≡ list_any (is_refused kind) given
  pub well_formed : list_any is_malformed given ≡ false

-- the result of a run that ended so, by whether a refusal was written
abbrev pub result_after : {F : Type 0} → Bool → Result (Flow F) AllocError → Result (Status F) RunFault
result_after refused (Ok flow) = Ok (status_after refused flow)
result_after refused (Err e) = Err Memory

-- the run is at its end, but that the replies at hand are not written
abbrev pub IsAtLast : {S A R F : Type 0} → ScriptKind S A R F → S → List ℕ → Type 0 → List ℕ → Progress S
    → Result (Flow F) AllocError → Type 0
IsAtLast kind start read at_end written p r =
    ScriptHasWritten kind start read at_end (written ++ p.text) (result_after p.refused r) p.state

-- the lines that end in the bytes were answered: the run continues, or a malformed line stopped it, or there is
-- no memory
abbrev pub AnswersAs : {S A R F : Type 0} → ScriptKind S A R F → S → List ℕ → List ℕ → Progress S
    → Result (Flow F) AllocError → Type 0
AnswersAs kind start read written p (Ok GoesOn) = HasAnsweredLines kind start read written p
AnswersAs kind start read written p (Ok (Stopped bad)) = IsAtLast kind start read ⊥ written p (Ok (Stopped bad))
AnswersAs kind start read written p (Err e) = IsAtLast kind start read ⊥ written p (Err e)

-- the last line was answered, or was malformed, or there is no memory
abbrev pub AnswersLast : {S A R F : Type 0} → ScriptKind S A R F → S → List ℕ → List ℕ → Progress S
    → Result (Flow F) AllocError → Type 0
AnswersLast kind start read written p (Ok GoesOn) = HasLast kind start read written p
AnswersLast kind start read written p (Ok (Stopped bad)) =
    IsAtLast kind start read (Unit {0}) written p (Ok (Stopped bad))
AnswersLast kind start read written p (Err e) = IsAtLast kind start read (Unit {0}) written p (Err e)

-- all but the replies at hand stay as they were
pub record IsKeptBeside {F : Type 0} (old new : Running F) : Type 0 where
  pub lines : new.lines ≡ old.lines
  pub line : new.line ≡ old.line
  pub refused : new.replies.is_refused ≡ old.replies.is_refused

-- ---- one read of a run

-- more bytes were written after these, and the run ended so, in this state
abbrev pub EndsWith : {S A R F : Type 0} → ScriptKind S A R F → S → List ℕ → Type 0 → List ℕ → Option (List ℕ)
    → Option (List ℕ) → Result (Status F) RunFault → S → Type 0
EndsWith kind start read at_end written contents_old contents_new result left =
    (more : List ℕ) × Appends contents_old contents_new more
    × ScriptHasWritten kind start read at_end (written ++ more) result left

-- the lines that end in the bytes of a read were answered, and their replies written: the run continues, or
-- ends so
abbrev pub TurnsTo : {S A R F : Type 0} → ScriptKind S A R F → S → List ℕ → List ℕ → Progress S → Option (List ℕ)
    → Option (List ℕ) → Result (Flow F) RunFault → Type 0
TurnsTo kind start read written p contents_old contents_new (Ok GoesOn) =
    (more : List ℕ) × Appends contents_old contents_new more
    × HasAnsweredLines kind start read (written ++ more) p × (p.text ≡ [])
TurnsTo kind start read written p contents_old contents_new (Ok (Stopped malformed)) =
    EndsWith kind start read ⊥ written contents_old contents_new (Ok (statuses.Malformed malformed)) p.state
TurnsTo kind start read written p contents_old contents_new (Err fault) =
    EndsWith kind start read ⊥ written contents_old contents_new (Err fault) p.state

-- the run ended so, and the writer was flushed: a failure to flush is a fault of a run that had none
abbrev pub EndsFlushed : {F : Type 0} → Option (List ℕ) → Option (List ℕ) → Result (Status F) RunFault
    → Result (Status F) RunFault → Type 0
EndsFlushed contents_old contents_new (Ok status) result =
    Keeps contents_old contents_new × ((result ≡ Ok status) ⊎ (result ≡ Err Write))
EndsFlushed contents_old contents_new (Err fault) result =
    Keeps contents_old contents_new × (result ≡ Err fault)
