-- The results of a script's lines, and the end of a run, for any kind of script.
use Rattle.std.specs.Prelude.{◌≡◌, ◌⊎◌, ◌<◌, ◌≤◌, ℕ, ◌+◌, ◌||◌, Bool, true, false, List, [], ◌∷◌, ◌++◌, Some, codes, length, position, slice_index, MatchBool}
use Rattle.std.specs.Fmt.{decimal}
use Rattle.std.specs.List.{flat_map, list_any}
use Rattle.txc_script.specs.Lines.{IsPlain, IsQuiet}
use Rattle.txc_script.specs.LineFaults.{HasWholeWords, is_empty, is_foreign}
use Rattle.txc_script.specs.Script.{BeginsWithLines, AreLinesOf}
use Rattle.txc_script.specs.Words.{words_of}
use Rattle.txc_script.specs.declared.fault.Status.{Status}
use Rattle.txc_script.specs.declared.fault.Status.TheVariants.{Done, Refused}
use Rattle.txc_script.specs.declared.fault.Status.TheVariants as statuses
use Rattle.txc_script.specs.declared.line.TheConstants.{MAX_LINE_LEN}
use Rattle.txc_script.specs.declared.line_fault.CommandFault.{CommandFault}
use Rattle.txc_script.specs.declared.line_fault.LineFault.{LineFault}
use Rattle.txc_script.specs.declared.line_fault.LineFault.TheVariants as faults
use Rattle.txc_script.specs.declared.line_fault.MalformedLine.{MalformedLine}

-- ---- a kind of script

-- a line gives no reply; or makes a request and gives its reply; or is malformed, and has this number
pub data Given (A R : Type 0) : Type 0 where
  Nothing : Given A R
  Replied : A → R → Given A R
  Malformed : ℕ → Given A R

-- the result after all lines: the text, and whether it has a refusal
pub record Closing : Type 0 where
  pub text : List ℕ
  pub is_refused : Bool

-- nothing is written after all lines
abbrev pub no_closing : Closing
no_closing = record { text = []; is_refused = false }

-- A kind of script, given by the states that its lines find and leave, by their requests, and by the replies.
-- It defines the request of a line in a state; its reply, with the next state; and the states in which a line
-- stops if there is no memory. It defines the text of a reply, whether that is a refusal, and the fault of a
-- line whose words make no request. And it defines the result after all lines in the state that they left, and
-- the states in which that stops for want of memory.
pub record ScriptKind (S A R F : Type 0) : Type 1 where
  pub asks : S → List ℕ → A → Type 0
  pub does : S → A → R → S → Type 0
  pub breaks_off : S → List ℕ → S → Type 0
  pub text : R → List ℕ
  pub is_refused : R → Bool
  pub is_wrong : S → List (List ℕ) → CommandFault F → Type 0
  pub closes : S → List (Given A R) → Closing → S → Type 0
  pub breaks_at_end : S → S → Type 0

-- ---- lines

-- a line that asks for this in a state
abbrev pub Asks : {S A R F : Type 0} → ScriptKind S A R F → S → List ℕ → A → Type 0
Asks kind s line asked = IsPlain line × kind.asks s line asked

-- a line that is not to be passed over, and asks for nothing in the state that it finds
pub record IsMalformed {S A R F : Type 0} (kind : ScriptKind S A R F) (s : S) (line : List ℕ) : Type 0 where
  pub not_quiet : IsQuiet line → ⊥
  pub asks_nothing : (asked : A) → Asks kind s line asked → ⊥

-- The fault of a malformed line, in this order: it is too long; it has a foreign byte; it has an empty word; or
-- its words have a fault in the state that it finds.
abbrev pub IsFaultOf : {S A R F : Type 0} → ScriptKind S A R F → S → List ℕ → LineFault F → Type 0
IsFaultOf kind s line faults.TooLong = MAX_LINE_LEN < length line
IsFaultOf kind s line (faults.Byte at byte) =
    (length line ≤ MAX_LINE_LEN) × (position is_foreign line ≡ Some at) × (slice_index line at ≡ byte)
IsFaultOf kind s line faults.Blanks = IsPlain line × (list_any is_empty (words_of line) ≡ true)
IsFaultOf kind s line (faults.Command fault) = HasWholeWords line × kind.is_wrong s (words_of line) fault

-- ---- the results of the lines

abbrev pub is_malformed : {A R : Type 0} → Given A R → Bool
is_malformed Nothing = false
is_malformed (Replied asked reply) = false
is_malformed (Malformed number) = true

-- the text of the line is a refusal, or the line was malformed
abbrev pub is_refused : {S A R F : Type 0} → ScriptKind S A R F → Given A R → Bool
is_refused kind Nothing = false
is_refused kind (Replied asked reply) = kind.is_refused reply
is_refused kind (Malformed number) = true

-- the line that is written of a malformed line
abbrev pub malformed_text : ℕ → List ℕ
malformed_text number = codes "line " ++ (decimal number ++ (codes ": malformed" ++ 10 ∷ []))

-- the text of a line's result
abbrev pub line_text : {S A R F : Type 0} → ScriptKind S A R F → Given A R → List ℕ
line_text kind Nothing = []
line_text kind (Replied asked reply) = kind.text reply
line_text kind (Malformed number) = malformed_text number

-- the texts of the results, one after the other
abbrev pub lines_text : {S A R F : Type 0} → ScriptKind S A R F → List (Given A R) → List ℕ
lines_text kind given = flat_map (line_text kind) given

-- the result of a line of this number in a state, and the state that it leaves
abbrev pub Gives : {S A R F : Type 0} → ScriptKind S A R F → S → ℕ → List ℕ → Given A R → S → Type 0
Gives kind s number line Nothing next = IsQuiet line × (next ≡ s)
Gives kind s number line (Replied asked reply) next = Asks kind s line asked × kind.does s asked reply next
Gives kind s number line (Malformed k) next = IsMalformed kind s line × (k ≡ number) × (next ≡ s)

-- no line is read after a malformed one
abbrev pub EndsAtMalformed : Bool → List (List ℕ) → Type 0
EndsAtMalformed true lines = lines ≡ []
EndsAtMalformed false lines = Unit {0}

-- The results of the lines, in order: the first line has this number, each next one the number after it, and
-- each finds the state that the lines before it left.
abbrev pub AreGiven : {S A R F : Type 0} → ScriptKind S A R F → S → ℕ → List (List ℕ) → List (Given A R) → S
    → Type 0
AreGiven kind s number [] [] end = end ≡ s
AreGiven kind s number [] (g ∷ given) end = ⊥
AreGiven kind s number (line ∷ lines) [] end = ⊥
AreGiven {S} {A} {R} {F} kind s number (line ∷ lines) (g ∷ given) end =
    (next : S) × Gives kind s number line g next × EndsAtMalformed (is_malformed g) lines
    × AreGiven kind next (number + 1) lines given end

-- the result after lines with these results, and the last state: nothing if a line was malformed
abbrev pub ClosesScript : {S A R F : Type 0} → ScriptKind S A R F → S → List (Given A R) → Closing → S → Type 0
ClosesScript kind s given closing end =
    MatchBool (list_any is_malformed given) ((closing ≡ no_closing) × (end ≡ s))
    (kind.closes s given closing end)

-- ---- the end of a run

-- the lines of the whole script; or those up to a malformed one, after which no line was answered
abbrev pub IsWholeScript : {A R : Type 0} → List ℕ → Type 0 → List (List ℕ) → List (Given A R) → Type 0
IsWholeScript read at_end lines given =
    (AreLinesOf read lines × at_end)
    ⊎ ((others : List ℕ) × BeginsWithLines read lines others × (list_any is_malformed given ≡ true))

-- some first lines of the bytes read, or all lines of a whole script
abbrev pub AreFirstLines : List ℕ → Type 0 → List (List ℕ) → Type 0
AreFirstLines read at_end lines =
    ((others : List ℕ) × BeginsWithLines read lines others) ⊎ (AreLinesOf read lines × at_end)

-- the last of the lines, which are counted from 1, has this number, and this is wrong with it in this state
abbrev pub EndInFault : {S A R F : Type 0} → ScriptKind S A R F → S → List (List ℕ) → MalformedLine F → Type 0
EndInFault kind s lines malformed =
    (malformed.number ≡ length lines)
    × ((before : List (List ℕ)) × (line : List ℕ) × (lines ≡ before ++ line ∷ [])
    × IsFaultOf kind s line malformed.fault)

-- the status of a run: no refusal was written; or one was, and no line was malformed; or the last line was
-- malformed, with this fault in the state that it found, which is the last state
abbrev pub IsStatusOf : {S A R F : Type 0} → ScriptKind S A R F → S → List (List ℕ) → List (Given A R) → Closing
    → Status F → Type 0
IsStatusOf kind left lines given closing Done =
    (list_any (is_refused kind) given || closing.is_refused) ≡ false
IsStatusOf kind left lines given closing Refused =
    ((list_any (is_refused kind) given || closing.is_refused) ≡ true) × (list_any is_malformed given ≡ false)
IsStatusOf kind left lines given closing (statuses.Malformed malformed) =
    (list_any is_malformed given ≡ true) × EndInFault kind left lines malformed
