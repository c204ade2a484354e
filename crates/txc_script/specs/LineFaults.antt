-- The faults of words, and of the words of a line.
use Rattle.std.specs.Prelude.{◌≡◌, ◌≢◌, ◌⊎◌, ◌==◌, ◌+◌, ℕ, Bool, true, false, List, [], ◌∷◌, ◌++◌, Option, Some, None, Result, Ok, Err, ⊤, length, nat_lt, ◌||◌}
use Rattle.std.specs.List.{list_any}
use Rattle.txc_tags.specs.TextGrammar.{IsLongestPrefix}
use Rattle.txc_tags.specs.TextKey.{key_text, IsKeyInRange}
use Rattle.txc_tags.specs.TextSet.{AreSpeltInRange, spelt_tags_text}
use Rattle.txc_script.specs.Excerpts.{excerpt_of}
use Rattle.txc_script.specs.LineForms.{LineForm, form_named}
use Rattle.txc_script.specs.Lines.{IsPlain}
use Rattle.txc_script.specs.ParsedWords.{IsOfKind, Means, SaysWord}
use Rattle.txc_script.specs.Words.{words_of}
use Rattle.txc_script.specs.declared.line_fault.WordKind.{WordKind}
use Rattle.txc_script.specs.declared.line_fault.WordKind.TheVariants.{Key, Tags, Bytes}
use Rattle.txc_script.specs.declared.line_fault.WordFault.{WordFault}
use Rattle.txc_script.specs.declared.line_fault.CommandFault.{CommandFault}
use Rattle.txc_script.specs.declared.line_fault.CommandFault.TheVariants.{Unknown, Count, Word}
use Rattle.txc_script.specs.declared.parsed_word.ParsedWord.{ParsedWord}
use Rattle.txc_script.specs.declared.unread.LineError.{LineError}
use Rattle.txc_script.specs.declared.unread.LineError.TheVariants.{Wrong, Memory}
use Rattle.txc_script.specs.declared.unread.WordError.{WordError}
use Rattle.txc_script.specs.declared.unread.WordError.TheVariants as unsaid

-- ---- words

-- each of the words is of its kind
abbrev pub AreOfKinds : List WordKind → List (List ℕ) → Type 0
AreOfKinds [] [] = Unit {0}
AreOfKinds [] (word ∷ words) = ⊥
AreOfKinds (kind ∷ kinds) [] = ⊥
AreOfKinds (kind ∷ kinds) (word ∷ words) = IsOfKind kind word × AreOfKinds kinds words

-- the kinds of a list of words: these, and then the other one
abbrev pub kinds_for : List WordKind → WordKind → List (List ℕ) → List WordKind
kinds_for kinds other [] = []
kinds_for [] other (word ∷ words) = other ∷ kinds_for [] other words
kinds_for (kind ∷ kinds) other (word ∷ words) = kind ∷ kinds_for kinds other words

-- the place of the first fault in a key or in tags: the length of the longest prefix of the word with which a
-- key's text, or a text of tags, begins
abbrev pub StopsAt : WordKind → List ℕ → Option ℕ → Type 0
StopsAt Key word at = (n : ℕ) × (at ≡ Some n) × IsLongestPrefix IsKeyInRange key_text word n
StopsAt Tags word at = (n : ℕ) × (at ≡ Some n) × IsLongestPrefix AreSpeltInRange spelt_tags_text word n
StopsAt kind word at = at ≡ None

-- the first word that is not of its kind: each before it is of its own
pub record IsBadWord (kinds : List WordKind) (words : List (List ℕ)) (fault : WordFault) : Type 0 where
  pub good_kinds : List WordKind
  pub good : List (List ℕ)
  pub word : List ℕ
  pub other_kinds : List WordKind
  pub others : List (List ℕ)
  pub kinds_are : kinds ≡ good_kinds ++ fault.kind ∷ other_kinds
  pub words_are : words ≡ good ++ word ∷ others
  pub are_good : AreOfKinds good_kinds good
  pub is_bad : IsOfKind fault.kind word → ⊥
  pub number : fault.number ≡ length good + 1
  pub text : fault.text ≡ excerpt_of word
  pub stops : StopsAt fault.kind word fault.at

-- reading a word of this kind allocates
abbrev pub takes_memory : WordKind → Bool
takes_memory Tags = true
takes_memory Bytes = true
takes_memory kind = false

-- ---- lines

-- a byte that no line may have
abbrev pub is_foreign : ℕ → Bool
is_foreign b = nat_lt b 32 || nat_lt 126 b

abbrev pub is_empty : List ℕ → Bool
is_empty word = length word == 0

-- the line has only permitted bytes and no empty word: no blank at either end, and no two together
pub record HasWholeWords (line : List ℕ) : Type 0 where
  pub plain : IsPlain line
  pub none_empty : list_any is_empty (words_of line) ≡ false

-- ---- commands

-- the fault of words that must have these kinds: their number is another; else one is not of its kind
abbrev pub IsKindsFault : {F : Type 0} → List WordKind → List (List ℕ) → CommandFault F → Type 0
IsKindsFault kinds words (Count wanted given) =
    (wanted ≡ length kinds) × (given ≡ length words) × (given ≢ wanted)
IsKindsFault kinds words (Word fault) = (length words ≡ length kinds) × IsBadWord kinds words fault
IsKindsFault kinds words fault = ⊥

-- The fault of a line's words by a table of forms: no form has its name; else the fault is in the words after
-- the name.
abbrev pub IsCommandFault : {A F : Type 0} → List (LineForm A) → List (List ℕ) → CommandFault F → Type 0
IsCommandFault {A} {F} forms all fault =
    ((name : List ℕ) × (words : List (List ℕ)) × (all ≡ name ∷ words) × (form_named forms name ≡ None)
    × (fault ≡ Unknown (excerpt_of name)))
    ⊎ ((form : LineForm A) × (words : List (List ℕ)) × (all ≡ form.name ∷ words)
    × (form_named forms form.name ≡ Some form) × IsKindsFault form.kinds words fault)

-- the fault is one of these, or there is no memory
abbrev pub IsWrong : {F : Type 0} → (CommandFault F → Type 0) → LineError F → Type 0
IsWrong Is (Wrong fault) = Is fault
IsWrong Is Memory = ⊤

-- ---- only private functions need this

-- no such value exists, and this is the place of the fault; or there is no memory
abbrev pub SaysNone : {V : Type 0} → (V → Type 0) → (Option ℕ → Type 0) → WordError → Type 0
SaysNone {V} Is Stops (unsaid.Bad at) = ((v : V) × Is v → ⊥) × Stops at
SaysNone Is Stops unsaid.Memory = ⊤

-- the word is not of this kind, and this is the place of its fault; or there is no memory
abbrev pub IsUnsaid : WordKind → List ℕ → WordError → Type 0
IsUnsaid kind word = SaysNone (Means kind word) (StopsAt kind word)

-- the word is of this kind, and a reader returns this; or it is not
abbrev pub IsWordRead : WordKind → List ℕ → Result ParsedWord WordError → Type 0
IsWordRead kind word (Ok given) = SaysWord kind word given
IsWordRead kind word (Err reason) = IsUnsaid kind word reason
