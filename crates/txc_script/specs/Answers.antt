-- The effect of a line, and of the end of the script, in any kind of script.
use Rattle.std.specs.Prelude.{◌≡◌, ◌⊎◌, ℕ, Bool, false, List, ◌++◌}
use Rattle.std.specs.List.{list_any}
use Rattle.txc_script.specs.Kinds.{ScriptKind, Given, is_malformed}
use Rattle.txc_script.specs.Words.{words_of}
use Rattle.txc_script.specs.declared.unread.LineError.{LineError}
use Rattle.txc_script.specs.declared.unread.LineError.TheVariants.{Wrong, Memory}

-- the line asks for something, which was done, and what is written of its reply was put after the text
pub record LineIsAnswered {S A R F : Type 0} (kind : ScriptKind S A R F) (s : S) (line : List ℕ) (end : S)
    (old new : List ℕ) (refused : Bool) : Type 0 where
  pub asked : A
  pub reply : R
  pub asks : kind.asks s line asked
  pub does : kind.does s asked reply end
  pub text : new ≡ old ++ kind.text reply
  pub is_refused : refused ≡ kind.is_refused reply

-- the line has this fault in its words, and nothing changed; or there is no memory, before the line's step or
-- during it
abbrev pub IsUnanswered : {S A R F : Type 0} → ScriptKind S A R F → S → List ℕ → S → LineError F → Type 0
IsUnanswered {S} {A} {R} {F} kind s line end (Wrong fault) =
    ((asked : A) → kind.asks s line asked → ⊥) × (end ≡ s) × kind.is_wrong s (words_of line) fault
IsUnanswered kind s line end Memory = (end ≡ s) ⊎ kind.breaks_off s line end

-- the steps at the end of the script were done after lines that left this state, whatever the lines gave, and
-- their text was appended
pub record IsClosed {S A R F : Type 0} (kind : ScriptKind S A R F) (s end : S) (old new : List ℕ) (refused : Bool)
    : Type 0 where
  pub more : List ℕ
  pub text : new ≡ old ++ more
  pub closes : (given : List (Given A R)) → list_any is_malformed given ≡ false
      → kind.closes s given (record { text = more; is_refused = refused }) end
