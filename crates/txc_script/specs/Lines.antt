-- The text of a line, and of several kinds of words.
use Rattle.std.specs.Prelude.{◌≡◌, ℕ, ◌≤◌, Bool, true, false, List, [], ◌∷◌, Option, Some, None, if◌then◌else◌, length, codes}
use Rattle.std.specs.Str.{bytes_eq}
use Rattle.std.specs.List.{All, AllByRecursion}
use Rattle.std.specs.Fmt.{decimal}
use Rattle.txc_stamp.specs.declared.stamp.TheConstants.{LAST_STAMP}
use Rattle.txc_tags.specs.declared.tag.Tag.{Tag}
use Rattle.txc_tags.specs.Keys.{Call}
use Rattle.txc_tags.specs.TextGrammar.{IsTextOf}
use Rattle.txc_tags.specs.TextKey.{key_text, IsKeyInRange}
use Rattle.txc_tags.specs.TextSet.{IsSetOfText}
use Rattle.txc_script.specs.declared.line.TheConstants.{MAX_LINE_LEN}
use Rattle.txc_script.specs.declared.parsed_word.QueryName.{QueryName}
use Rattle.txc_script.specs.declared.parsed_word.QueryName.TheVariants as queries
use Rattle.txc_script.specs.declared.parsed_word.ChangeName.{ChangeName}
use Rattle.txc_script.specs.declared.parsed_word.ChangeName.TheVariants as changes

-- ---- words

-- the text of a key
abbrev pub IsKeyWord : List ℕ → Call → Type 0
IsKeyWord word key = IsTextOf IsKeyInRange key_text word key

-- a stamp is a number of at most the last one
abbrev pub IsStampWord : List ℕ → ℕ → Type 0
IsStampWord word stamp = IsTextOf (λ n. n ≤ LAST_STAMP) decimal word stamp

-- the decimal text of a number up to this limit
abbrev pub IsNumberWord : ℕ → List ℕ → ℕ → Type 0
IsNumberWord most word number = IsTextOf (λ n. n ≤ most) decimal word number

-- at least one byte and at most `limit`, each printable and not a blank
pub record IsTextWord (limit : ℕ) (word : List ℕ) : Type 0 where
  pub some : 1 ≤ length word
  pub most : length word ≤ limit
  pub each : AllByRecursion (λ byte. (33 ≤ byte) × (byte ≤ 126)) word

abbrev pub query_text : QueryName → List ℕ
query_text queries.ById = codes "by-id"
query_text queries.ByGroup = codes "by-group"
query_text queries.All = codes "all"
query_text queries.Range = codes "range"

-- the name of a query that the word is
abbrev pub query_named : List ℕ → Option QueryName
query_named word =
    if bytes_eq word (query_text queries.ById) then Some queries.ById
    else (if bytes_eq word (query_text queries.ByGroup) then Some queries.ByGroup
    else (if bytes_eq word (query_text queries.All) then Some queries.All
    else (if bytes_eq word (query_text queries.Range) then Some queries.Range else None)))

abbrev pub change_text : ChangeName → List ℕ
change_text changes.Put = codes "put"
change_text changes.Remove = codes "remove"

-- the name of a change that the word is
abbrev pub change_named : List ℕ → Option ChangeName
change_named word =
    if bytes_eq word (change_text changes.Put) then Some changes.Put
    else (if bytes_eq word (change_text changes.Remove) then Some changes.Remove else None)

-- tags in any order, also repeated; the set is the result of adding them one after the other
abbrev pub IsTagsWord : List ℕ → List Tag → Type 0
IsTagsWord word tags = IsSetOfText word tags

-- the word for a reach that is still valid, or is not
abbrev pub still_text : Bool → List ℕ
still_text true = codes "still"
still_text false = codes "closed"

-- ---- lines

-- a script may have each of these bytes
abbrev pub ArePlain : List ℕ → Type 0
ArePlain bytes = All (λ b. (32 ≤ b) × (b ≤ 126)) bytes

-- few bytes, each from 0x20 to 0x7E
pub record IsPlain (line : List ℕ) : Type 0 where
  pub few : length line ≤ MAX_LINE_LEN
  pub bytes : ArePlain line

-- empty, or a comment, which begins with `#`
abbrev pub IsBlankOrComment : List ℕ → Type 0
IsBlankOrComment [] = Unit {0}
IsBlankOrComment (b ∷ bytes) = b ≡ 35

-- a line that has no reply
abbrev pub IsQuiet : List ℕ → Type 0
IsQuiet line = IsPlain line × IsBlankOrComment line
