-- The values of words, by their kinds.
use Rattle.std.specs.Prelude.{◌≡◌, ℕ, Bool, List, [], ◌∷◌, Some}
use Rattle.txc_tags.specs.declared.key.TheConstants.{LAST_FUNCTION}
use Rattle.txc_tags.specs.declared.tag.TheConstants.{LAST_TABLE}
use Rattle.txc_tags.specs.declared.text.number.TheConstants.{LAST_NUMBER}
use Rattle.txc_tags.specs.Keys.{Call}
use Rattle.txc_tags.specs.declared.tag.Tag.{Tag}
use Rattle.txc_script.specs.Hex.{IsHexWord}
use Rattle.txc_script.specs.Lines.{IsKeyWord, IsNumberWord, IsStampWord, IsTagsWord, IsTextWord, change_named, query_named, still_text}
use Rattle.txc_script.specs.declared.line_fault.WordKind.{WordKind}
use Rattle.txc_script.specs.declared.line_fault.WordKind.TheVariants as kinds
use Rattle.txc_script.specs.declared.parsed_word.ChangeName.{ChangeName}
use Rattle.txc_script.specs.declared.parsed_word.QueryName.{QueryName}
use Rattle.txc_script.specs.declared.parsed_word.ParsedWord.{ParsedWord}
use Rattle.txc_script.specs.declared.parsed_word.ParsedWord.TheVariants as said

-- the type of the values of words of a kind
abbrev pub SaidOf : WordKind → Type 0
SaidOf kinds.Key = Call
SaidOf kinds.Reach = Bool
SaidOf kinds.Tags = List Tag
SaidOf kinds.Bytes = List ℕ
SaidOf (kinds.Text most) = List ℕ
SaidOf kinds.QueryName = QueryName
SaidOf kinds.ChangeName = ChangeName
SaidOf kind = ℕ

-- the word has this value
abbrev pub Means : (kind : WordKind) → List ℕ → SaidOf kind → Type 0
Means kinds.Key = IsKeyWord
Means kinds.Stamp = IsStampWord
Means kinds.Reach = λ word still. word ≡ still_text still
Means kinds.Tags = IsTagsWord
Means kinds.Bytes = IsHexWord
Means kinds.Table = IsNumberWord LAST_TABLE
Means kinds.Id = IsNumberWord LAST_NUMBER
Means kinds.Function = IsNumberWord LAST_FUNCTION
Means (kinds.Number most) = IsNumberWord most
Means (kinds.Text most) = λ word text. IsTextWord most text × (word ≡ text)
Means kinds.QueryName = λ word name. query_named word ≡ Some name
Means kinds.ChangeName = λ word name. change_named word ≡ Some name

-- the word is one of this kind
abbrev pub IsOfKind : WordKind → List ℕ → Type 0
IsOfKind kind word = (value : SaidOf kind) × Means kind word value

-- the word is of this kind, and a reader returns this
abbrev pub SaysWord : WordKind → List ℕ → ParsedWord → Type 0
SaysWord kinds.Key word (said.Key key) = IsKeyWord word key
SaysWord kinds.Stamp word (said.Stamp stamp) = IsStampWord word stamp
SaysWord kinds.Table word (said.Table table) = IsNumberWord LAST_TABLE word table
SaysWord kinds.Id word (said.Id id) = IsNumberWord LAST_NUMBER word id
SaysWord kinds.Function word (said.Function function) = IsNumberWord LAST_FUNCTION word function
SaysWord (kinds.Number most) word (said.Number number) = IsNumberWord most word number
SaysWord (kinds.Text most) word (said.Text text) = IsTextWord most text × (word ≡ text)
SaysWord kinds.QueryName word (said.Query name) = query_named word ≡ Some name
SaysWord kinds.ChangeName word (said.Change name) = change_named word ≡ Some name
SaysWord kinds.Reach word said.Other = IsOfKind kinds.Reach word
SaysWord kinds.Tags word said.Other = IsOfKind kinds.Tags word
SaysWord kinds.Bytes word said.Other = IsOfKind kinds.Bytes word
SaysWord kind word given = ⊥

-- each of the words is of its kind, and a reader returns these
abbrev pub SayAll : List WordKind → List (List ℕ) → List ParsedWord → Type 0
SayAll [] [] [] = Unit {0}
SayAll (kind ∷ kinds) (word ∷ words) (value ∷ values) = SaysWord kind word value × SayAll kinds words values
SayAll kinds words values = ⊥

-- the values of words of these kinds, in order
abbrev pub AllSaidOf : List WordKind → Type 0
AllSaidOf [] = Unit {0}
AllSaidOf (kind ∷ kinds) = SaidOf kind × AllSaidOf kinds

-- each of the words has its value
abbrev pub Mean : (kinds : List WordKind) → List (List ℕ) → AllSaidOf kinds → Type 0
Mean [] [] values = Unit {0}
Mean [] (word ∷ words) values = ⊥
Mean (kind ∷ kinds) [] values = ⊥
Mean (kind ∷ kinds) (word ∷ words) values = Means kind word values.0 × Mean kinds words values.1
