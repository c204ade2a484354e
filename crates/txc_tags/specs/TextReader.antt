-- Only proofs need this file: results of the readers of a piece of text. A language is a set of texts.
use Rattle.std.specs.Prelude.{◌≡◌, ◌+◌, ◌≤◌, ◌⊎◌, ℕ, List, [], ◌∷◌, ◌++◌, length, All}
use Rattle.std.specs.List.{flat_map}
use Rattle.std.specs.Fmt.{decimal}
use Rattle.txc_tags.specs.TextGrammar.{IsText}

-- the one text of a word
abbrev pub IsWord : List ℕ → List ℕ → Type 0
IsWord word text = text ≡ word

-- a text of a number of at most `most`
abbrev pub IsNumber : ℕ → List ℕ → Type 0
IsNumber most = IsText (λ n. n ≤ most) decimal

-- a text of the first language, and then one of the second
abbrev pub Then : (List ℕ → Type 0) → (List ℕ → Type 0) → List ℕ → Type 0
Then First Second text = (x y : List ℕ) × First x × Second y × (text ≡ x ++ y)

-- the word and a number of at most `most`
abbrev pub IsNumbered : List ℕ → ℕ → List ℕ → Type 0
IsNumbered word most = Then (IsWord word) (IsNumber most)

-- a text of either language
abbrev pub Either : (List ℕ → Type 0) → (List ℕ → Type 0) → List ℕ → Type 0
Either First Second text = First text ⊎ Second text

-- the text after k items of a joined list: an end, or a comma and further items
abbrev pub IsMore : {V : Type 0} → (V → Type 0) → (V → List ℕ) → List ℕ → (ℕ → Type 0) → ℕ → List ℕ → Type 0
IsMore {V} Allowed write end Few k text = (items : List V) × All Allowed items × Few (k + length items)
    × (text ≡ flat_map (λ item. 44 ∷ write item) items ++ end)

-- an item after k others, and the text after it
abbrev pub IsJoined : {V : Type 0} → (V → Type 0) → (V → List ℕ) → List ℕ → (ℕ → Type 0) → ℕ → List ℕ → Type 0
IsJoined Allowed write end Few k = Then (IsText Allowed write) (IsMore Allowed write end Few (k + 1))

-- no text of the language continues the read bytes with the next byte
abbrev pub NoneGoesOn : (List ℕ → Type 0) → List ℕ → List ℕ → Type 0
NoneGoesOn Language read rest =
    (byte : ℕ) (others more : List ℕ) → rest ≡ byte ∷ others → Language (read ++ byte ∷ more) → ⊥

-- the text is a piece of the language and a rest, and no text of the language begins with more of it
pub record Reads (Language : List ℕ → Type 0) (text piece rest : List ℕ) : Type 0 where
  pub whole : Language piece
  pub parts : text ≡ piece ++ rest
  pub no_more : NoneGoesOn Language piece rest

-- the text before the rest is the longest prefix of the text that begins a text of the language
pub record Stops (Language : List ℕ → Type 0) (text rest : List ℕ) : Type 0 where
  pub read : List ℕ
  pub parts : text ≡ read ++ rest
  pub begins : (more : List ℕ) × Language (read ++ more)
  pub no_more : NoneGoesOn Language read rest

-- and that prefix is no text of the language
pub record GoesWrong (Language : List ℕ → Type 0) (text rest : List ℕ) : Type 0 where
  pub stops : Stops Language text rest
  pub open_end : Language stops.read → ⊥

-- and the whole text is not of the language
pub record IsRefused (Language : List ℕ → Type 0) (text rest : List ℕ) : Type 0 where
  pub stops : Stops Language text rest
  pub none : Language text → ⊥

-- items were read, each with a comma after it; if the rest is rejected, the text is
pub record HasRead {V : Type 0} (Allowed : V → Type 0) (write : V → List ℕ) (end : List ℕ)
    (Few : ℕ → Type 0) (text rest : List ℕ) (items : List V) : Type 0 where
  pub all : All Allowed items
  pub parts : text ≡ flat_map (λ item. write item ++ 44 ∷ []) items ++ rest
  pub refused : (last : List ℕ) → IsRefused (IsJoined Allowed write end Few (length items)) rest last
      → IsRefused (IsJoined Allowed write end Few 0) text last
