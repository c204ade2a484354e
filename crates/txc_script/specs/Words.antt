-- The words of a line.
use Rattle.std.specs.Prelude.{◌≡◌, ◌≢◌, ◌==◌, ℕ, Bool, List, take}
use Rattle.std.specs.List.{All, join_with_byte, slice_split}
use Rattle.txc_script.specs.declared.words.WordsLeft.{WordsLeft}

-- the bytes have no blank
abbrev pub HasNoBlank : List ℕ → Type 0
HasNoBlank bytes = All (λ b. b ≢ 32) bytes

-- the line is these words, with one blank between each two; no word has a blank
pub record HasWords (line : List ℕ) (words : List (List ℕ)) : Type 0 where
  pub joined : line ≡ join_with_byte 32 words
  pub each_is_one : All HasNoBlank words

-- ---- only private functions need these: words that are taken one after the other

-- the byte is a blank
abbrev pub is_blank : ℕ → Bool
is_blank b = b == 32

-- the words of a text: the bytes between its blanks
abbrev pub words_of : List ℕ → List (List ℕ)
words_of text = slice_split is_blank text

-- the words that were not taken yet
abbrev pub words_left : WordsLeft → List (List ℕ)
words_left words = take words.count (words_of words.rest.now)
