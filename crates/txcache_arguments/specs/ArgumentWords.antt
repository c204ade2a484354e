-- The arguments of a process as words.
use Rattle.std.specs.Prelude.{◌≡◌, ◌<◌, ⊤, ℕ, List, ◌∷◌, codes}
use Rattle.std.specs.Str.{IsUtf8}
use Rattle.std.specs.Str.Lossy.{utf8_valid_len}
use Rattle.txcache_arguments.specs.declared.words.NotText.{NotText}
use Rattle.txcache_arguments.specs.declared.words.WordsError.{WordsError}
use Rattle.txcache_arguments.specs.declared.words.WordsError.TheVariants as reasons

-- the bytes are not UTF-8, and the longest prefix of them that is has this length
pub record HasNoText (fault : NotText) : Type 0 where
  pub bad : IsUtf8 fault.bytes.items → ⊥
  pub at : fault.at ≡ utf8_valid_len fault.bytes.items

-- an argument after the program's name is not UTF-8; or there is no memory
abbrev pub IsNoText : WordsError → Type 0
IsNoText (reasons.NotText fault) = HasNoText fault × (0 < fault.number)
IsNoText reasons.Memory = ⊤

-- the first of the words is the name of the program
abbrev pub BeginWithName : List (List ℕ) → Type 0
BeginWithName words = (others : List (List ℕ)) × (words ≡ codes "txcache" ∷ others)

-- ---- only private functions need this

-- the argument of this number has these bytes, and is no text
pub record IsNotTextAt (number : ℕ) (bytes : List ℕ) (fault : NotText) : Type 0 where
  pub numbered : fault.number ≡ number
  pub has : fault.bytes.items ≡ bytes
  pub none : HasNoText fault
