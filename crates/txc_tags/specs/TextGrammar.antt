-- Texts of a grammar, and prefixes of them. A grammar is given by its printer: its texts are the outputs of
-- `write` for the values that are `Allowed`.
use Rattle.std.specs.Prelude.{◌≡◌, ℕ, ◌<◌, ◌≤◌, List, ◌++◌, length, take}

-- the text is that of an allowed value
abbrev pub IsTextOf : {V : Type 0} → (V → Type 0) → (V → List ℕ) → List ℕ → V → Type 0
IsTextOf Allowed write text v = Allowed v × (text ≡ write v)

-- the text is a text of the grammar
abbrev pub IsText : {V : Type 0} → (V → Type 0) → (V → List ℕ) → List ℕ → Type 0
IsText {V} Allowed write text = (v : V) × IsTextOf Allowed write text v

-- the text is a prefix of some text of the grammar
abbrev pub IsPrefix : {V : Type 0} → (V → Type 0) → (V → List ℕ) → List ℕ → Type 0
IsPrefix Allowed write text = (rest : List ℕ) × IsText Allowed write (text ++ rest)

-- n is the length of the longest prefix of the text that is also a prefix of some text of the grammar
pub record IsLongestPrefix {V : Type 0} (Allowed : V → Type 0) (write : V → List ℕ) (text : List ℕ)
    (n : ℕ) : Type 0 where
  pub within : n ≤ length text
  pub is_prefix : IsPrefix Allowed write (take n text)
  pub no_longer : (k : ℕ) → n < k → k ≤ length text → IsPrefix Allowed write (take k text) → ⊥
