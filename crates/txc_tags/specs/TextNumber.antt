-- Numbers as texts: decimal digits, no leading zero except `0` itself.
use Rattle.std.specs.Prelude.{Option, None, Some, ℕ, ◌≤◌, ⊤, List, [], ◌∷◌}
use Rattle.std.specs.Fmt.{decimal}

-- the text of a number of which no digit, or some, have been read
abbrev pub digits_read : Option ℕ → List ℕ
digits_read None = []
digits_read (Some n) = decimal n

-- an ASCII digit
abbrev pub IsDigit : ℕ → Type 0
IsDigit b = (48 ≤ b) × (b ≤ 57)

-- nothing, or a text that begins with no digit
abbrev pub BeginsWithNoDigit : List ℕ → Type 0
BeginsWithNoDigit [] = ⊤
BeginsWithNoDigit (b ∷ rest) = IsDigit b → ⊥
