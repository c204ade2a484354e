-- The lines of a script.
use Rattle.std.specs.Prelude.{◌≡◌, ◌≢◌, ℕ, List, [], ◌∷◌, ◌++◌}
use Rattle.std.specs.List.{All, flat_map}

-- a line with its line feed after it
abbrev pub ended : List ℕ → List ℕ
ended line = line ++ 10 ∷ []

-- the bytes have no line feed
abbrev pub HasNoEnd : List ℕ → Type 0
HasNoEnd bytes = All (λ b. b ≢ 10) bytes

-- the bytes are these lines, each with its line feed after it, and then others
pub record BeginsWithLines (bytes : List ℕ) (lines : List (List ℕ)) (others : List ℕ) : Type 0 where
  pub joined : bytes ≡ flat_map ended lines ++ others
  pub each_is_one : All HasNoEnd lines

-- the bytes after the last line feed are a line too, if there are any
abbrev pub last_line : List ℕ → List (List ℕ)
last_line [] = []
last_line (b ∷ bytes) = (b ∷ bytes) ∷ []

-- the lines of a whole script, of which the last may lack its line feed
abbrev pub AreLinesOf : List ℕ → List (List ℕ) → Type 0
AreLinesOf script lines =
    (whole : List (List ℕ)) × (left : List ℕ)
    × BeginsWithLines script whole left × HasNoEnd left × (lines ≡ whole ++ last_line left)
