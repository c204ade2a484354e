-- Bytes as hexadecimal digits.
use Rattle.std.specs.Prelude.{ℕ, ◌<◌, List}
use Rattle.std.specs.List.{All}
use Rattle.txc_tags.specs.TextGrammar.{IsTextOf}
use Rattle.txc_node.specs.Texts.{hex_text}

-- each is below 256
abbrev pub IsBytes : List ℕ → Type 0
IsBytes value = All (λ b. b < 256) value

-- the text of bytes: a dash, or two hexadecimal digits for each
abbrev pub IsHexWord : List ℕ → List ℕ → Type 0
IsHexWord word value = IsTextOf IsBytes hex_text word value
