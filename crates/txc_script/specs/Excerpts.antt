-- The part of a text that an error message shows.
use Rattle.std.specs.Prelude.{ℕ, List, length, take}
use Rattle.txc_script.specs.declared.excerpt.TheConstants.{MAX_SHOWN}

-- the beginning of a text, and the number of its bytes
pub record ExcerptValue : Type 0 where
  pub start : List ℕ
  pub len : ℕ

-- the excerpt of a text
abbrev pub excerpt_of : List ℕ → ExcerptValue
excerpt_of text = record { start = take MAX_SHOWN text; len = length text }
