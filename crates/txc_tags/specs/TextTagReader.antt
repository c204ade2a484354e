-- Only proofs need this file: the pieces of a tag's text, as the readers see them.
use Rattle.std.specs.Prelude.{ℕ, List}
use Rattle.txc_tags.specs.declared.text.tag.Spelling.{Spelling}
use Rattle.txc_tags.specs.TextGrammar.{IsText}
use Rattle.txc_tags.specs.TextTag.{rows_text, spelled, AreRowsInRange, IsTagInRange}

-- rows in that spelling
abbrev pub IsRows : Spelling → List ℕ → Type 0
IsRows spelling = IsText AreRowsInRange (rows_text spelling)

-- a tag in that spelling
abbrev pub IsSpelled : Spelling → List ℕ → Type 0
IsSpelled spelling = IsText IsTagInRange (spelled spelling)
