-- The fault of the words of a malformed line of a world's script.
use Rattle.std.specs.Prelude.{◌≡◌, ◌⊎◌, ℕ, List, ◌∷◌}
use Rattle.txc_script.specs.Excerpts.{excerpt_of}
use Rattle.txc_script.specs.declared.line_fault.CommandFault.TheVariants.{Unknown}
use Rattle.txc_script_lines.specs.declared.name.LineName.{LineName}
use Rattle.txc_script_lines.specs.Names.{name_text}
use Rattle.txc_script_lines.specs.Faults.{IsFaultAfter, WordsFault}

-- The fault of a line's words: the first is no line's name; else it is in the words after that name.
abbrev pub IsWorldFault : List (List ℕ) → WordsFault → Type 0
IsWorldFault all fault =
    ((word : List ℕ) × (words : List (List ℕ)) × (all ≡ word ∷ words)
    × ((name : LineName) → word ≡ name_text name → ⊥) × (fault ≡ Unknown (excerpt_of word)))
    ⊎ ((name : LineName) × (words : List (List ℕ)) × (all ≡ name_text name ∷ words) × IsFaultAfter name words fault)
