-- The text of a set of tags: `-` for none, or tags joined by commas, in any order, in either spelling and with
-- repeats.
use Rattle.std.specs.Prelude.{◌≡◌, ℕ, List, [], ◌∷◌, map, codes, All}
use Rattle.std.specs.List.{join_with_byte}
use Rattle.txc_tags.specs.declared.tag.Tag.{Tag}
use Rattle.txc_tags.specs.declared.text.set.SetError.{SetError}
use Rattle.txc_tags.specs.declared.text.set.SetError.TheVariants.{BadTag, Memory}
use Rattle.txc_tags.specs.Tags.{set_of}
use Rattle.txc_tags.specs.TextGrammar.{IsText, IsTextOf, IsLongestPrefix}
use Rattle.txc_tags.specs.TextTag.{tag_text, SpeltTag, spelt_text, IsTagInRange, IsSpeltInRange}

-- the text of tags in the order in which they are written
abbrev pub tags_text : List Tag → List ℕ
tags_text [] = codes "-"
tags_text (tag ∷ tags) = join_with_byte 44 (map tag_text (tag ∷ tags))

-- each tag is in range
abbrev pub AreTagsInRange : List Tag → Type 0
AreTagsInRange tags = All IsTagInRange tags

-- the text of tags in their order and spellings
abbrev pub spelt_tags_text : List SpeltTag → List ℕ
spelt_tags_text [] = codes "-"
spelt_tags_text (tag ∷ tags) = join_with_byte 44 (map spelt_text (tag ∷ tags))

-- each of them is in range
abbrev pub AreSpeltInRange : List SpeltTag → Type 0
AreSpeltInRange tags = All IsSpeltInRange tags

-- the tags, without their spelling
abbrev pub tags_spelt : List SpeltTag → List Tag
tags_spelt = map (λ s. s.tag)

-- the set that results from adding the tags of the text one after the other
abbrev pub IsSetOfText : List ℕ → List Tag → Type 0
IsSetOfText text set =
    (tags : List SpeltTag) × IsTextOf AreSpeltInRange spelt_tags_text text tags
    × (set ≡ set_of (tags_spelt tags))

-- a text outside the grammar fails at its longest prefix; only a text of the grammar can fail for memory
abbrev pub IsSetRefusal : List ℕ → SetError → Type 0
IsSetRefusal text (BadTag bad) = IsLongestPrefix AreSpeltInRange spelt_tags_text text bad.at
    × (IsText AreSpeltInRange spelt_tags_text text → ⊥)
IsSetRefusal text (Memory error) = IsText AreSpeltInRange spelt_tags_text text
