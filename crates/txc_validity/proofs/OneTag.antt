-- A set of one tag.
use Rattle.std.proofs.Common.{◌≡◌, ℕ, [], ◌∷◌, refl}
use Rattle.txc_tags.specs.declared.tag.Tag.{Tag}
use Rattle.txc_tags.specs.declared.tag.Rows.{Rows}
use Rattle.txc_tags.specs.declared.tag.Rows.TheVariants.{All, Id, Group}
use Rattle.txc_tags.specs.Tags.{with_tag}

pub with_tag-empty : (tag : Tag) → with_tag tag [] ≡ tag ∷ []
with_tag-empty tag = of_rows tag.table tag.rows
  where
    of_rows : (table : ℕ) (rows : Rows) → with_tag (record { table = table; rows = rows }) [] ≡ record { table = table; rows = rows } ∷ []
    of_rows table All = refl
    of_rows table (Id id) = refl
    of_rows table (Group group) = refl
