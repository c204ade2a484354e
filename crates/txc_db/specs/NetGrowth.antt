-- Net changes and their tags after one change more.
use Rattle.std.specs.Prelude.{◌≡◌, List, [], ◌∷◌, ◌++◌, filter}
use Rattle.std.specs.List.{flat_map}
use Rattle.txc_tags.specs.declared.tag.Tag.{Tag}
use Rattle.txc_tags.specs.Tags.{with_tags}
use Rattle.txc_rows.specs.declared.query.Change.{Change}
use Rattle.txc_rows.specs.declared.query.Query.TheVariants.{ById}
use Rattle.txc_rows.specs.States.{RowValue, State, answer}
use Rattle.txc_rows.specs.RowTags.{tags_of_row}
use Rattle.txc_rows.specs.Net.{change_table, change_id, changes_state}

-- the rows of the state that the changes find
abbrev pub found_rows : State → List Change → List RowValue
found_rows s net = flat_map (λ c. answer (ById (change_table c) (change_id c)) s) net

-- the change is added if it makes another state, and with it the tags of the rows that it replaces
pub record IsNetWith (s : State) (c : Change) (old new : List Change) (was is : List Tag) : Type 0 where
  pub net : new ≡ old ++ filter (changes_state s) (c ∷ [])
  pub tags : is ≡ with_tags (flat_map tags_of_row (found_rows s (filter (changes_state s) (c ∷ [])))) was
