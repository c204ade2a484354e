-- The tags of queries and of changed rows.
use Rattle.std.specs.Prelude.{Bool, not, List, [], ◌∷◌, ◌++◌, filter}
use Rattle.std.specs.List.{list_any, flat_map}
use Rattle.txc_tags.specs.declared.tag.Tag.{Tag}
use Rattle.txc_tags.specs.Tags.{wildcard, id_tag, group_tag, covers, set_of}
use Rattle.txc_rows.specs.declared.query.Query.{Query}
use Rattle.txc_rows.specs.declared.query.Query.TheVariants.{ById, ByGroup, All, Range}
use Rattle.txc_rows.specs.Values.{same_row}
use Rattle.txc_rows.specs.States.{RowValue, State}

-- the one tag of a query
abbrev pub query_tag : Query → Tag
query_tag (ById table id) = id_tag table id
query_tag (ByGroup table group) = group_tag table group
query_tag (All table) = wildcard table
query_tag (Range table first last) = wildcard table

-- a set covers a query if it covers its tag
abbrev pub covers_query : List Tag → Query → Bool
covers_query set q = covers set (query_tag q)

-- the state has the row
abbrev pub has_row : State → RowValue → Bool
has_row s r = list_any (same_row r) s

-- the rows that the other state has not
abbrev pub lost : State → State → State
lost old new = filter (λ r. not (has_row new r)) old

-- its id's tag and its group's
abbrev pub tags_of_row : RowValue → List Tag
tags_of_row r = id_tag r.table r.id ∷ group_tag r.table r.group ∷ []

-- for each table and id at which two states differ its id's tag and the tags of its old and its new group, as
-- one set
abbrev pub tags_between : State → State → List Tag
tags_between old new = set_of (flat_map tags_of_row (lost old new ++ lost new old))
