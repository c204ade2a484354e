-- Tags, their matches and covers, and the sets of them, with at most sixteen of each table.
use Rattle.std.specs.Prelude.{◌≡◌, ℕ, ◌≤◌, Bool, true, false, ◌&&◌, ◌||◌, ◌==◌, nat_le, nat_lt, List, [], ◌∷◌, ◌++◌, filter, count_by, if◌then◌else◌}
use Rattle.std.specs.List.{list_any, list_all}
use Rattle.txc_tags.specs.declared.tag.Rows.{Rows}
use Rattle.txc_tags.specs.declared.tag.Rows.TheVariants.{All, Id, Group}
use Rattle.txc_tags.specs.declared.tag.Tag.{Tag}
use Rattle.txc_tags.specs.declared.adding.TheConstants.{MAX_TAGS}

-- every row of the table
abbrev pub wildcard : ℕ → Tag
wildcard table = record { table = table; rows = All }

-- the row of the table with that id
abbrev pub id_tag : ℕ → ℕ → Tag
id_tag table id = record { table = table; rows = Id id }

-- the rows of that group of the table
abbrev pub group_tag : ℕ → ℕ → Tag
group_tag table group = record { table = table; rows = Group group }

-- every row
abbrev pub are_all : Rows → Bool
are_all All = true
are_all (Id id) = false
are_all (Group group) = false

-- the tag names every row of its table
abbrev pub is_wildcard : Tag → Bool
is_wildcard tag = are_all tag.rows

-- the rows are named alike
abbrev pub same_rows : Rows → Rows → Bool
same_rows All All = true
same_rows (Id n) (Id m) = n == m
same_rows (Group n) (Group m) = n == m
same_rows rows others = false

-- the tags are equal
abbrev pub same_tag : Tag → Tag → Bool
same_tag a b = a.table == b.table && same_rows a.rows b.rows

-- ---- matching

-- either is every row, or they are named alike
abbrev pub rows_match : Rows → Rows → Bool
rows_match rows others = are_all rows || (are_all others || same_rows rows others)

-- two tags match if the tables are equal and one of them is the wildcard or they are equal
abbrev pub tags_match : Tag → Tag → Bool
tags_match a b = a.table == b.table && rows_match a.rows b.rows

-- two sets match if a tag of one matches a tag of the other
abbrev pub sets_match : List Tag → List Tag → Bool
sets_match xs ys = list_any (λ x. list_any (tags_match x) ys) xs

-- ---- covering

-- the set holds the tag
abbrev pub has_tag : List Tag → Tag → Bool
has_tag set tag = list_any (same_tag tag) set

-- the set holds the tag or the wildcard of its table
abbrev pub covers : List Tag → Tag → Bool
covers set tag = has_tag set tag || has_tag set (wildcard tag.table)

-- ---- the order of a set

-- every row, then the ids by number, then the groups by number
abbrev pub rows_before : Rows → Rows → Bool
rows_before rows All = false
rows_before All others = true
rows_before (Id n) (Id m) = nat_lt n m
rows_before (Id n) (Group m) = true
rows_before (Group n) (Id m) = false
rows_before (Group n) (Group m) = nat_lt n m

-- by table, and in a table by the rows
abbrev pub tag_before : Tag → Tag → Bool
tag_before a b = nat_lt a.table b.table || (a.table == b.table && rows_before a.rows b.rows)

-- each tag comes before all those after it, and so occurs once
abbrev pub is_in_order : List Tag → Bool
is_in_order [] = true
is_in_order (x ∷ xs) = list_all (tag_before x) xs && is_in_order xs

-- the tag is of the table
abbrev pub is_of : ℕ → Tag → Bool
is_of table tag = tag.table == table

-- the canonical list of a set: in order, only the wildcard if it is in the table, and at most sixteen tags of
-- each table
pub record IsCanonical (set : List Tag) : Type 0 where
  pub in_order : is_in_order set ≡ true
  pub alone : (tag : Tag) → has_tag set tag ≡ true → has_tag set (wildcard tag.table) ≡ true
      → is_wildcard tag ≡ true
  pub few : (table : ℕ) → count_by (is_of table) set ≤ MAX_TAGS

-- ---- adding

-- the tag at its place
abbrev pub put_in : Tag → List Tag → List Tag
put_in tag set = filter (λ x. tag_before x tag) set ++ tag ∷ filter (tag_before tag) set

-- the set with the table's tags replaced by its wildcard
abbrev pub wildcarded : ℕ → List Tag → List Tag
wildcarded table set =
    filter (λ x. nat_lt x.table table) set ++ wildcard table ∷ filter (λ x. nat_lt table x.table) set

-- the set holds as many tags of the table as it may
abbrev pub is_full : ℕ → List Tag → Bool
is_full table set = nat_le MAX_TAGS (count_by (is_of table) set)

-- the set with one more tag: a wildcard, and a seventeenth tag of its table, makes the wildcard of them
abbrev pub with_tag : Tag → List Tag → List Tag
with_tag tag set =
    if covers set tag then set
    else (if is_wildcard tag || is_full tag.table set then wildcarded tag.table set
    else put_in tag set)

-- the set with all of these, one after the other
abbrev pub with_tags : List Tag → List Tag → List Tag
with_tags [] set = set
with_tags (tag ∷ tags) set = with_tags tags (with_tag tag set)

-- the set of these tags
abbrev pub set_of : List Tag → List Tag
set_of tags = with_tags tags []

-- ---- the meaning of a set

-- each tag once: the last of those that are equal
abbrev pub different : List Tag → List Tag
different [] = []
different (tag ∷ tags) = if has_tag tags tag then different tags else tag ∷ different tags

-- the list has the wildcard of the table, or more than sixteen different tags of it
abbrev pub overflows : ℕ → List Tag → Bool
overflows table tags =
    has_tag tags (wildcard table) || nat_lt MAX_TAGS (count_by (is_of table) (different tags))

-- if the list overflows, the set has only the table's wildcard; otherwise it has exactly the list's tags
pub record KeepsSixteen (table : ℕ) (tags set : List Tag) : Type 0 where
  pub wild : overflows table tags ≡ true → filter (is_of table) set ≡ wildcard table ∷ []
  pub kept : overflows table tags ≡ false
      → (tag : Tag) → is_of table tag ≡ true → has_tag set tag ≡ has_tag tags tag
