-- The text of a tag: `t`, the table's number, `:`, and then `?`, or `id=` or `grp=` and a number. Or the
-- table's number, `/`, and then `?`, or `id/` or `grp/` and a number, which is read and never written.
use Rattle.std.specs.Prelude.{ℕ, ◌≤◌, ⊤, List, [], ◌++◌, codes}
use Rattle.std.specs.Fmt.{decimal}
use Rattle.txc_tags.specs.declared.tag.Rows.{Rows}
use Rattle.txc_tags.specs.declared.tag.Rows.TheVariants.{All, Id, Group}
use Rattle.txc_tags.specs.declared.tag.Tag.{Tag}
use Rattle.txc_tags.specs.declared.tag.TheConstants.{LAST_TABLE}
use Rattle.txc_tags.specs.declared.text.tag.Spelling.{Spelling}
use Rattle.txc_tags.specs.declared.text.tag.Spelling.TheVariants.{Usual, Slashed}
use Rattle.txc_tags.specs.declared.text.number.TheConstants.{LAST_NUMBER}
use Rattle.txc_tags.specs.TextGrammar.{IsTextOf}

-- the text before the table's number
abbrev pub opening : Spelling → List ℕ
opening Usual = codes "t"
opening Slashed = []

-- the text after it: for every row
abbrev pub all_word : Spelling → List ℕ
all_word Usual = codes ":?"
all_word Slashed = codes "/?"

-- and before an id
abbrev pub id_word : Spelling → List ℕ
id_word Usual = codes ":id="
id_word Slashed = codes "/id/"

-- and before a group
abbrev pub group_word : Spelling → List ℕ
group_word Usual = codes ":grp="
group_word Slashed = codes "/grp/"

-- the text of the rows of a table
abbrev pub rows_text : Spelling → Rows → List ℕ
rows_text spelling All = all_word spelling
rows_text spelling (Id id) = id_word spelling ++ decimal id
rows_text spelling (Group group) = group_word spelling ++ decimal group

-- the text of a tag in that spelling
abbrev pub spelled : Spelling → Tag → List ℕ
spelled spelling tag = opening spelling ++ (decimal tag.table ++ rows_text spelling tag.rows)

-- a tag with its spelling in a text
pub record SpeltTag : Type 0 where
  pub spelling : Spelling
  pub tag : Tag

-- its text
abbrev pub spelt_text : SpeltTag → List ℕ
spelt_text s = spelled s.spelling s.tag

-- the text of a tag that is written
abbrev pub tag_text : Tag → List ℕ
tag_text = spelled Usual

-- ids and groups are numbers of the grammar
abbrev pub AreRowsInRange : Rows → Type 0
AreRowsInRange All = ⊤
AreRowsInRange (Id id) = id ≤ LAST_NUMBER
AreRowsInRange (Group group) = group ≤ LAST_NUMBER

-- the table is one of the tables, and the rows are in range
abbrev pub IsTagInRange : Tag → Type 0
IsTagInRange tag = (tag.table ≤ LAST_TABLE) × AreRowsInRange tag.rows

-- and so of a tag in a text
abbrev pub IsSpeltInRange : SpeltTag → Type 0
IsSpeltInRange s = IsTagInRange s.tag

-- the text is one of the tag's
abbrev pub IsTextOfTag : List ℕ → Tag → Type 0
IsTextOfTag text tag = (spelling : Spelling) × IsTextOf IsTagInRange (spelled spelling) text tag
