-- A row as contracts see it.
use Rattle.std.specs.Prelude.{ℕ, ◌≤◌, Bool, ◌&&◌, ◌==◌, List, length}
use Rattle.std.specs.List.{AllByRecursion}
use Rattle.std.specs.Str.{bytes_eq}
use Rattle.txc_tags.specs.declared.tag.TheConstants.{LAST_TABLE}
use Rattle.txc_tags.specs.declared.text.number.TheConstants.{LAST_NUMBER}
use Rattle.txc_rows.specs.declared.row.TheConstants.{MAX_BODY_LEN, MAX_BYTES_LEN, FIRST_BODY_BYTE, LAST_BODY_BYTE}

-- its table, its id in the table, its group and its body
pub record RowValue : Type 0 where
  pub table : ℕ
  pub id : ℕ
  pub group : ℕ
  pub body : List ℕ

-- the rows are equal
abbrev pub same_row : RowValue → RowValue → Bool
same_row r s = r.table == s.table && (r.id == s.id && (r.group == s.group && bytes_eq r.body s.body))

-- a body that scripts can write: 1 byte to the most that they may, each of those that print and are no blank
pub record IsBody (body : List ℕ) : Type 0 where
  pub some : 1 ≤ length body
  pub most : length body ≤ MAX_BODY_LEN
  pub each : AllByRecursion (λ byte. (FIRST_BODY_BYTE ≤ byte) × (byte ≤ LAST_BODY_BYTE)) body

-- any bytes, and no more than there may be
abbrev pub AreBytes : List ℕ → Type 0
AreBytes body = length body ≤ MAX_BYTES_LEN

-- one of the tables, an id and a group that texts can name, and a body
pub record IsRow (r : RowValue) : Type 0 where
  pub table : r.table ≤ LAST_TABLE
  pub id : r.id ≤ LAST_NUMBER
  pub group : r.group ≤ LAST_NUMBER
  pub body : AreBytes r.body
