-- The table of last versions in the store: words that only this crate's private functions promise.
use Rattle.std.specs.Prelude.{Bool, true, false, [], ◌∷◌, None, codes, List, ℕ}
use Rattle.sqlite.specs.Collation.TheVariants.{Binary}
use Rattle.sqlite.specs.declared.types.Value.TheVariants.{Null}
use Rattle.sqlite.specs.Table.{Table}
use Rattle.sqlite.specs.Term.{lit, col, op2}
use Rattle.sqlite_sql.specs.declared.ops.BinaryOp.TheVariants.{Compare, Is, Or}
use Rattle.sqlite_sql.specs.declared.ops.CompareOp.TheVariants.{Lt}
use Rattle.sqlite.specs.Schema.{Schema}
use Rattle.sqlite.specs.Kind.{Kind}
use Rattle.sqlite.specs.Kind.TheVariants.{Integer, Blob}
use Rattle.sqlite_schema.specs.declared.schema.Column.{Column}
use Rattle.sqlite.specs.Change.{created}
use Rattle.sqlite_value.specs.Keys.{plain}

-- a column of the table
abbrev pub column_of : List ℕ → Kind → Bool → Column
column_of name kind needed = record {
  name = name;
  kind = kind;
  is_strict = true;
  not_null = needed;
  default = Null;
  collation = Binary;
}

-- the schema of an empty store
abbrev pub no_schema : Schema
no_schema = record { tables = []; indexes = []; views = [] }

-- the last version of each table, id and group, with its place. It is found by table, id and group, and by
-- table, group and id. One that has not died has no death, and none dies before it was born or as it was.
abbrev pub latest_table : Table
latest_table = record {
  name = codes "latest";
  tree = 0;
  columns = column_of (codes "place") Integer true
      ∷ column_of (codes "table_number") Integer true
      ∷ column_of (codes "id") Integer true
      ∷ column_of (codes "born") Integer true
      ∷ column_of (codes "group_number") Integer true
      ∷ column_of (codes "body") Blob true
      ∷ column_of (codes "died") Integer false ∷ [];
  key = None;
  primary = 2 ∷ 3 ∷ 5 ∷ [];
  uniques = (2 ∷ 3 ∷ 5 ∷ []) ∷ (2 ∷ 5 ∷ 3 ∷ []) ∷ [];
  orders = plain ∷ plain ∷ [];
  checks = op2 Or (op2 (Is Binary) (col 1 7) (lit Null)) (op2 (Compare Lt Binary) (col 1 4) (col 1 7)) ∷ [];
  references = [];
  computed = [];
  stamps = record { places = []; terms = []; formats = [] };
  is_counted = false;
}

-- the schema with the one table
abbrev pub latest_schema : Schema
latest_schema = created no_schema latest_table
