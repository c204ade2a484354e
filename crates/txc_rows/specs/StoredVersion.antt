-- Versions as rows of the table, and reading them back: only the contracts of this crate's private functions
-- use it.
use Rattle.std.specs.Prelude.{◌≡◌, ℕ, ℤ, pos, negsuc, List, [], ◌∷◌, map, Option, Some, None}
use Rattle.std.specs.List.{AllByRecursion}
use Rattle.sqlite.specs.Tree.{rowid, IsTable}
use Rattle.sqlite.specs.Edit.{id_in}
use Rattle.sqlite.specs.declared.types.Value.{Value}
use Rattle.sqlite.specs.declared.types.Value.TheVariants.{Null, Int, Real, Text, Blob}
use Rattle.sqlite.specs.Order.{Row, column, bytes}
use Rattle.sqlite.specs.Values.{or_null}
use Rattle.txc_rows.specs.declared.version.Versioned.{Versioned}
use Rattle.txc_rows.specs.declared.placed.Placed.{Placed}

-- a number as a stored value
abbrev pub number : ℕ → Value
number n = Int (pos n)

-- the stamp of a death as a stored value: null while the version is current
abbrev pub death : Option ℕ → Value
death = or_null number

-- a version as the columns of a table
abbrev pub cells_of : Placed → Row
cells_of x = number x.place ∷ number x.version.row.table ∷ number x.version.row.id ∷ number x.version.born
    ∷ number x.version.row.group ∷ Blob x.version.row.body ∷ death x.version.died ∷ []

-- the number of the row in its table, and then its columns
abbrev pub stored : ℤ → Placed → Row
stored id x = Int id ∷ cells_of x

-- the number of a stored value
abbrev pub number_in : Value → ℕ
number_in Null = 0
number_in (Int (pos n)) = n
number_in (Int (negsuc n)) = 0
number_in (Real x) = 0
number_in (Text t) = 0
number_in (Blob b) = 0

-- the death of a stored value
abbrev pub death_in : Value → Option ℕ
death_in Null = None
death_in (Int (pos n)) = Some n
death_in (Int (negsuc n)) = None
death_in (Real x) = None
death_in (Text t) = None
death_in (Blob b) = None

-- the version of the columns of a table
abbrev pub placed_from : Row → Placed
placed_from r = record {
  place = number_in (column r 0);
  version = record {
    row = record {
      table = number_in (column r 1);
      id = number_in (column r 2);
      group = number_in (column r 4);
      body = bytes (column r 5);
    };
    born = number_in (column r 3);
    died = death_in (column r 6);
  };
}

-- the version of a row of a table
abbrev pub placed_in : Row → Placed
placed_in r = record {
  place = number_in (column r 1);
  version = record {
    row = record {
      table = number_in (column r 2);
      id = number_in (column r 3);
      group = number_in (column r 5);
      body = bytes (column r 6);
    };
    born = number_in (column r 4);
    died = death_in (column r 7);
  };
}

-- they are the columns of a version
abbrev pub AreCells : Row → Type 0
AreCells r = r ≡ cells_of (placed_from r)

-- the columns that the query on one table selects of a version: id, group, body, birth and death
abbrev pub queried_columns : Versioned → Row
queried_columns v = number v.row.id ∷ number v.row.group ∷ Blob v.row.body ∷ number v.born ∷ death v.died ∷ []

-- and how that is read, for a table
abbrev pub version_shown : ℕ → Row → Versioned
version_shown table r = record {
  row = record {
    table = table;
    id = number_in (column r 0);
    group = number_in (column r 1);
    body = bytes (column r 2);
  };
  born = number_in (column r 3);
  died = death_in (column r 4);
}

-- the versions of the rows of a table
abbrev pub placed_all : List Row → List Placed
placed_all = map placed_in

-- the row is a version with its number
abbrev pub IsStored : Row → Type 0
IsStored r = r ≡ stored (id_in (rowid r)) (placed_in r)

-- the rows are versions, and ascend by their numbers
pub record AreVersionRows (rows : List Row) : Type 0 where
  pub table : IsTable rows
  pub each : AllByRecursion IsStored rows
