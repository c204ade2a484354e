-- The versions that a store can hold.
use Rattle.std.specs.Prelude.{◌≡◌, ◌≢◌, ◌≤◌, ℕ, List, Some, None}
use Rattle.std.specs.List.{AllByRecursion}
use Rattle.txc_stamp.specs.declared.stamp.TheConstants.{MOST_STAMP}
use Rattle.txc_rows.specs.declared.version.Versioned.{Versioned}
use Rattle.txc_rows.specs.declared.query.Change.{Change}
use Rattle.txc_rows.specs.declared.query.Change.TheVariants.{Put, Remove}
use Rattle.txc_rows.specs.Values.{IsRow}
use Rattle.txc_rows.specs.Versions.{Pairwise}

-- a row, and stamps that can be
pub record IsStorable (v : Versioned) : Type 0 where
  pub row : IsRow v.row
  pub born : v.born ≤ MOST_STAMP
  pub died : (d : ℕ) → v.died ≡ Some d → d ≤ MOST_STAMP

-- of two versions of a table and id the earlier has died
abbrev pub HasEnded : Versioned → Versioned → Type 0
HasEnded v w = v.row.table ≡ w.row.table → v.row.id ≡ w.row.id → v.died ≢ None

-- so no table and id has two versions that have not died
pub record AreHeld (vs : List Versioned) : Type 0 where
  pub each : AllByRecursion IsStorable vs
  pub ended : Pairwise HasEnded vs

-- the change writes what can be held
abbrev pub IsWritable : ℕ → Change → Type 0
IsWritable stamp (Put row) = (stamp ≤ MOST_STAMP) × IsRow row
IsWritable stamp (Remove table id) = stamp ≤ MOST_STAMP
