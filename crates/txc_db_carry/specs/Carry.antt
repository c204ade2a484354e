-- The part of a state that was carried over to a new database, and the errors of a rollover.
use Rattle.std.specs.Prelude.{◌≡◌, ⊤, ℕ, ◌<◌, ◌≤◌, Bool, true, false, ◌&&◌, ◌||◌, ◌==◌, nat_lt, [], length, filter}
use Rattle.std.specs.List.{AllByRecursion}
use Rattle.txc_rows.specs.declared.query.Query.TheVariants.{ById}
use Rattle.txc_rows.specs.States.{RowValue}
use Rattle.txc_db.specs.declared.error.DbError.{DbError}
use Rattle.txc_db.specs.declared.error.DbError.TheVariants as refusals
use Rattle.txc_db.specs.DatabaseValue.{DatabaseValue, newest, newest_state}
use Rattle.txc_stream.specs.Names.{Name, HasRow}
use Rattle.txc_db.specs.Refusals.{IsOwn}
use Rattle.txc_db.specs.Calls.{matching_of}
use Rattle.txc_db_carry.specs.declared.error.CarryError.{CarryError}
use Rattle.txc_db_carry.specs.declared.error.CarryError.TheVariants.{Old, TooManyVersions, New}

-- the row is of an earlier table, or of that table and has a lower id
abbrev pub stands_before : ℕ → ℕ → RowValue → Bool
stands_before table id r = nat_lt r.table table || ((r.table == table) && nat_lt r.id id)

-- The new database is not broken, has that history, and holds nothing. The limit of a query is that of the old
-- one. Its newest state, and its versions, are the rows of the old newest state before the table and id. It has
-- at most one event for each row.
pub record HasCarried (old : DatabaseValue) (events : Name) (table id : ℕ) (new : DatabaseValue) : Type 0 where
  pub whole : new.broken ≡ false
  pub named : new.events ≡ events
  pub limit : new.most ≡ old.most
  pub horizon : new.horizon ≡ 0
  pub holds : new.holds ≡ []
  pub rows : newest_state new ≡ filter (stands_before table id) (newest_state old)
  pub versions : AllByRecursion (λ v. stands_before table id v.row ≡ true) new.versions
  pub few : newest new ≤ length (newest_state new)

-- ---- errors

-- of the old database: an error of the store itself, or no memory
abbrev pub IsReadRefusal : DbError → Type 0
IsReadRefusal (refusals.Store cause) = IsOwn cause
IsReadRefusal refusals.Memory = ⊤
IsReadRefusal e = ⊥

-- of the new database: its room is less than the rows of the state; or an error of the store itself, or no
-- memory, or another record in its event log
abbrev pub IsPutRefusal : DatabaseValue → ℕ → DbError → Type 0
IsPutRefusal old room refusals.Full = room < length (newest_state old)
IsPutRefusal old room (refusals.Store cause) = IsOwn cause
IsPutRefusal old room refusals.Memory = ⊤
IsPutRefusal old room refusals.Broken = ⊤
IsPutRefusal old room e = ⊥

-- of carrying some rows: the old database cannot be read, or has too many versions of one row, or the new one
-- fails
abbrev pub IsCarryStepRefused : DatabaseValue → ℕ → CarryError → Type 0
IsCarryStepRefused old room (Old e) = IsReadRefusal e
IsCarryStepRefused old room (TooManyVersions table id) = old.most < matching_of old (ById table id)
IsCarryStepRefused old room (New e) = IsPutRefusal old room e

-- after the new database failed as broken, it is stored in a log, and is broken from now on
abbrev pub IsBrokenBy : Name → DatabaseValue → CarryError → Type 0
IsBrokenBy events new (New refusals.Broken) = HasRow events × (new.broken ≡ true)
IsBrokenBy events new e = ⊤

-- of a rollover: the old database is broken; or else the errors of its steps
abbrev pub IsCarryRefused : DatabaseValue → ℕ → CarryError → Type 0
IsCarryRefused old room (Old refusals.Broken) = old.broken ≡ true
IsCarryRefused old room e = (old.broken ≡ false) × IsCarryStepRefused old room e

-- it is not that a row has too many versions
abbrev pub IsNotTooMany : CarryError → Type 0
IsNotTooMany (TooManyVersions table id) = ⊥
IsNotTooMany e = ⊤
