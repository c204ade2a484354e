-- Words for the steps of a commit, which only this crate's private functions promise.
use Rattle.std.specs.Prelude.{◌≡◌, ℕ, ◌<◌, true, false, List}
use Rattle.txc_rows.specs.declared.query.Query.{Query}
use Rattle.txc_rows.specs.declared.query.Change.{Change}
use Rattle.txc_db.specs.declared.error.DbError.{DbError}
use Rattle.txc_db.specs.declared.error.DbError.TheVariants.{SnapshotGone, Full, Store, Broken, FutureStamp, Memory}
use Rattle.txc_db.specs.DatabaseValue.{DatabaseValue, newest}
use Rattle.txc_db.specs.Room.{events_room, AreTagsGone}
use Rattle.txc_db.specs.Refusals.{IsOwn}
use Rattle.txc_db.specs.Calls.{IsStoreRefused, IsStoreRefusedIn}

-- of the base of a commit: broken, or beyond the newest stamp, or before the tags that are stored
abbrev pub IsBaseRefused : DatabaseValue → ℕ → DbError → Type 0
IsBaseRefused d base Broken = d.broken ≡ true
IsBaseRefused d base (FutureStamp last) = (d.broken ≡ false) × (newest d < base) × (last ≡ newest d)
IsBaseRefused d base (SnapshotGone horizon) =
    (d.broken ≡ false) × AreTagsGone d.events d.horizon base × (horizon ≡ d.horizon)
IsBaseRefused d base e = ⊥

-- of reading the rows of a query: an error of the store, or no memory
abbrev pub IsReadRefused : DatabaseValue → Query → DbError → Type 0
IsReadRefused d q (Store cause) = IsStoreRefused d q cause
IsReadRefused d q e = e ≡ Memory

-- of reading the rows that the changes name: an error of the store, or no memory
abbrev pub IsNetRefused : DatabaseValue → List Change → DbError → Type 0
IsNetRefused d changes (Store cause) = IsStoreRefusedIn d changes cause
IsNetRefused d changes e = e ≡ Memory

-- of appending an event: no room; otherwise an error of the store itself, or no memory, or another record in
-- the event log
abbrev pub IsAppendRefused : DatabaseValue → DbError → Type 0
IsAppendRefused d Full = newest d ≡ events_room d.events
IsAppendRefused d (Store cause) = (newest d < events_room d.events) × IsOwn cause
IsAppendRefused d Memory = newest d < events_room d.events
IsAppendRefused d Broken = newest d < events_room d.events
IsAppendRefused d e = ⊥
