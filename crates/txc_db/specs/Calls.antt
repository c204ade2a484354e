-- Errors of the calls of a database, and the database after them.
use Rattle.std.specs.Prelude.{◌≡◌, ◌≢◌, ◌⊎◌, ⊤, ℕ, ◌+◌, ◌<◌, ◌≤◌, true, false, List, [], length, filter}
use Rattle.std.specs.List.{Contains}
use Rattle.txc_tags.specs.declared.tag.Tag.{Tag}
use Rattle.txc_rows.specs.declared.query.Query.{Query}
use Rattle.txc_rows.specs.declared.query.Query.TheVariants.{ById}
use Rattle.txc_rows.specs.declared.query.Change.{Change}
use Rattle.txc_rows.specs.declared.store_error.StoreError.{StoreError}
use Rattle.txc_rows.specs.declared.store_error.StoreError.TheVariants as store
use Rattle.txc_rows.specs.Net.{change_table, change_id}
use Rattle.txc_rows.specs.Versions.{suits}
use Rattle.txc_db.specs.declared.error.DbError.{DbError}
use Rattle.txc_db.specs.declared.error.DbError.TheVariants.{SnapshotGone, Conflict, Full, Store, Broken, NotPinned, FutureStamp, HoldsFull, Memory}
use Rattle.txc_db.specs.declared.holds.TheConstants.{MAX_HOLDS}
use Rattle.txc_db.specs.DatabaseValue.{DatabaseValue, newest, newest_net, next_horizon, is_held, IsReadable}
use Rattle.txc_db.specs.Room.{events_room, AreTagsKept, AreTagsGone}
use Rattle.txc_db.specs.Refusals.{IsOwn, IsConflict, NoneMatches}

-- the call found another record in the event log after the history: the history, the horizon and the holds are
-- as before, and each later call fails
pub record IsBroken (old new : DatabaseValue) : Type 0 where
  pub was : old.broken ≡ false
  pub is : new.broken ≡ true
  pub events : new.events ≡ old.events
  pub history : new.history ≡ old.history
  pub horizon : new.horizon ≡ old.horizon
  pub holds : new.holds ≡ old.holds

-- the database after an error: as before; after `Broken`, it was broken before, or is so from now on
abbrev pub IsLeft : DatabaseValue → DatabaseValue → DbError → Type 0
IsLeft old new Broken = ((new ≡ old) × (old.broken ≡ true)) ⊎ IsBroken old new
IsLeft old new e = new ≡ old

-- ---- holds

-- a hold can be added: the database is not broken, and there is room for another hold
pub record IsHoldable (d : DatabaseValue) : Type 0 where
  pub whole : d.broken ≡ false
  pub room : length d.holds < MAX_HOLDS

-- of a hold: broken, or too many holds; and then no memory
abbrev pub IsHoldRefused : DatabaseValue → DbError → Type 0
IsHoldRefused d Broken = d.broken ≡ true
IsHoldRefused d HoldsFull = (d.broken ≡ false) × (MAX_HOLDS ≤ length d.holds)
IsHoldRefused d Memory = IsHoldable d
IsHoldRefused d e = ⊥

-- of removing a hold: broken, or the stamp is not held
abbrev pub IsUnpinRefused : DatabaseValue → ℕ → DbError → Type 0
IsUnpinRefused d stamp Broken = d.broken ≡ true
IsUnpinRefused d stamp (NotPinned named) =
    (d.broken ≡ false) × (is_held stamp d.holds ≡ false) × (named ≡ stamp)
IsUnpinRefused d stamp e = ⊥

-- of a vacuum: broken; and then, if it moves the horizon, an error of the store itself
abbrev pub IsVacuumRefused : DatabaseValue → DbError → Type 0
IsVacuumRefused d Broken = d.broken ≡ true
IsVacuumRefused d (Store cause) = (d.broken ≡ false) × (next_horizon d ≢ d.horizon) × IsOwn cause
IsVacuumRefused d e = ⊥

-- of a new beginning: broken; and then an error of the store itself
abbrev pub IsBeginRefused : DatabaseValue → DbError → Type 0
IsBeginRefused d Broken = d.broken ≡ true
IsBeginRefused d (Store cause) = (d.broken ≡ false) × IsOwn cause
IsBeginRefused d e = ⊥

-- ---- pins

-- a pin can be appended: the database is not broken, the least stamp asked for is at most the next one, and
-- there is room for its event and for its hold
pub record IsPinnable (d : DatabaseValue) (at_least : ℕ) : Type 0 where
  pub whole : d.broken ≡ false
  pub late : at_least ≤ newest d + 1
  pub room : newest d < events_room d.events
  pub hold : length d.holds < MAX_HOLDS

-- Of a pin: broken, or asked for beyond the next stamp, or no room, or too many holds, each if none before it
-- applies; and then no memory, or another record in the event log.
abbrev pub IsPinRefused : DatabaseValue → ℕ → DbError → Type 0
IsPinRefused d at_least Broken = (d.broken ≡ true) ⊎ IsPinnable d at_least
IsPinRefused d at_least (FutureStamp last) =
    (d.broken ≡ false) × (newest d + 1 < at_least) × (last ≡ newest d)
IsPinRefused d at_least Full =
    (d.broken ≡ false) × (at_least ≤ newest d + 1) × (newest d ≡ events_room d.events)
IsPinRefused d at_least HoldsFull =
    (d.broken ≡ false) × (at_least ≤ newest d + 1) × (newest d < events_room d.events)
    × (MAX_HOLDS ≤ length d.holds)
IsPinRefused d at_least Memory = IsPinnable d at_least
IsPinRefused d at_least e = ⊥

-- ---- queries

-- the number of kept versions that a query has to look at
abbrev pub matching_of : DatabaseValue → Query → ℕ
matching_of d q = length (filter (suits q) d.versions)

-- the store cannot return the versions that match: there are too many of them, or it fails itself
abbrev pub IsStoreRefused : DatabaseValue → Query → StoreError → Type 0
IsStoreRefused d q store.TooManyRows = d.most < matching_of d q
IsStoreRefused d q (store.Store cause) = ⊤
IsStoreRefused d q store.StoreMemory = ⊤
IsStoreRefused d q store.Memory = ⊥

-- a query can be answered at the stamp
pub record IsAnswerable (d : DatabaseValue) (stamp : ℕ) : Type 0 where
  pub whole : d.broken ≡ false
  pub readable : IsReadable d.horizon (newest d) stamp

-- of a query: broken, or beyond the newest stamp, or below the horizon; and then an error of the store, or no
-- memory
abbrev pub IsQueryRefused : DatabaseValue → Query → ℕ → DbError → Type 0
IsQueryRefused d q stamp Broken = d.broken ≡ true
IsQueryRefused d q stamp (FutureStamp last) = (d.broken ≡ false) × (newest d < stamp) × (last ≡ newest d)
IsQueryRefused d q stamp (SnapshotGone horizon) =
    (d.broken ≡ false) × (stamp < d.horizon) × (horizon ≡ d.horizon)
IsQueryRefused d q stamp (Store cause) = IsAnswerable d stamp × IsStoreRefused d q cause
IsQueryRefused d q stamp Memory = IsAnswerable d stamp
IsQueryRefused d q stamp e = ⊥

-- ---- commits

-- the query of the row that a change names
abbrev pub row_query : Change → Query
row_query c = ById (change_table c) (change_id c)

-- no row that the changes name has too many kept versions
abbrev pub AreFewNamed : DatabaseValue → List Change → Type 0
AreFewNamed d changes = (c : Change) → Contains changes c → matching_of d (row_query c) ≤ d.most

-- the database is not broken, has the base, and has the tags of the events after it
pub record IsBase (d : DatabaseValue) (base : ℕ) : Type 0 where
  pub whole : d.broken ≡ false
  pub known : base ≤ newest d
  pub kept : AreTagsKept d.events d.horizon base

-- and no event after the base has tags that match those read
pub record IsUnread (d : DatabaseValue) (base : ℕ) (read : List Tag) : Type 0 where
  pub whole : d.broken ≡ false
  pub known : base ≤ newest d
  pub kept : AreTagsKept d.events d.horizon base
  pub apart : NoneMatches d.history base (newest d) read

-- a commit can be done: what was read has not changed, the rows that the changes name can be looked up, and
-- there is room for its event, if it has one
pub record IsCommittable (d : DatabaseValue) (base : ℕ) (read : List Tag) (changes : List Change)
    : Type 0 where
  pub unread : IsUnread d base read
  pub few : AreFewNamed d changes
  pub room : newest_net d changes ≢ [] → newest d < events_room d.events

-- a commit has an event to append, for which there is room
pub record IsEventDue (d : DatabaseValue) (base : ℕ) (read : List Tag) (changes : List Change) : Type 0 where
  pub unread : IsUnread d base read
  pub few : AreFewNamed d changes
  pub some : newest_net d changes ≢ []
  pub room : newest d < events_room d.events

-- a commit has an event to append, and there is no room for it
pub record IsEventBarred (d : DatabaseValue) (base : ℕ) (read : List Tag) (changes : List Change)
    : Type 0 where
  pub unread : IsUnread d base read
  pub few : AreFewNamed d changes
  pub some : newest_net d changes ≢ []
  pub full : newest d ≡ events_room d.events

-- the store fails at a commit: a row that it names has too many kept versions; or there are changes, and the
-- store fails itself
abbrev pub IsStoreRefusedIn : DatabaseValue → List Change → StoreError → Type 0
IsStoreRefusedIn d changes store.TooManyRows =
    (c : Change) × Contains changes c × (d.most < matching_of d (row_query c))
IsStoreRefusedIn d changes (store.Store cause) = changes ≢ []
IsStoreRefusedIn d changes store.StoreMemory = changes ≢ []
IsStoreRefusedIn d changes store.Memory = ⊥

-- Of a commit: broken, or beyond the newest stamp, or before the tags that are stored, or a conflict with what
-- was read; then an error of the store, or no room. Memory may be missing as soon as there is no conflict. And
-- last, another record is in the event log.
abbrev pub IsCommitRefused : DatabaseValue → ℕ → List Tag → List Change → DbError → Type 0
IsCommitRefused d base read changes Broken = (d.broken ≡ true) ⊎ IsEventDue d base read changes
IsCommitRefused d base read changes (FutureStamp last) =
    (d.broken ≡ false) × (newest d < base) × (last ≡ newest d)
IsCommitRefused d base read changes (SnapshotGone horizon) =
    (d.broken ≡ false) × AreTagsGone d.events d.horizon base × (horizon ≡ d.horizon)
IsCommitRefused d base read changes (Conflict first) = IsBase d base × IsConflict d.history base read first
IsCommitRefused d base read changes (Store cause) = IsUnread d base read × IsStoreRefusedIn d changes cause
IsCommitRefused d base read changes Full = IsEventBarred d base read changes
IsCommitRefused d base read changes Memory = IsUnread d base read
IsCommitRefused d base read changes e = ⊥
