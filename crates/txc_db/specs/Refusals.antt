-- Errors of the database.
use Rattle.std.specs.Prelude.{◌≡◌, ⊤, ℕ, ◌<◌, ◌≤◌, true, false, List, length}
use Rattle.txc_tags.specs.declared.tag.Tag.{Tag}
use Rattle.txc_tags.specs.Tags.{sets_match}
use Rattle.txc_rows.specs.declared.store_error.StoreError.{StoreError}
use Rattle.txc_rows.specs.declared.store_error.StoreError.TheVariants as store
use Rattle.txc_db.specs.declared.error.DbError.{DbError}
use Rattle.txc_db.specs.declared.error.DbError.TheVariants as refusals
use Rattle.txc_db.specs.History.{History, tags_at}

-- the error of the store as the database's caller gets it
abbrev pub IsRefusalOf : StoreError → DbError → Type 0
IsRefusalOf store.TooManyRows e = e ≡ refusals.Store store.TooManyRows
IsRefusalOf (store.Store cause) e = e ≡ refusals.Store (store.Store cause)
IsRefusalOf store.StoreMemory e = e ≡ refusals.Store store.StoreMemory
IsRefusalOf store.Memory e = e ≡ refusals.Memory

-- the store itself failed, whatever the call
abbrev pub IsOwn : StoreError → Type 0
IsOwn store.TooManyRows = ⊥
IsOwn (store.Store cause) = ⊤
IsOwn store.StoreMemory = ⊤
IsOwn store.Memory = ⊥

-- memory cannot be allocated, or the store itself failed: no argument decides these
abbrev pub IsWant : DbError → Type 0
IsWant (refusals.SnapshotGone horizon) = ⊥
IsWant (refusals.Conflict stamp) = ⊥
IsWant refusals.Full = ⊥
IsWant (refusals.Store cause) = IsOwn cause
IsWant refusals.Broken = ⊥
IsWant (refusals.NotPinned stamp) = ⊥
IsWant (refusals.FutureStamp last) = ⊥
IsWant refusals.HoldsFull = ⊥
IsWant refusals.Memory = ⊤

-- ---- conflicts

-- no event after the base, up to the last, has tags that match those read
abbrev pub NoneMatches : History → ℕ → ℕ → List Tag → Type 0
NoneMatches L base last read = (e : ℕ) → base < e → e ≤ last → sets_match (tags_at L e) read ≡ false

-- the first event after the base whose tags match those read
pub record IsConflict (L : History) (base : ℕ) (read : List Tag) (first : ℕ) : Type 0 where
  pub after : base < first
  pub within : first ≤ length L
  pub matches : sets_match (tags_at L first) read ≡ true
  pub earliest : (e : ℕ) → base < e → e < first → sets_match (tags_at L e) read ≡ false
