-- Errors of the store's calls.
use Rattle.std.specs.Prelude.{◌≡◌, ◌≢◌, ◌⊎◌, ⊤}
use Rattle.sqlite.specs.declared.error.Error.{Error}
use Rattle.sqlite.specs.declared.error.Error.TheVariants.{SqliteFailure}
use Rattle.sqlite.specs.declared.error.ErrorCode.TheVariants.{OutOfMemory}
use Rattle.txc_rows.specs.declared.store_error.StoreError.{StoreError}
use Rattle.txc_rows.specs.declared.store_error.StoreError.TheVariants.{TooManyRows, Store, StoreMemory, Memory}

-- the error of SQLite as its caller gets it: no memory of its own, or the error itself
abbrev pub IsRefusalBy : Error → StoreError → Type 0
IsRefusalBy cause refusal =
    ((cause ≡ SqliteFailure OutOfMemory) × (refusal ≡ StoreMemory))
    ⊎ ((cause ≢ SqliteFailure OutOfMemory) × (refusal ≡ Store cause))

-- the store itself failed: it reports its memory only if that was the cause
abbrev pub IsStoreRefusal : StoreError → Type 0
IsStoreRefusal TooManyRows = ⊥
IsStoreRefusal (Store cause) = cause ≢ SqliteFailure OutOfMemory
IsStoreRefusal StoreMemory = ⊤
IsStoreRefusal Memory = ⊥
