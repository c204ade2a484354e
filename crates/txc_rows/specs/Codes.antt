-- The codes of errors.
use Rattle.std.specs.Prelude.{ℕ, List, codes}
use Rattle.txc_rows.specs.declared.store_error.StoreError.{StoreError}
use Rattle.txc_rows.specs.declared.store_error.StoreError.TheVariants as store

abbrev pub store_code : StoreError → List ℕ
store_code store.TooManyRows = codes "R2"
store_code (store.Store cause) = codes "R3"
store_code store.StoreMemory = codes "R3"
store_code store.Memory = codes "memory"
