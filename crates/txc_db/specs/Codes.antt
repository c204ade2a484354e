-- The codes of errors, with their numbers.
use Rattle.std.specs.Prelude.{ℕ, List, ◌++◌, codes}
use Rattle.std.specs.Fmt.{decimal}
use Rattle.txc_rows.specs.Codes.{store_code}
use Rattle.txc_db.specs.declared.error.DbError.{DbError}
use Rattle.txc_db.specs.declared.error.DbError.TheVariants as database

abbrev pub database_code : DbError → List ℕ
database_code (database.SnapshotGone horizon) = codes "B1 " ++ decimal horizon
database_code (database.Conflict stamp) = codes "B2 " ++ decimal stamp
database_code database.Full = codes "B3"
database_code (database.Store cause) = store_code cause
database_code database.Broken = codes "B5"
database_code (database.NotPinned stamp) = codes "B6 " ++ decimal stamp
database_code (database.FutureStamp newest) = codes "B7 " ++ decimal newest
database_code database.HoldsFull = codes "B8"
database_code database.Memory = codes "memory"
