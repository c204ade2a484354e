-- The codes of errors, with their numbers.
use Rattle.std.specs.Prelude.{ℕ, List, ◌++◌, codes}
use Rattle.std.specs.Fmt.{decimal}
use Rattle.txc_db.specs.Codes.{database_code}
use Rattle.txc_call.specs.Codes.{call_code}
use Rattle.txc_txn_ports.specs.declared.error.TxnError.{TxnError}
use Rattle.txc_txn_ports.specs.declared.error.TxnError.TheVariants as transactions

abbrev pub transaction_code : TxnError → List ℕ
transaction_code (transactions.Call cause) = call_code cause
transaction_code (transactions.Database cause) = database_code cause
transaction_code (transactions.SnapshotLost horizon) = codes "X3 " ++ decimal horizon
transaction_code transactions.PinsFull = codes "X4"
transaction_code transactions.BufferFull = codes "X5"
transaction_code transactions.Memory = codes "memory"
