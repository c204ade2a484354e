-- Errors of calls and ports, as the caller of a transaction gets them.
use Rattle.txc_call.specs.declared.error.CallError.{CallError}
use Rattle.txc_call.specs.declared.error.CallError.TheVariants as calls
use Rattle.txc_cushion.specs.declared.error.AddError.{AddError}
use Rattle.txc_cushion.specs.declared.error.AddError.TheVariants as adds
use Rattle.txc_db.specs.declared.error.DbError.{DbError}
use Rattle.txc_db.specs.declared.error.DbError.TheVariants as database
use Rattle.txc_txn_ports.specs.declared.error.TxnError.{TxnError}
use Rattle.txc_txn_ports.specs.declared.error.TxnError.TheVariants.{Call, Database, SnapshotLost, PinsFull}
use Rattle.txc_txn_ports.specs.declared.error.TxnError.TheVariants.{Memory}

-- of a call: itself, except that its own failed allocation is one of the transaction
abbrev pub refused_call : CallError → TxnError
refused_call calls.Memory = Memory
refused_call cause = Call cause

-- of a query or a pin of the database: a snapshot that is gone is lost
abbrev pub refused_request : DbError → TxnError
refused_request (database.SnapshotGone horizon) = SnapshotLost horizon
refused_request database.Memory = Memory
refused_request cause = Database cause

-- of a pin to be added: it cannot be
abbrev pub refused_pin : AddError → TxnError
refused_pin adds.Full = PinsFull
refused_pin (adds.Known stamp) = PinsFull
refused_pin adds.Memory = Memory
