-- Errors about a lost snapshot.
use Rattle.std.specs.Prelude.{List, ℕ, Option, None, Some, Result, Ok, Err}
use Rattle.txc_db.specs.declared.error.DbError.{DbError}
use Rattle.txc_db.specs.declared.error.DbError.TheVariants.{SnapshotGone}
use Rattle.txc_txn_ports.specs.declared.error.TxnError.{TxnError}
use Rattle.txc_txn_ports.specs.declared.error.TxnError.TheVariants.{SnapshotLost}
use Rattle.txc_txn_ports.specs.declared.reply.PortReply.{PortReply}
use Rattle.txc_txn_ports.specs.declared.reply.PortReply.TheVariants as ports
use Rattle.txc_txn_ports.specs.declared.turn.Turn.{Turn}
use Rattle.txc_txn_ports.specs.declared.turn.Turn.TheVariants as turns
use Rattle.txc_world.specs.declared.port_outcome.PortOutcome.{PortOutcome}
use Rattle.txc_world.specs.declared.port_outcome.PortOutcome.TheVariants as dids
use Rattle.txc_world.specs.declared.reply.Reply.{Reply}
use Rattle.txc_world.specs.declared.reply.Reply.TheVariants.{Asked, Ended, Refused}
use Rattle.txc_world.specs.declared.reply.Refusal.TheVariants.{Database, Transaction}

-- P holds, if the database failed for a snapshot that is gone
abbrev pub IfGone : DbError → Type 0 → Type 0
IfGone (SnapshotGone horizon) P = P
IfGone error P = Unit {0}

-- P holds, if a transaction failed for a snapshot that is gone
abbrev pub IfLost : TxnError → Type 0 → Type 0
IfLost (SnapshotLost horizon) P = P
IfLost error P = Unit {0}

-- P holds, if a port failed for a snapshot that is gone
abbrev pub IfPortLoses : PortReply → Type 0 → Type 0
IfPortLoses (ports.Pin (Err error)) P = IfGone error P
IfPortLoses (ports.Unpin (Err error)) P = IfGone error P
IfPortLoses (ports.Query (Err error)) P = IfGone error P
IfPortLoses reply P = Unit {0}

-- the same of what is shown of a port
abbrev pub IfDidLose : PortOutcome → Type 0 → Type 0
IfDidLose (dids.Refused error) P = IfGone error P
IfDidLose did P = Unit {0}

-- P holds, if an operation of a transaction failed for a snapshot that is gone
abbrev pub IfResultLost : {T : Type 0} → Result T TxnError → Type 0 → Type 0
IfResultLost (Err error) P = IfLost error P
IfResultLost (Ok value) P = Unit {0}

-- P holds, if it has ended so at the turn
abbrev pub IfTurnLost : {R T : Type 0} → Turn R T → Type 0 → Type 0
IfTurnLost (turns.Ended result) P = IfResultLost result P
IfTurnLost (turns.Ask request) P = Unit {0}

-- P holds, if a call has ended for a snapshot that is gone
abbrev pub IfEndLost : Option (Result (List ℕ) TxnError) → Type 0 → Type 0
IfEndLost (Some result) P = IfResultLost result P
IfEndLost None P = Unit {0}

-- P holds, if the reply reports a lost snapshot: of a request at which a port failed so, of a call that has
-- ended so, of a query of the transaction itself, or of its commit.
abbrev pub IfReplyLost : Reply → Type 0 → Type 0
IfReplyLost (Asked did end) P = IfDidLose did P × IfEndLost end P
IfReplyLost (Ended result) P = IfResultLost result P
IfReplyLost (Refused (Transaction error)) P = IfLost error P
IfReplyLost (Refused (Database error)) P = IfGone error P
IfReplyLost reply P = Unit {0}
