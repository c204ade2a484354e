-- The reads of a caller in a session, compared with what it has read and made before.
use Rattle.std.specs.Prelude.{◌≡◌, ℕ, ◌≤◌, List, [], ◌∷◌, ◌++◌, take, length, Option, Some, None, option_map, IfSome}
use Rattle.std.specs.List.{AllByRecursion}
use mathlib.Core.List.{IsPrefix}
use Rattle.txc_db.specs.History.{History}
use Rattle.txc_cushion.specs.declared.pin.Pin.{Pin}
use Rattle.txc_app.specs.Eval.{Next}
use Rattle.txc_txn_ports.specs.declared.bounds.Bounds.{Bounds}
use Rattle.txc_txn.specs.declared.receipt.Receipt.{Receipt}
use Rattle.txc_txn.specs.TxnCore.{Explains}
use Rattle.txc_txn.specs.Sessions.{began, noted_commit, noted_receipt, SessionEvent, IsFloorOf}

-- the events before the state that a receipt's transaction has read, if it completed a call
abbrev pub read_by : Receipt → Option History
read_by receipt = option_map (λ (pin : Pin). take pin.stamp receipt.seen.history) receipt.pin

-- the events that led to the state that a caller has read or made, as it saw them
abbrev pub past_of : SessionEvent → Option History
past_of (noted_receipt receipt) = read_by receipt
past_of (noted_commit stamp seen) = Some (take stamp seen.history)
past_of (began bounds) = None

-- the receipt of a transaction with these bounds, of the database of this history
pub record IsReceiptOf (next : Next) (L : History) (bounds : Bounds) (receipt : Receipt) : Type 0 where
  pub seen : IsPrefix receipt.seen.history L
  pub explained : Explains next receipt.seen.history bounds receipt.pin receipt.answers.items

-- the noted event is of the database of this history: a receipt of a transaction; or the stamp of a commit,
-- with a history that shows the commit
abbrev pub IsOfDatabase : Next → History → SessionEvent → Type 0
IsOfDatabase next L (noted_receipt receipt) = (bounds : Bounds) × IsReceiptOf next L bounds receipt
IsOfDatabase next L (noted_commit stamp seen) = IsPrefix seen.history L × (stamp ≤ length seen.history)
IsOfDatabase next L (began bounds) = Unit {0}

-- the state that this event read or made is no newer than the one after these events: its own past is a prefix
-- of these
abbrev pub IsNoNewer : History → SessionEvent → Type 0
IsNoNewer read deed = IfSome (past_of deed) (λ past. IsPrefix past read)

-- each transaction that began did so at the floor of a session after all events before it
abbrev pub AreInSession : List SessionEvent → Type 0
AreInSession deeds = (before after : List SessionEvent) (bounds : Bounds) → deeds ≡ before ++ began bounds ∷ after
    → IsFloorOf before bounds.at_least

-- A caller never reads a state older than one that it has read or made. Take all its events with one database
-- in one session, and any transaction that began there: its receipt is of a state at least as new as each that
-- was noted before it began. It may be the transaction of any client, and end at any time.
abbrev pub SessionsAreMonotonic : Type 0
SessionsAreMonotonic = (next : Next) (L : History) (deeds : List SessionEvent)
    → AllByRecursion (IsOfDatabase next L) deeds → AreInSession deeds
    → (before after : List SessionEvent) (bounds : Bounds) (receipt : Receipt) → deeds ≡ before ++ began bounds ∷ after
    → IsReceiptOf next L bounds receipt
    → IfSome (read_by receipt) (λ read. AllByRecursion (IsNoNewer read) before)

-- a transaction that begins leaves the floor as it is
abbrev pub BeginningNotesNothing : Type 0
BeginningNotesNothing = (deeds : List SessionEvent) (bounds : Bounds) (floor : ℕ) → IsFloorOf deeds floor
    → IsFloorOf (deeds ++ began bounds ∷ []) floor
