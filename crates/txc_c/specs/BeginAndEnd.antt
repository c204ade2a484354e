-- The effect of the calls that begin and end transactions.
use Rattle.std.specs.Prelude.{◌≡◌, ◌⊎◌, ℕ, nat_le, Bool, false, true, length, Option, Some, None}
use Rattle.std.specs.Bool.{MatchBool}
use Rattle.txc_tags.specs.Keys.{Call}
use Rattle.txc_stamp.specs.declared.stamp.TheConstants.{MOST_STAMP}
use Rattle.txc_db.specs.Calls.{IsBase, IsHoldable, IsHoldRefused}
use Rattle.txc_db.specs.DatabaseValue.{after_hold, newest}
use Rattle.txc_db.specs.History.{state_at}
use Rattle.txc_db.specs.DatabaseReply.{IsEventIn, IsQuietIn}
use Rattle.txc_db.specs.declared.error.DbError.{DbError}
use Rattle.txc_db.specs.declared.error.DbError.TheVariants.{Conflict, Memory}
use Rattle.txc_db.specs.Steps.{IsBaseRefused}
use Rattle.txc_txn_ports.specs.declared.bounds.Bounds.{Bounds}
use Rattle.txc_txn.specs.TxnCore.{receipt_pin, Explains}
use Rattle.txc_txn.specs.RunningTxn.{TxnValue}
use Rattle.txc_txn.specs.Sessions.{IsAtLeast}
use Rattle.txc_txn_rw.specs.Answers.{AreRightIn}
use Rattle.txc_txn_rw.specs.RwCore.{tags_read}
use Rattle.txc_txn_rw.specs.Outcomes.{IsCommitted}
use Rattle.txc_caller.specs.Ports.{MayHaveTaken}
use Rattle.txc_caller.specs.CallerTxn.{CallerValue, HasEndedReading, IsBegunReading}
use Rattle.txc_caller.specs.ComputedFunctions.{top_call}
use Rattle.txc_caller.specs.CallerWrite.{CallerWriting, HasAbortedWrite, HasCommittedWrite, IsBegunWrite, IsWriteLeft, IsWriteCommitRefused}
use Rattle.txc_caller.specs.declared.step.WriteError.{WriteError}
use Rattle.txc_caller.specs.declared.step.WriteError.TheVariants.{Database, MidCall}
use Rattle.txc_c.specs.Opaque.{opaque_next}
use Rattle.txc_c.specs.Receipts.{crossing_receipt}
use Rattle.txc_c.specs.Sites.{may_begin, HasBegunAt, HasEndedAt, IsNoRoom, KeepsOpen, OfNumber, SiteValue, Stays}
use Rattle.txc_c.specs.declared.receipts.TxcReceipt.{TxcReceipt}
use Rattle.txc_c.specs.declared.opened.Open.{Open}
use Rattle.txc_c.specs.declared.opened.Open.TheVariants.{Reading, Writing}
use Rattle.txc_c_types.specs.declared.numbers.TheConstants.{BAD_ARGUMENT, CONFLICT, DONE, MID_CALL, NO_MEMORY, NOT_OPEN, REFUSED}

-- the number of an error of the database
abbrev pub database_number : DbError → ℕ
database_number (Conflict stamp) = CONFLICT
database_number Memory = NO_MEMORY
database_number error = REFUSED

-- the number of the error with which a commit of a transaction that writes failed
abbrev pub write_number : WriteError → ℕ
write_number MidCall = MID_CALL
write_number (Database error) = database_number error

-- a site may have such a stamp
abbrev pub is_site_stamp : ℕ → Bool
is_site_stamp number = nat_le number MOST_STAMP

-- ---- beginnings

-- the node has taken the events, or memory was wanting
pub record MayHaveCaughtUp (old new : CallerValue) : Type 0 where
  pub taken : MayHaveTaken old.ports.database old.ports.node new.ports.node
  pub same : new ≡ record old { ports = record old.ports { node = new.ports.node } }

-- the node takes events, and a transaction begins within these bounds
pub record BeginsReading (bounds : Bounds) (c c' : CallerValue) (x : Open) : Type 0 where
  pub first : CallerValue
  pub caught_up : MayHaveCaughtUp c first
  pub txn : TxnValue
  pub is : x ≡ Reading txn
  pub begun : IsBegunReading opaque_next bounds first c' txn

-- the node takes events, and there is no memory for the pins
pub record HasNotBegunReading (old : SiteValue) (number : ℕ) (new : SiteValue) : Type 0 where
  pub number_is : number ≡ NO_MEMORY
  pub first : CallerValue
  pub caught_up : MayHaveCaughtUp old.caller first
  pub caller : new.caller ≡ first
  pub same : new ≡ record old { caller = new.caller; opened = record old.opened { capacity = new.opened.capacity } }

abbrev pub BeginsOrNot : Bounds → ℕ → ℕ → SiteValue → ℕ → SiteValue → Type 0
BeginsOrNot bounds was is old number new = ((number ≡ DONE) × HasBegunAt (BeginsReading bounds) is old new)
    ⊎ (HasNotBegunReading old number new × (is ≡ was))

-- if there is room for one more transaction, this is the effect
abbrev pub SitePlacedTransition : (SiteValue → ℕ → SiteValue → Type 0) → Type 0 → SiteValue → ℕ → SiteValue → Type 0
SitePlacedTransition begins unwritten old number new =
    ((may_begin old ≡ true) × begins old number new) ⊎ (IsNoRoom old number new × unwritten)

-- of a transaction that only reads; its number is written if it has begun
abbrev pub BeginPlaced : Bounds → ℕ → ℕ → SiteValue → ℕ → SiteValue → Type 0
BeginPlaced bounds was is old number new = SitePlacedTransition (BeginsOrNot bounds was is) (is ≡ was) old number new

abbrev pub SiteBeginTransition : ℕ → ℕ → ℕ → ℕ → ℕ → SiteValue → ℕ → SiteValue → Type 0
SiteBeginTransition now staleness at_least was is old number new = MatchBool (is_site_stamp at_least)
    (BeginPlaced (record { now = now; staleness = staleness; at_least = at_least }) was is old number new)
    (Stays BAD_ARGUMENT old number new × (is ≡ was))

-- one that writes over the newest state, which the database holds for it
pub record BeginsWriting (c c' : CallerValue) (x : Open) : Type 0 where
  pub write : CallerWriting
  pub is : x ≡ Writing write
  pub begun : IsBegunWrite (newest c.ports.database) true write
  pub could : IsHoldable c.ports.database
  pub held : c' ≡ record c { ports = record c.ports { database = after_hold c.ports.database } }

-- the database fails for this reason, and all is unchanged
pub record IsNotBegun (reason : DbError → Type 0) (old : SiteValue) (number : ℕ) (new : SiteValue) : Type 0 where
  pub error : DbError
  pub number_is : number ≡ database_number error
  pub refused : reason error
  pub caller : new.caller ≡ old.caller
  pub same : new ≡ record old { caller = new.caller; opened = record old.opened { capacity = new.opened.capacity } }

-- of one that writes, which begins so or fails so
abbrev pub WritesOrNot : (CallerValue → CallerValue → Open → Type 0) → (DbError → Type 0) → ℕ → ℕ → SiteValue → ℕ → SiteValue → Type 0
WritesOrNot begins reason was is old number new = ((number ≡ DONE) × HasBegunAt begins is old new)
    ⊎ (IsNotBegun reason old number new × (is ≡ was))

abbrev pub BeginWritePlaced : (CallerValue → CallerValue → Open → Type 0) → (DbError → Type 0) → ℕ → ℕ → SiteValue → ℕ → SiteValue → Type 0
BeginWritePlaced begins reason was is old number new = SitePlacedTransition (WritesOrNot begins reason was is) (is ≡ was) old number new

abbrev pub SiteBeginWriteTransition : ℕ → ℕ → SiteValue → ℕ → SiteValue → Type 0
SiteBeginWriteTransition was is old number new =
    BeginWritePlaced BeginsWriting (IsHoldRefused old.caller.ports.database) was is old number new

-- one over the state of that stamp, which can be the base of a commit
pub record BeginsWritingAt (base : ℕ) (c c' : CallerValue) (x : Open) : Type 0 where
  pub write : CallerWriting
  pub is : x ≡ Writing write
  pub begun : IsBegunWrite base false write
  pub could : IsBase c.ports.database base
  pub same : c' ≡ c

abbrev pub SiteBeginWriteAtTransition : ℕ → ℕ → ℕ → SiteValue → ℕ → SiteValue → Type 0
SiteBeginWriteAtTransition stamp was is old number new = MatchBool (is_site_stamp stamp)
    (BeginWritePlaced (BeginsWritingAt stamp) (IsBaseRefused old.caller.ports.database stamp) was is old number new)
    (Stays BAD_ARGUMENT old number new × (is ≡ was))

-- ---- ends

-- Its receipt explains each answer, whatever others did meanwhile: at its pin, which its bounds allow, each
-- answer is the result of its call without a cache. Its users of pins are returned.
pub record HasCommitted (t : TxnValue) (receipt : TxcReceipt) (c c' : CallerValue) : Type 0 where
  pub told : receipt ≡ crossing_receipt (receipt_pin t.core.recorded t.core.pins.members) (length t.core.recorded)
  pub explained : Explains opaque_next t.core.seen.history t.core.bounds
      (receipt_pin t.core.recorded t.core.pins.members) t.core.recorded
  pub not_before : IsAtLeast t.core.bounds.at_least (receipt_pin t.core.recorded t.core.pins.members)
  pub row : t.core.seen.events ≡ c'.ports.database.events
  pub ended : HasEndedReading t c c'

-- by the state of its call
abbrev pub CommitsReading : Option Call → TxnValue → TxcReceipt → TxcReceipt → ℕ → SiteValue → ℕ → SiteValue → Type 0
CommitsReading None t was is n old number new = (number ≡ DONE) × HasEndedAt (HasCommitted t is) n old new
CommitsReading (Some top) t was is n old number new = Stays MID_CALL old number new × (is ≡ was)

abbrev pub CommitsAt : TxcReceipt → TxcReceipt → ℕ → Open → SiteValue → ℕ → SiteValue → Type 0
CommitsAt was is n (Reading t) old number new = CommitsReading (top_call t.core.call) t was is n old number new
CommitsAt was is n (Writing w) old number new = Stays NOT_OPEN old number new × (is ≡ was)

-- of a transaction that only reads; the receipt is written if the commit is done
abbrev pub SiteCommitTransition : TxcReceipt → TxcReceipt → ℕ → SiteValue → ℕ → SiteValue → Type 0
SiteCommitTransition was is n old number new = OfNumber (CommitsAt was is n) (is ≡ was) n old number new

-- Its changes are committed, at this stamp. Each answer is right just before the commit's event, or, if it
-- changes nothing, at the newest stamp; and so it is at the base.
pub record HasCommittedWrites (w : CallerWriting) (stamp : ℕ) (c c' : CallerValue) : Type 0 where
  pub committed : HasCommittedWrite c w stamp c'
  pub answer : IsCommitted opaque_next c'.ports.database.history w.core stamp
  pub at_base : AreRightIn opaque_next (state_at c'.ports.database.history w.core.base) w.core.answers
  pub apart : IsQuietIn c'.ports.database.history w.core.base (tags_read w.core) w.core.changes stamp
      ⊎ IsEventIn c'.ports.database.history w.core.base (tags_read w.core) w.core.changes stamp

-- it is open, with its changes
pub record HasRefusedWrite (w : CallerWriting) (old : SiteValue) (number : ℕ) (new : SiteValue) : Type 0 where
  pub error : WriteError
  pub number_is : number ≡ write_number error
  pub refused : IsWriteCommitRefused old.caller w error
  pub left_so : IsWriteLeft old.caller error new.caller
  pub keeps : KeepsOpen old new

abbrev pub CommitsWriteAt : ℕ → ℕ → ℕ → Open → SiteValue → ℕ → SiteValue → Type 0
CommitsWriteAt was is n (Writing w) old number new = ((number ≡ DONE) × HasEndedAt (HasCommittedWrites w is) n old new)
    ⊎ (HasRefusedWrite w old number new × (is ≡ was))
CommitsWriteAt was is n (Reading t) old number new = Stays NOT_OPEN old number new × (is ≡ was)

-- of one that writes; the stamp is written if the commit is done
abbrev pub SiteCommitWriteTransition : ℕ → ℕ → ℕ → SiteValue → ℕ → SiteValue → Type 0
SiteCommitWriteTransition was is n old number new = OfNumber (CommitsWriteAt was is n) (is ≡ was) n old number new

-- it is aborted: its users of pins are returned, or the hold of its base is released
abbrev pub HasAborted : Open → CallerValue → CallerValue → Type 0
HasAborted (Reading t) c c' = HasEndedReading t c c'
HasAborted (Writing w) c c' = HasAbortedWrite w c c'

abbrev pub AbortsAt : ℕ → Open → SiteValue → ℕ → SiteValue → Type 0
AbortsAt n x old number new = (number ≡ DONE) × HasEndedAt (HasAborted x) n old new

abbrev pub SiteAbortTransition : ℕ → SiteValue → ℕ → SiteValue → Type 0
SiteAbortTransition n old number new = OfNumber (AbortsAt n) (Unit {0}) n old number new
