-- The reads and commits of a caller, in order, and its least stamp after them.
use Rattle.std.specs.Prelude.{◌≡◌, ◌⊎◌, ℕ, ◌≤◌, max, List, [], ◌∷◌, Option, Some, None, option_map}
use Rattle.txc_db.specs.FrontsAndFeeds.{FrontValue}
use Rattle.txc_cushion.specs.declared.pin.Pin.{Pin}
use Rattle.txc_txn_ports.specs.declared.bounds.Bounds.{Bounds}
use Rattle.txc_txn.specs.declared.receipt.Receipt.{Receipt}

-- the floor after a receipt: the greater of it and the stamp of the receipt's pin, if it has one
abbrev pub floor_after : ℕ → Option Pin → ℕ
floor_after floor None = floor
floor_after floor (Some pin) = max floor pin.stamp

-- the receipt has no pin, or one whose stamp is not below this
abbrev pub IsAtLeast : ℕ → Option Pin → Type 0
IsAtLeast least None = Unit {0}
IsAtLeast least (Some pin) = least ≤ pin.stamp

-- An event of a caller: it noted the receipt of a read-only transaction; it noted the stamp of a commit of its
-- own, with the history that it saw; or it began a read-only transaction with these bounds.
pub data SessionEvent : Type 0 where
  noted_receipt : Receipt → SessionEvent
  noted_commit : ℕ → FrontValue → SessionEvent
  began : Bounds → SessionEvent

-- the stamp that it noted by this, if it noted one
abbrev pub stamp_of : SessionEvent → Option ℕ
stamp_of (noted_receipt receipt) = option_map (λ (pin : Pin). pin.stamp) receipt.pin
stamp_of (noted_commit stamp seen) = Some stamp
stamp_of (began bounds) = None

-- it noted this stamp by one of these
abbrev pub HasNoted : List SessionEvent → ℕ → Type 0
HasNoted [] stamp = ⊥
HasNoted (deed ∷ deeds) stamp = (stamp_of deed ≡ Some stamp) ⊎ HasNoted deeds stamp

-- the floor of a session after these events of its caller: the greatest stamp that it noted, or 0 if it noted
-- none
pub record IsFloorOf (deeds : List SessionEvent) (floor : ℕ) : Type 0 where
  pub greatest : (stamp : ℕ) → HasNoted deeds stamp → stamp ≤ floor
  pub noted : (floor ≡ 0) ⊎ HasNoted deeds floor
