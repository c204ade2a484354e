-- Receipts over versions, and what explains them.
use Rattle.std.specs.Prelude.{◌≡◌, ℕ, ◌+◌, ◌≤◌, List, [], take, Option, Some, None}
use Rattle.std.specs.List.{All}
use Rattle.txc_db.specs.History.{History}
use Rattle.txc_cushion.specs.declared.pin.Pin.{Pin}
use Rattle.txc_txn_ports.specs.declared.bounds.Bounds.{Bounds}
use Rattle.txc_txn_ports.specs.declared.recorded.Recorded.{Recorded}
use Rattle.txc_txn.specs.TxnCore.{Explains}
use Rattle.txc_app_external.specs.Snapshots.{Snapshots, last_snapshot, ReadsAreCovered}
use Rattle.txc_app_external.specs.Functions.{Functions, uncached, over_versions}
use Rattle.txc_app_external.specs.VersionHistory.{HasFollowed, FollowsSnapshots}
use Rattle.txc_app_external.specs.Laws.{AreNumbered}
use Rattle.txc_app_external.specs.WorkedSnapshots.{missing}

-- The receipt is of snapshot k: the history up to and with its pin has followed the snapshots up to k. The
-- moment of the snapshot is no older than the bounds allow, and the pin not before the stamp that they ask for.
-- Each answer is the result of its call if reads find what this snapshot has, with no cache.
pub record IsOfSnapshot (D : Snapshots) (own : Functions) (L : History) (bounds : Bounds) (pin : Pin) (answers : List Recorded) (k : ℕ) : Type 0 where
  pub taken : k ≤ last_snapshot D
  pub followed : HasFollowed D (take pin.stamp L) k
  pub fresh : bounds.now ≤ D.moment k + bounds.staleness
  pub at_least : bounds.at_least ≤ pin.stamp
  pub uncached : All (λ r. uncached own (D.find k) r.key ≡ Some r.value) answers

-- the receipt has no pin and no answer, or it is of one snapshot
abbrev pub IsOfOneSnapshot : Snapshots → Functions → History → Bounds → Option Pin → List Recorded → Type 0
IsOfOneSnapshot D own L bounds None answers = answers ≡ []
IsOfOneSnapshot D own L bounds (Some pin) answers = (k : ℕ) × IsOfSnapshot D own L bounds pin answers k

-- so it is with each receipt that is explained over a history that follows the snapshots
abbrev pub AreOfOneSnapshot : Snapshots → Type 0
AreOfOneSnapshot D = (own : Functions) (L : History) (bounds : Bounds) (pin : Option Pin) (answers : List Recorded)
    → FollowsSnapshots D L → Explains (over_versions D own) L bounds pin answers → IsOfOneSnapshot D own L bounds pin answers

-- the premise implies it, if the snapshots are numbered so
abbrev pub ReceiptsShowSnapshots : Type 0
ReceiptsShowSnapshots = (D : Snapshots) → ReadsAreCovered D → AreNumbered D → AreOfOneSnapshot D

-- it is false of the snapshots of the worked example in which a note is missing
abbrev pub ReceiptsNeedThePremise : Type 0
ReceiptsNeedThePremise = AreNumbered missing × (AreOfOneSnapshot missing → ⊥)
