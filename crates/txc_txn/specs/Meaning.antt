-- Correctness of the pin set of a read-only transaction.
use Rattle.std.specs.Prelude.{◌≡◌, true, List, All, Contains}
use Rattle.txc_rows.specs.States.{State}
use Rattle.txc_db.specs.History.{History, state_at}
use Rattle.txc_pinset.specs.Members.{PinSetValue, IsPinSet}
use Rattle.txc_app.specs.Eval.{Next}
use Rattle.txc_call_registry.specs.Objects.{Objects}
use Rattle.txc_call.specs.CallMachine.{Calling, CallHolds, InCall, CallIsUnreached}
use Rattle.txc_txn_ports.specs.declared.bounds.Bounds.{Bounds}
use Rattle.txc_txn_ports.specs.declared.recorded.Recorded.{Recorded}
use Rattle.txc_txn_ports.specs.Answers.{IsFresh, AreConsistent}

-- every member is in each reach of the call: of its open frames, and of a value that waits for its insertion
abbrev pub LieWithin : PinSetValue → Calling → Type 0
LieWithin pins call = All (λ p. InCall p.stamp call) pins.members

-- Correctness of a pin set in a history, with the bounds of its transaction, its recorded results, and its open
-- call. It has a member or the present, and the bounds allow every member. At every member, the recorded values
-- are the uncached ones of their calls. The answers of each open frame are correct over the frame's reach, and
-- if it is still valid, its tags cover every query met for them. Without a reach they are correct in every
-- state, and depend on no query. So is a value that waits for its insertion. Every member is in all these
-- reaches. While the set has the present, there is no such reach, and the recorded results are correct in every
-- state.
pub record PinSetInvariant (next : Next) (L : History) (bounds : Bounds) (pins : PinSetValue)
    (recorded : List Recorded) (objects : Objects)
    (call : Calling) : Type 0 where
  pub set : IsPinSet pins
  pub fresh : All (IsFresh L bounds) pins.members
  pub consistent : All (λ p. AreConsistent next recorded (state_at L p.stamp)) pins.members
  pub right : CallHolds next L objects call
  pub within : LieWithin pins call
  pub unreached : pins.has_present ≡ true → CallIsUnreached call
  pub everywhere : pins.has_present ≡ true → (s : State) → AreConsistent next recorded s

-- it has lost members, or the present, and gained nothing; it is a pin set still
pub record HasOnlyLost (old new : PinSetValue) : Type 0 where
  pub set : IsPinSet new
  pub members : All (Contains old.members) new.members
  pub present : new.has_present ≡ true → old.has_present ≡ true
