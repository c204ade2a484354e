-- A read-write transaction between two calls.
use Rattle.std.specs.Prelude.{◌≡◌, [], None}
use Rattle.txc_db.specs.History.{History}
use Rattle.txc_app.specs.Eval.{Next}
use Rattle.txc_call_registry.specs.Objects.{Objects}
use Rattle.txc_txn_rw.specs.RwCore.{RwValue, RwHolds}

-- The value of a transaction in contracts: its core; the history that it has seen, which has its base; and the
-- state of the objects of its functions.
pub record RwTxnValue : Type 0 where
  pub core : RwValue
  pub history : History
  pub objects : Objects

-- no call is open, and no query, and each answer is right in the history
pub record IsRwResting (next : Next) (L : History) (c : RwValue) : Type 0 where
  pub frames : c.call.frames ≡ []
  pub need : c.call.need ≡ None
  pub reading : c.reading ≡ None
  pub holds : (objects : Objects) → RwHolds next L objects c
