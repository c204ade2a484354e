-- The results of a transaction, and their explanation.
use Rattle.std.specs.Prelude.{◌≡◌, List, All, Some}
use Rattle.txc_rows.specs.States.{State}
use Rattle.txc_db.specs.History.{History, moment_at, IsAllowed}
use Rattle.txc_cushion.specs.declared.pin.Pin.{Pin}
use Rattle.txc_app.specs.Eval.{Next, eval}
use Rattle.txc_txn_ports.specs.declared.bounds.Bounds.{Bounds}
use Rattle.txc_txn_ports.specs.declared.recorded.Recorded.{Recorded}

-- the pin is one of the history, and fresh enough for the bounds
pub record IsFresh (L : History) (bounds : Bounds) (pin : Pin) : Type 0 where
  pub shown : moment_at L pin.stamp ≡ Some pin.moment
  pub allowed : IsAllowed L pin.stamp bounds.now bounds.staleness bounds.at_least

-- in the state, each recorded value is the uncached one of its call
abbrev pub AreConsistent : Next → List Recorded → State → Type 0
AreConsistent next recorded s = All (λ r. eval next r.key s ≡ Some r.value) recorded
