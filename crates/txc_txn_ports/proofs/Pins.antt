-- Pins that the bounds allow.
use Rattle.std.proofs.Common.{◌≡◌, List, Some}
use Rattle.std.specs.Prelude.{All}
use Rattle.txc_db.specs.History.{History, moment_at, IsAllowed}
use Rattle.txc_cushion.specs.declared.pin.Pin.{Pin}
use Rattle.txc_txn_ports.specs.declared.bounds.Bounds.{Bounds}
use Rattle.txc_txn_ports.specs.Answers.{IsFresh}

-- pins that a history shows, and that the bounds allow, are fresh
pub fresh_pins : (L : History) (bounds : Bounds) (pins : List Pin) → All (λ p. moment_at L p.stamp ≡ Some p.moment) pins
    → All (λ p. IsAllowed L p.stamp bounds.now bounds.staleness bounds.at_least) pins → All (IsFresh L bounds) pins
fresh_pins L bounds pins shown allowed = λ i d below. record { shown = shown i d below; allowed = allowed i d below }
