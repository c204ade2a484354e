-- A transaction that only reads, at its end.
use Rattle.std.proofs.Common.{◌≡◌, ◌∙◌, ℕ, List, Option, Some, None, ap, subst}
use Rattle.txc_app.specs.Eval.{Next}
use Rattle.txc_cushion.specs.declared.pin.Pin.{Pin}
use Rattle.txc_db.specs.History.{History}
use Rattle.txc_txn_ports.specs.declared.bounds.Bounds.{Bounds}
use Rattle.txc_txn_ports.specs.declared.recorded.Recorded.{Recorded}
use Rattle.txc_txn.specs.TxnCore.{Explains}
use Rattle.txc_txn.specs.RunningTxn.{TxnValue}
use Rattle.txc_txn.specs.Sessions.{IsAtLeast}
use Rattle.txc_caller.specs.Ports.{AreGivenBack, CallerPorts, HasGrownDatabase}
use Rattle.txc_caller.specs.CallerTxn.{CallerValue, HasEndedReading, KeepsCaller}
use Rattle.txc_caller.proofs.Letting.{grown_same}

-- what explains answers is not before the stamp that the bounds name
pub at_least_of : (next : Next) (L : History) (bounds : Bounds) (pin : Option Pin) (answers : List Recorded) → Explains next L bounds pin answers → IsAtLeast bounds.at_least pin
at_least_of next L bounds None answers h = tt
at_least_of next L bounds (Some pin) answers h = h.1.allowed.late

-- its pins are given back
pub ended_so : (t : TxnValue) (old : CallerValue) (before after : CallerPorts) (renewed : ℕ) (stamps : List ℕ) → record { ports = before; renew_after = renewed } ≡ old
    → stamps ≡ t.core.taken → AreGivenBack stamps before.cushion after.cushion → after ≡ record before { cushion = after.cushion }
    → HasEndedReading t old (record { ports = after; renew_after = renewed })
ended_so t old before after renewed stamps is taken given same = subst (λ (v : CallerValue). HasEndedReading t v (record { ports = after; renew_after = renewed })) is (record {
  given_back = subst (λ (ss : List ℕ). AreGivenBack ss before.cushion after.cushion) taken given;
  same = ap (λ (p : CallerPorts). record { ports = p; renew_after = renewed }) same;
})

-- what that keeps of the caller
pub ended_keeps : (old : CallerValue) (before after : CallerPorts) (renewed : ℕ) → record { ports = before; renew_after = renewed } ≡ old
    → after ≡ record before { cushion = after.cushion } → KeepsCaller old (record { ports = after; renew_after = renewed })
ended_keeps old before after renewed is same = record {
  row = ap (λ (p : CallerPorts). p.database.events) same ∙ ap (λ (v : CallerValue). v.ports.database.events) is;
  renew_after = ap (λ (v : CallerValue). v.renew_after) is;
}

pub ended_grown : (old : CallerValue) (before after : CallerPorts) (renewed : ℕ) → record { ports = before; renew_after = renewed } ≡ old
    → after ≡ record before { cushion = after.cushion } → HasGrownDatabase old.ports.database after.database
ended_grown old before after renewed is same =
    subst (λ (v : CallerValue). HasGrownDatabase v.ports.database after.database) is (grown_same before.database after.database (ap (λ (p : CallerPorts). p.database) same))
