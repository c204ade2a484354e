-- What is explained in a history.
use Rattle.std.proofs.Common.{◌≡◌, ℕ, ◌≤◌, List, [], Option, Some, None, fold, length, ap, sym, subst}
use mathlib.Core.List.{IsPrefix}
use Rattle.txc_stream.proofs.Offered.{prefix_take}
use Rattle.txc_db.specs.History.{History, state_after_event, state_at}
use Rattle.txc_db.proofs.Histories.{moment_stays, pin_within}
use Rattle.txc_cushion.specs.declared.pin.Pin.{Pin}
use Rattle.txc_app.specs.Eval.{Next}
use Rattle.txc_txn_ports.specs.declared.bounds.Bounds.{Bounds}
use Rattle.txc_txn_ports.specs.declared.recorded.Recorded.{Recorded}
use Rattle.txc_txn_ports.specs.Answers.{AreConsistent}
use Rattle.txc_txn.specs.TxnCore.{Explains}

pub state_later : (L M : History) (t : ℕ) → IsPrefix L M → t ≤ length L → state_at M t ≡ state_at L t
state_later L M t on within = ap (λ (events : History). fold state_after_event [] events) (prefix_take L M t on within)

-- what explains answers in a history explains them in a longer one
pub explained_later : (next : Next) (L M : History) (bounds : Bounds) (pin : Option Pin) (answers : List Recorded) → IsPrefix L M
    → Explains next L bounds pin answers → Explains next M bounds pin answers
explained_later next L M bounds None answers on h = h
explained_later next L M bounds (Some pin) answers on h = (
  h.0,
  record {
    shown = moment_stays L M pin.stamp pin.moment on h.1.shown;
    allowed = record {
      moment = h.1.allowed.moment;
      pinned = moment_stays L M pin.stamp h.1.allowed.moment on h.1.allowed.pinned;
      fresh = h.1.allowed.fresh;
      late = h.1.allowed.late;
    };
  },
  subst (AreConsistent next answers) (sym (state_later L M pin.stamp on (pin_within L pin.stamp pin.moment h.1.shown))) h.2,
)
