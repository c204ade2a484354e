-- The turns of a call.
use Rattle.std.proofs.Common.{◌≡◌, List, Option, Some, sym, ap, subst, ◌∙◌}
use mathlib.Core.List.{IsPrefix}
use Rattle.txc_tags.specs.Keys.{Call}
use Rattle.txc_db.specs.History.{History}
use Rattle.txc_txn_ports.specs.declared.recorded.Recorded.{Recorded}
use Rattle.txc_txn_ports.specs.declared.request.PortRequest.{PortRequest}
use Rattle.txc_txn_ports.specs.declared.turn.Turn.TheVariants.{Ask}
use Rattle.txc_txn_ports.specs.Turns.{PortTurn}
use Rattle.txc_txn.specs.TxnCore.{CoreValue, recorded_after, KeepsSettings}
use Rattle.txc_txn_client.proofs.Grown.{prefix_self}

-- a turn after one that asks
pub recorded_on : (first now : List Recorded) (request : PortRequest) (old new : PortTurn) (k : Call) (called : Option Call) → old ≡ Ask request
    → now ≡ recorded_after first old (Some k) → called ≡ Some k → recorded_after now new called ≡ recorded_after first new (Some k)
recorded_on first now request old new k called asks is same =
    let stays : now ≡ first = is ∙ ap (λ (t : PortTurn). recorded_after first t (Some k)) asks in
    ap (λ (rs : List Recorded). recorded_after rs new called) stays ∙ ap (λ (o : Option Call). recorded_after first new o) same

-- the settings stay twice
pub settings_then : (a b c : CoreValue) → KeepsSettings a b → KeepsSettings b c → KeepsSettings a c
settings_then a b c one two = record {
  bounds = two.bounds ∙ one.bounds;
  renew_after = two.renew_after ∙ one.renew_after;
  nodes = two.nodes ∙ one.nodes;
}

-- a call that begins leaves the rest of the core
module _ (old new : CoreValue) (same : new ≡ record old { call = new.call; pinning = new.pinning }) where
  pub settings_stay : KeepsSettings old new
  settings_stay = record {
    bounds = ap (λ (c : CoreValue). c.bounds) same;
    renew_after = ap (λ (c : CoreValue). c.renew_after) same;
    nodes = ap (λ (c : CoreValue). c.nodes) same;
  }

  pub history_stays : IsPrefix old.seen.history new.seen.history
  history_stays = subst (λ (L : History). IsPrefix old.seen.history L) (sym (ap (λ (c : CoreValue). c.seen.history) same)) (prefix_self old.seen.history)

  pub row_stays : new.seen.events ≡ old.seen.events
  row_stays = ap (λ (c : CoreValue). c.seen.events) same

  pub recorded_stays : new.recorded ≡ old.recorded
  recorded_stays = ap (λ (c : CoreValue). c.recorded) same
