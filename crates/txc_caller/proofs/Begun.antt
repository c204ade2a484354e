-- A core that has begun, clause by clause.
use Rattle.std.proofs.Common.{◌≡◌, ◌∙◌, ℕ, [], true, Result, Ok, Err, ap, subst, sym}
use Rattle.std.specs.Prelude.{map, IfOk}
use Rattle.txc_stream.specs.Names.{Name}
use Rattle.txc_app.specs.Eval.{Next}
use Rattle.txc_cushion.specs.declared.pin.Pin.{Pin}
use Rattle.txc_cushion.specs.Cushion.{after_fresh, handed_out, CushionValue}
use Rattle.txc_txn_ports.specs.declared.bounds.Bounds.{Bounds}
use Rattle.txc_call_registry.specs.Objects.{AllIdle, Objects}
use Rattle.txc_txn.specs.TxnCore.{value_of, CoreHolds, CoreValue, IsCore, IsIdle}
use Rattle.txc_txn.specs.declared.txn_core.TxnCore.{TxnCore}
use Rattle.txc_txn.specs.RunningTxn.{TxnValue}
use Rattle.txc_caller.specs.Ports.{CallerPorts}
use Rattle.txc_caller.specs.CallerTxn.{CallerValue, IsBegunCore, IsBegunReading, IsLent}

pub begun_core : {E : Type 0} (r : Result TxnCore E) (renewed : ℕ) (asked : Bounds) (row row' : Name) (k k' : CushionValue) → row ≡ row' → k ≡ k'
    → IfOk r (λ core. (next : Next) (objects : Objects) → AllIdle objects → IsCore next objects (value_of core))
    → IfOk r (λ core. (next : Next) (objects : Objects) → CoreHolds next (value_of core).seen.history objects (value_of core))
    → IfOk r (λ core. IsIdle (value_of core)) → IfOk r (λ core. (value_of core).seen.events ≡ row) → IfOk r (λ core. (value_of core).bounds ≡ asked)
    → IfOk r (λ core. (value_of core).renew_after ≡ renewed) → IfOk r (λ core. (value_of core).nodes ≡ 1) → IfOk r (λ core. (value_of core).recorded ≡ [])
    → IfOk r (λ core. (value_of core).pins.members ≡ handed_out k asked.now asked.staleness asked.at_least)
    → IfOk r (λ core. (value_of core).taken ≡ map (λ p. p.stamp) (handed_out k asked.now asked.staleness asked.at_least)) → IfOk r (λ core. (value_of core).pins.has_present ≡ true)
    → IfOk r (λ core. IsBegunCore renewed asked row' k' (value_of core))
begun_core (Ok core) renewed asked row row' k k' same is fits holds idle events bounds renew nodes recorded members taken present = record {
  fits = fits;
  holds = holds;
  idle = idle;
  events = events ∙ same;
  bounds = bounds;
  renew_after = renew;
  nodes = nodes;
  recorded = recorded;
  members = members ∙ ap (λ (c : CushionValue). handed_out c asked.now asked.staleness asked.at_least) is;
  taken = taken ∙ ap (λ (c : CushionValue). map (λ (p : Pin). p.stamp) (handed_out c asked.now asked.staleness asked.at_least)) is;
  present = present;
}
begun_core (Err e) renewed asked row row' k k' same is fits holds idle events bounds renew nodes recorded members taken present = tt

-- a transaction that begins with such a core
pub begun_reading : (next : Next) (asked : Bounds) (old : CallerValue) (ports : CallerPorts) (t : TxnValue) (core : CoreValue) → t.core ≡ core → IsLent next t
    → IsBegunCore old.renew_after asked ports.database.events old.ports.cushion core → ports.cushion ≡ after_fresh old.ports.cushion asked.now asked.staleness asked.at_least
    → ports ≡ record old.ports { cushion = ports.cushion } → IsBegunReading next asked old (record { ports = ports; renew_after = old.renew_after }) t
begun_reading next asked old ports t core is lent begun users same = record {
  bounds = ap (λ (c : CoreValue). c.bounds) is ∙ begun.bounds;
  recorded = ap (λ (c : CoreValue). c.recorded) is ∙ begun.recorded;
  valid = lent.valid;
  functions = lent.functions;
  idle = subst IsIdle (sym is) begun.idle;
  members = ap (λ (c : CoreValue). c.pins.members) is ∙ begun.members;
  taken = ap (λ (c : CoreValue). c.taken) is ∙ begun.taken;
  present = ap (λ (c : CoreValue). c.pins.has_present) is ∙ begun.present;
  of_caller = record { row = ap (λ (c : CoreValue). c.seen.events) is ∙ begun.events; renew_after = ap (λ (c : CoreValue). c.renew_after) is ∙ begun.renew_after };
  users = ap (λ (p : CallerPorts). record old { ports = p }) (same ∙ ap (λ (k : CushionValue). record old.ports { cushion = k }) users);
}
