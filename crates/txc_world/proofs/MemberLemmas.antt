-- What a world says of the members of a pin set.
use Rattle.std.proofs.Common.{zero, suc, [], ◌∷◌, ◌≡◌, ℕ, List, Option, Some, sym, ap, subst, ◌∙◌, slice_get, slice_index_or, All}
use Rattle.std.specs.Prelude.{option_map}
use Rattle.std.proofs.lemmas.List.Elements.{All-head, All-tail}
use mathlib.Core.List.{IsPrefix}
use Rattle.txc_db.specs.History.{History, state_at}
use Rattle.txc_db.proofs.Histories.{moment_stays, pin_within}
use Rattle.txc_cushion.specs.declared.pin.Pin.{Pin}
use Rattle.txc_app.specs.Eval.{Next}
use Rattle.txc_txn_ports.specs.declared.bounds.Bounds.{Bounds}
use Rattle.txc_txn_ports.specs.declared.recorded.Recorded.{Recorded}
use Rattle.txc_txn_ports.specs.Answers.{AreConsistent, IsFresh}
use Rattle.txc_txn.specs.RunningTxn.{IsTxn}
use Rattle.txc_world.specs.declared.actor.OpenTxn.{OpenTxn}
use Rattle.txc_world.specs.declared.actor.Actor.{Actor}
use Rattle.txc_world.specs.declared.actor.Actor.TheVariants as actors
use Rattle.txc_world.specs.declared.settings.WorldSettings.{WorldSettings}
use Rattle.txc_world.specs.Observation.{Reading, reading, Observation}
use Rattle.txc_world.specs.Ports.{PortsValue, whole_of}
use Rattle.txc_world.specs.Actors.{observed_of, IsActorThere}
use Rattle.txc_world.specs.Worlds.{told_of, AreMembersOf, IsWorld}
use Rattle.txc_world.proofs.Explaining.{state_later}
use Rattle.txc_world.proofs.Stepping.{observed_there}

-- what is true of all is true of the one of the number
pub all_get : {X : Type 0} (P : X → Type 0) (xs : List X) (i : ℕ) (x : X) → All P xs → slice_get xs i ≡ Some x → P x
all_get P [] i x all is = cc is
all_get P (y ∷ ys) zero x all is = let same : y ≡ x = cc is in subst P same (All-head P y ys all)
all_get P (y ∷ ys) (suc i) x all is = all_get P ys i x (All-tail P y ys all) is

-- a pin that the bounds allow, they allow in a longer history
fresh_later : (L M : History) (bounds : Bounds) (pin : Pin) → IsPrefix L M → IsFresh L bounds pin → IsFresh M bounds pin
fresh_later L M bounds pin on h = record {
  shown = moment_stays L M pin.stamp pin.moment on h.shown;
  allowed = record {
    moment = h.allowed.moment;
    pinned = moment_stays L M pin.stamp h.allowed.moment on h.allowed.pinned;
    fresh = h.allowed.fresh;
    late = h.allowed.late;
  };
}

consistent_later : (next : Next) (L M : History) (bounds : Bounds) (answers : List Recorded) (pin : Pin) → IsPrefix L M → IsFresh L bounds pin
    → AreConsistent next answers (state_at L pin.stamp) → AreConsistent next answers (state_at M pin.stamp)
consistent_later next L M bounds answers pin on h right =
    subst (AreConsistent next answers) (sym (state_later L M pin.stamp on (pin_within L pin.stamp pin.moment h.shown))) right

-- what an open transaction is shown as
abbrev told_reading : {A C : Type 0} → OpenTxn A C → Reading
told_reading o = record { bounds = o.txn.core.bounds; call = option_map (λ c. c.key) o.call; answers = o.txn.core.recorded }

reading_is : (a b : Reading) → Some (reading a) ≡ Some (reading b) → a ≡ b
reading_is a b same = cc same

module _ {A C : Type 0} (next : Next) (o : OpenTxn A C) (kept : IsTxn next o.txn) (M : History) (part : IsPrefix o.txn.core.seen.history M) where
  members_of : AreMembersOf next M (told_reading o) o.txn.core.pins.has_present o.txn.core.pins.members
  members_of = record {
    some = kept.holds.valid.set.some;
    fresh = λ k d below.
        fresh_later o.txn.core.seen.history M o.txn.core.bounds (slice_index_or o.txn.core.pins.members k d) part
        (kept.holds.valid.fresh k d below);
    consistent = λ k d below.
        consistent_later next o.txn.core.seen.history M o.txn.core.bounds o.txn.core.recorded (slice_index_or o.txn.core.pins.members k d) part
        (kept.holds.valid.fresh k d below) (kept.holds.valid.consistent k d below);
  }

-- the actor of the number is as it is shown
pub members_there : {A C : Type 0} (next : Next) (settings : WorldSettings) (ports : PortsValue) (floors : List ℕ) (cast : List (Option (Actor A C))) (number : ℕ)
    (o : OpenTxn A C) (now : Observation) (r : Reading) → IsTxn next o.txn → IsWorld next settings ports floors cast
    → slice_get cast number ≡ Some (Some (actors.Reading o)) → told_of settings ports floors cast ≡ now → slice_get now.actors number ≡ Some (reading r)
    → AreMembersOf next now.history r o.txn.core.pins.has_present o.txn.core.pins.members
members_there next settings ports floors cast number o now r kept world is shows at =
    let open_there : IsActorThere next (whole_of ports) settings.nodes (Some (actors.Reading o)) =
    all_get (IsActorThere next (whole_of ports) settings.nodes) cast number (Some (actors.Reading o)) world.there is in
    let there : slice_get (told_of settings ports floors cast).actors number ≡ Some (observed_of (actors.Reading o)) =
    observed_there settings ports floors cast number (actors.Reading o) is in
    let same : told_reading o ≡ r =
    reading_is (told_reading o) r (sym there ∙ ap (λ (t : Observation). slice_get t.actors number) shows ∙ at) in
    let members : AreMembersOf next ports.database.history (told_reading o) o.txn.core.pins.has_present o.txn.core.pins.members =
    members_of next o kept ports.database.history open_there.seen.begins in
    subst (λ (t : Observation). AreMembersOf next t.history r o.txn.core.pins.has_present o.txn.core.pins.members) shows
    (subst (λ (q : Reading). AreMembersOf next ports.database.history q o.txn.core.pins.has_present o.txn.core.pins.members) same members)
