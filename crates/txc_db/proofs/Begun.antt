-- A history that begins with a state.
use Rattle.std.proofs.Common.{◌≡◌, ℕ, Bool, false, List, [], ◌∷◌, length, map, ap, sym, subst, ◌∙◌, arith}
use Rattle.txc_rows.specs.declared.query.Change.TheVariants.{Put}
use Rattle.txc_rows.specs.States.{State, IsState}
use Rattle.txc_rows.specs.RowTags.{tags_between}
use Rattle.txc_rows.specs.declared.version.Versioned.{Versioned}
use Rattle.txc_rows.specs.Versions.{purged, counted_from}
use Rattle.txc_rows.specs.KeptStates.{KeepsStates, KeepsBegun}
use Rattle.txc_rows.specs.Laws.{PutsMakeState, NetTransition}
use Rattle.txc_stream.specs.Names.{Name}
use Rattle.txc_db.specs.Facts.{EventValue}
use Rattle.txc_db.specs.History.{History, AreTagged, state_after_event, state_at, state_event}
use Rattle.txc_db.specs.DatabaseValue.{DatabaseValue, newest, newest_state, begun_anew, IsSound}
use Rattle.txc_db.proofs.Histories.{tagged_pushed}
use Rattle.txc_db.proofs.Sound.{tagged_empty}

pub tagged_one : (e : EventValue) → e.tags ≡ tags_between [] (state_after_event [] e) → AreTagged (e ∷ [])
tagged_one e beside = tagged_pushed [] e tagged_empty beside

module _ (puts : PutsMakeState) (transition : NetTransition) where
  pub state_begun : (s : State) → IsState s → state_at (state_event s ∷ []) 1 ≡ s
  state_begun s is = (transition [] (map Put s) tt).transition ∙ puts s is

  pub beside_begun : (s : State) → (state_event s).tags ≡ tags_between [] (state_after_event [] (state_event s))
  beside_begun s = ap (tags_between []) (sym (transition [] (map Put s) tt).transition)

  module _ (d new : DatabaseValue) (begins : new.history ≡ state_event (newest_state d) ∷ []) (same : new.most ≡ d.most) (sound : IsSound d) where
    is_newest : IsState (newest_state d)
    is_newest = sound.kept.each (newest d) sound.kept.kept (omega arith)

    pub begun_state : newest_state new ≡ newest_state d
    begun_state = ap (λ (L : History). state_at L (length L)) begins ∙ state_begun (newest_state d) is_newest

    pub begun_sound : new.horizon ≡ 1 → new.holds ≡ [] → KeepsBegun (newest d) d.versions new.versions → IsSound new
    begun_sound low none keeps =
        let first = state_event (newest_state d) in
        let kept : KeepsStates (state_at (first ∷ [])) 1 1 new.versions = keeps (state_at d.history) (state_at (first ∷ [])) d.horizon sound.kept (state_begun (newest_state d) is_newest) in
        record {
          tagged = subst AreTagged (sym begins) (tagged_one first (beside_begun (newest_state d)));
          kept = subst (λ (L : History). KeepsStates (state_at L) new.horizon (length L) new.versions) (sym begins) (subst (λ (h : ℕ). KeepsStates (state_at (first ∷ [])) h 1 new.versions) (sym low) kept);
          limit = rw same sound.limit;
          held = rw none tt;
          rising = rw none tt;
        }

pub begun_is : (d new : DatabaseValue) (events : Name) → new.events ≡ events → new.history ≡ state_event (newest_state d) ∷ [] → new.versions ≡ map (counted_from (newest d)) (purged (newest d) d.versions)
    → new.most ≡ d.most → new.horizon ≡ 1 → new.holds ≡ [] → new.broken ≡ false → new ≡ begun_anew d events
begun_is d new events named begins left same low none whole =
    let first = state_event (newest_state d) ∷ [] in
    let vs = map (counted_from (newest d)) (purged (newest d) d.versions) in
    ap (λ (x : Name). let w : DatabaseValue = record new { events = x } in w) named
    ∙ (ap (λ (x : History). let w : DatabaseValue = record new { events = events; history = x } in w) begins
    ∙ (ap (λ (x : List Versioned). let w : DatabaseValue = record new { events = events; history = first; versions = x } in w) left
    ∙ (ap (λ (x : ℕ). let w : DatabaseValue = record new { events = events; history = first; versions = vs; most = x } in w) same
    ∙ (ap (λ (x : ℕ). let w : DatabaseValue = record { events = events; history = first; versions = vs; most = d.most; horizon = x; holds = new.holds; broken = new.broken } in w) low
    ∙ (ap (λ (x : List ℕ). let w : DatabaseValue = record { events = events; history = first; versions = vs; most = d.most; horizon = 1; holds = x; broken = new.broken } in w) none
    ∙ ap (λ (x : Bool). let w : DatabaseValue = record { events = events; history = first; versions = vs; most = d.most; horizon = 1; holds = []; broken = x } in w) whole)))))
