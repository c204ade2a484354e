-- What a database keeps through its calls.
use Rattle.std.proofs.Common.{◌≡◌, ℕ, zero, suc, false, refl, ◌+◌, ◌≤◌, List, [], ◌∷◌, ◌++◌, length, ap, sym, subst, ◌∙◌, arith, add-one}
use Rattle.std.proofs.lemmas.List.{length_push}
use Rattle.txc_rows.specs.States.{State, after_changes}
use Rattle.txc_rows.specs.declared.query.Change.{Change}
use Rattle.txc_rows.specs.declared.version.Versioned.{Versioned}
use Rattle.txc_rows.specs.Net.{IsNet}
use Rattle.txc_rows.specs.RowTags.{tags_between}
use Rattle.txc_rows.specs.KeptStates.{KeepsStates, KeepsWritten, KeepsPurged, StateTransition}
use Rattle.txc_rows.specs.Laws.{NoTagsBetween}
use Rattle.txc_rows.specs.StoreHistory.{KeepsAgreed, KeepsQuiet}
use Rattle.txc_stream.specs.Names.{Name}
use Rattle.txc_db.specs.Facts.{Fact, EventValue, commit}
use Rattle.txc_db.specs.History.{state_at, AreTagged, pin_event, after_fact}
use Rattle.txc_db.specs.DatabaseValue.{DatabaseValue, newest, newest_state, IsLimit, IsSound, IsReadable, least}
use Rattle.txc_db.proofs.Histories.{states_stay, state_before, state_pushed, tagged_pushed}
use Rattle.txc_db.proofs.HeldStamps.{rises_push, least_low, least_high, readable_later, readable_from}
use Rattle.txc_tags.proofs.All.{all-append}

-- the versions keep the old states of a longer history
kept_on : KeepsAgreed → (d : DatabaseValue) (e : EventValue) → IsSound d → KeepsStates (state_at (d.history ++ e ∷ [])) d.horizon (newest d) d.versions
kept_on agreed d e s = agreed (state_at d.history) (state_at (d.history ++ e ∷ [])) d.horizon (newest d) d.versions (λ t low high. sym (states_stay d.history (e ∷ []) t high)) s.kept

-- ---- a new database

pub tagged_empty : AreTagged []
tagged_empty zero v is = absurd (cc is)
tagged_empty (suc t) v is = absurd (cc is)

pub new_sound : (events : Name) (vs : List Versioned) (most : ℕ) → IsLimit most → ((states : ℕ → State) → states 0 ≡ [] → KeepsStates states 0 0 vs)
    → IsSound (record { events = events; history = []; versions = vs; most = most; horizon = 0; holds = []; broken = false })
new_sound events vs most limit keeps = record {
  tagged = tagged_empty;
  kept = keeps (state_at []) refl;
  limit = limit;
  held = tt;
  rising = tt;
}

-- ---- a pin

pub pin_sound : KeepsAgreed → KeepsQuiet → NoTagsBetween → (d : DatabaseValue) (moment stamp : ℕ) → stamp ≡ newest d + 1 → IsSound d
    → IsSound (record d { history = d.history ++ pin_event moment ∷ []; holds = d.holds ++ stamp ∷ [] })
pin_sound agreed quiet none d moment stamp is s = record {
  tagged = tagged_pushed d.history (pin_event moment) s.tagged (sym (none (newest_state d)));
  kept = subst (λ (n : ℕ). KeepsStates (state_at (d.history ++ pin_event moment ∷ [])) d.horizon n d.versions) (sym (len ∙ add-one (newest d))) (quiet (state_at (d.history ++ pin_event moment ∷ [])) d.horizon (newest d) d.versions stays (kept_on agreed d (pin_event moment) s));
  limit = s.limit;
  held = rw len (all-append (IsReadable d.horizon (newest d + 1)) d.holds (stamp ∷ []) (readable_later d.horizon (newest d) d.holds s.held) (record { low = let h = s.kept.kept in omega (arith, is, h); high = omega (arith, is) }, tt));
  rising = rw is (rises_push d.horizon (newest d + 1) d.holds (readable_later d.horizon (newest d) d.holds s.held) s.rising);
}
  where
    len : length (d.history ++ pin_event moment ∷ []) ≡ newest d + 1
    len = length_push d.history (pin_event moment)

    stays : state_at (d.history ++ pin_event moment ∷ []) (suc (newest d)) ≡ state_at (d.history ++ pin_event moment ∷ []) (newest d)
    stays = state_pushed d.history (pin_event moment) ∙ sym (state_before d.history (pin_event moment))

-- ---- a commit

commit_leads : (d : DatabaseValue) (net : List Change) (e : EventValue) → e.fact ≡ commit net → IsNet (newest_state d) net (after_changes net (newest_state d)) → StateTransition (state_at (d.history ++ e ∷ [])) (newest d) (suc (newest d)) net
commit_leads d net e is transition = record {
  later = omega arith;
  quiet = λ t low high. let same : t ≡ newest d = omega (arith, low, high) in ap (state_at (d.history ++ e ∷ [])) same;
  changes = rw (state_before d.history e, state_pushed d.history e, is) transition;
}

pub commit_sound : KeepsAgreed → (d : DatabaseValue) (net : List Change) (e : EventValue) (vs : List Versioned) → e.fact ≡ commit net
    → IsNet (newest_state d) net (after_changes net (newest_state d)) → e.tags ≡ tags_between (newest_state d) (after_changes net (newest_state d))
    → KeepsWritten net (suc (newest d)) d.versions vs → IsSound d
    → IsSound (record d { history = d.history ++ e ∷ []; versions = vs })
commit_sound agreed d net e vs is transition tags written s = record {
  tagged = tagged_pushed d.history e s.tagged (tags ∙ ap (λ (f : Fact). tags_between (newest_state d) (after_fact f (newest_state d))) (sym is));
  kept = subst (λ (n : ℕ). KeepsStates (state_at (d.history ++ e ∷ [])) d.horizon n vs) (sym (len ∙ add-one (newest d))) (written (state_at (d.history ++ e ∷ [])) d.horizon (newest d) (kept_on agreed d e s) (commit_leads d net e is transition));
  limit = s.limit;
  held = rw len (readable_later d.horizon (newest d) d.holds s.held);
  rising = s.rising;
}
  where
    len : length (d.history ++ e ∷ []) ≡ newest d + 1
    len = length_push d.history e

-- ---- a purge

pub vacuum_sound : (d : DatabaseValue) (horizon : ℕ) (vs : List Versioned) → KeepsPurged horizon d.versions vs → horizon ≡ least (newest d) d.holds → IsSound d
    → IsSound (record d { horizon = horizon; versions = vs })
vacuum_sound d horizon vs purged is s = record {
  tagged = s.tagged;
  kept = purged (state_at d.history) d.horizon (newest d) s.kept low high;
  limit = s.limit;
  held = rw is (readable_from d.horizon (newest d) d.holds s.held);
  rising = s.rising;
}
  where
    low : d.horizon ≤ horizon
    low = rw is (least_low d.horizon (newest d) d.holds s.kept.kept s.held)

    high : horizon ≤ newest d
    high = rw is (least_high (newest d) d.holds)
