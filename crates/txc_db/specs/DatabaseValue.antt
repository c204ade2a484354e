-- The value of a database in contracts.
use Rattle.std.specs.Prelude.{ℕ, ◌+◌, ◌≤◌, Bool, List, [], ◌∷◌, ◌++◌, length, min, ◌==◌, if◌then◌else◌, map, false}
use Rattle.std.specs.List.{AllByRecursion, list_any}
use Rattle.txc_stream.specs.Names.{Name}
use Rattle.txc_rows.specs.declared.store_error.TheConstants.{MAX_MATCHING, MOST_MATCHING}
use Rattle.txc_rows.specs.declared.version.Versioned.{Versioned}
use Rattle.txc_rows.specs.States.{State}
use Rattle.txc_rows.specs.KeptStates.{KeepsStates}
use Rattle.txc_rows.specs.declared.query.Change.{Change}
use Rattle.txc_rows.specs.Net.{net_changes}
use Rattle.txc_rows.specs.Versions.{after_net, purged, counted_from}
use Rattle.txc_db.specs.Facts.{EventValue}
use Rattle.txc_db.specs.FrontsAndFeeds.{FrontValue}
use Rattle.txc_db.specs.History.{History, state_at, AreTagged, pin_event, commit_event, state_event}

-- The identity of its history; the history; the kept versions; how many of them may match a query. The horizon;
-- the held stamps, one for each hold, in ascending order; and whether another record was found in its event
-- log.
pub record DatabaseValue : Type 0 where
  pub events : Name
  pub history : History
  pub versions : List Versioned
  pub most : ℕ
  pub horizon : ℕ
  pub holds : List ℕ
  pub broken : Bool

-- the number of versions that may match: 1,024, or a greater number that was set
abbrev pub IsLimit : ℕ → Type 0
IsLimit most = (MAX_MATCHING ≤ most) × (most ≤ MOST_MATCHING)

-- the value of a front of the whole history
abbrev pub front_of : DatabaseValue → FrontValue
front_of d = record { events = d.events; history = d.history }

-- the stamp after all events
abbrev pub newest : DatabaseValue → ℕ
newest d = length d.history

-- the state after all events
abbrev pub newest_state : DatabaseValue → State
newest_state d = state_at d.history (newest d)

-- the least of the stamps, or the newest stamp if there is none
abbrev pub least : ℕ → List ℕ → ℕ
least newest [] = newest
least newest (s ∷ ss) = min s (least newest ss)

-- the number of holds of the stamp
abbrev pub holds_of : ℕ → List ℕ → ℕ
holds_of stamp [] = 0
holds_of stamp (s ∷ ss) = (if s == stamp then 1 else 0) + holds_of stamp ss

-- the stamp is held
abbrev pub is_held : ℕ → List ℕ → Bool
is_held stamp holds = list_any (λ s. s == stamp) holds

-- the holds without one of the stamp
abbrev pub without : ℕ → List ℕ → List ℕ
without stamp [] = []
without stamp (s ∷ ss) = if s == stamp then ss else s ∷ without stamp ss

-- none is below the one before it
abbrev pub StampsAscend : List ℕ → Type 0
StampsAscend [] = Unit {0}
StampsAscend (s ∷ ss) = AllByRecursion (λ t. s ≤ t) ss × StampsAscend ss

-- a stamp that can be read
pub record IsReadable (horizon newest stamp : ℕ) : Type 0 where
  pub low : horizon ≤ stamp
  pub high : stamp ≤ newest

-- invariant of a database: each event has the tags of its changes, the versions describe each state from the
-- horizon to the newest stamp, the limit of a query is allowed, and no held stamp is below the horizon
pub record IsSound (d : DatabaseValue) : Type 0 where
  pub tagged : AreTagged d.history
  pub kept : KeepsStates (state_at d.history) d.horizon (newest d) d.versions
  pub limit : IsLimit d.most
  pub held : AllByRecursion (IsReadable d.horizon (newest d)) d.holds
  pub rising : StampsAscend d.holds

-- ---- after the calls

-- one more hold, of the newest stamp
abbrev pub after_hold : DatabaseValue → DatabaseValue
after_hold d = record d { holds = d.holds ++ newest d ∷ [] }

-- one fewer hold of the stamp
abbrev pub after_unpin : DatabaseValue → ℕ → DatabaseValue
after_unpin d stamp = record d { holds = without stamp d.holds }

-- the horizon after a vacuum: the least held stamp, or the newest if none is held
abbrev pub next_horizon : DatabaseValue → ℕ
next_horizon d = least (newest d) d.holds

-- that horizon, and only the versions that a stamp from it on shows
abbrev pub after_vacuum : DatabaseValue → DatabaseValue
after_vacuum d = record d { horizon = next_horizon d; versions = purged (next_horizon d) d.versions }

-- one more event, a pin of the moment, whose stamp is held
abbrev pub after_pin : DatabaseValue → ℕ → DatabaseValue
after_pin d moment =
    record d { history = d.history ++ pin_event moment ∷ []; holds = d.holds ++ (newest d + 1) ∷ [] }

-- the net changes of the newest state
abbrev pub newest_net : DatabaseValue → List Change → List Change
newest_net d changes = net_changes (newest_state d) changes

-- one more event, whose net changes are written at its stamp
abbrev pub after_event_of : DatabaseValue → EventValue → List Change → DatabaseValue
after_event_of d e net =
    record d { history = d.history ++ e ∷ []; versions = after_net (newest d + 1) net d.versions }

-- d itself if there is no net change, otherwise the other
abbrev pub where_some : List Change → DatabaseValue → DatabaseValue → DatabaseValue
where_some [] d other = d
where_some (c ∷ cs) d other = other

-- the commit of the changes is one more event; if they change nothing, d stays
abbrev pub after_commit : DatabaseValue → List Change → DatabaseValue
after_commit d changes = where_some (newest_net d changes) d
    (after_event_of d (commit_event (newest_state d) changes) (newest_net d changes))

-- Another history begins, with the newest state as its single event. Only the versions that have not died are
-- left: each is older than the event. The limit of a query stays. Nothing is held.
abbrev pub begun_anew : DatabaseValue → Name → DatabaseValue
begun_anew d events = record {
  events = events;
  history = state_event (newest_state d) ∷ [];
  versions = map (counted_from (newest d)) (purged (newest d) d.versions);
  most = d.most;
  horizon = 1;
  holds = [];
  broken = false;
}
