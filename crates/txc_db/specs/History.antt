-- A history: its states, the tags of its events, and its pins.
use Rattle.std.specs.Prelude.{ℕ, zero, suc, ◌≡◌, ◌+◌, ◌≤◌, List, [], map, take, fold, Option, Some, None, slice_get}
use Rattle.txc_tags.specs.declared.tag.Tag.{Tag}
use Rattle.txc_rows.specs.States.{State, after_changes}
use Rattle.txc_rows.specs.declared.query.Change.{Change}
use Rattle.txc_rows.specs.declared.query.Change.TheVariants.{Put}
use Rattle.txc_rows.specs.Net.{net_changes}
use Rattle.txc_rows.specs.RowTags.{tags_between}
use Rattle.txc_db.specs.Facts.{Fact, commit, pin, EventValue}

-- one list of events, the first one first
abbrev pub History : Type 0
History = List EventValue

-- a pin changes no rows
abbrev pub after_fact : Fact → State → State
after_fact (commit net) s = after_changes net s
after_fact (pin moment) s = s

-- the state after an event
abbrev pub state_after_event : State → EventValue → State
state_after_event s e = after_fact e.fact s

-- the state after the first t events
abbrev pub state_at : History → ℕ → State
state_at L t = fold state_after_event [] (take t L)

-- the tags of event e, from 1 on: those of the keys on which the states before and after it differ
abbrev pub tags_at : History → ℕ → List Tag
tags_at L zero = []
tags_at L (suc t) = tags_between (state_at L t) (state_at L (suc t))

-- event e, from 1 on
abbrev pub event_at : History → ℕ → Option EventValue
event_at L zero = None
event_at L (suc t) = slice_get L t

-- each event has the tags of its changes
abbrev pub AreTagged : History → Type 0
AreTagged L = (e : ℕ) (v : EventValue) → event_at L e ≡ Some v → v.tags ≡ tags_at L e

-- the moment of a pin; a commit has none
abbrev pub moment_of : Fact → Option ℕ
moment_of (commit net) = None
moment_of (pin moment) = Some moment

-- the time of an event that exists and is a pin
abbrev pub pinned_moment : Option EventValue → Option ℕ
pinned_moment None = None
pinned_moment (Some e) = moment_of e.fact

-- the time of event e, if it is a pin
abbrev pub moment_at : History → ℕ → Option ℕ
moment_at L e = pinned_moment (event_at L e)

-- the event of a pin
abbrev pub pin_event : ℕ → EventValue
pin_event moment = record { fact = pin moment; tags = [] }

-- the event of a commit: the net changes over the state before it, and the tags of what they change
abbrev pub commit_event : State → List Change → EventValue
commit_event s changes =
    record { fact = commit (net_changes s changes); tags = tags_between s (after_changes changes s) }

-- the commit that makes the state of no rows: it puts each row
abbrev pub state_event : State → EventValue
state_event s = commit_event [] (map Put s)

-- a transaction with these bounds may be serialised at this stamp: it was pinned, at a moment that is no
-- more than `staleness` before `now`, and it isn't below the stamp asked for
pub record IsAllowed (L : History) (t now staleness at_least : ℕ) : Type 0 where
  pub moment : ℕ
  pub pinned : moment_at L t ≡ Some moment
  pub fresh : now ≤ moment + staleness
  pub late : at_least ≤ t
