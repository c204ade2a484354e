-- The history that a database holds, and what was prepared for it.
use Rattle.std.specs.Prelude.{◌≡◌, ℕ, ◌<◌, Option, Some, None}
use Rattle.txc_stream.specs.Names.{Name, HasRow}
use Rattle.txc_stream.specs.Windows.{WindowValue}
use Rattle.txc_db.specs.Facts.{EventValue}
use Rattle.txc_db.specs.FrontsAndFeeds.{FrontValue}
use Rattle.txc_db.specs.History.{History}
use Rattle.txc_db.specs.declared.prepared.Prepared.{Prepared}
use Rattle.txc_db.specs.declared.prepared.Prepared.TheVariants.{Stored, Unstored}

-- the history's identity, its events, how many of the first have no tags any more, and for how many more tags
-- there is room
pub record HistoryValue : Type 0 where
  pub events : Name
  pub history : History
  pub first : ℕ
  pub room : ℕ

-- the value of a front of the whole history
abbrev pub front_in : HistoryValue → FrontValue
front_in h = record { events = h.events; history = h.history }

-- the front shows all events, and those that are not stored have a window
abbrev pub HasWindow : Option (WindowValue EventValue) → FrontValue → Type 0
HasWindow None front = HasRow front.events
HasWindow (Some w) front = ¬ (HasRow front.events) × (w.name ≡ front.events) × (w.list ≡ front.history)

-- a log stores all tags
abbrev pub first_kept : Option (WindowValue EventValue) → ℕ
first_kept None = 0
first_kept (Some w) = w.first

abbrev pub room_in : Option (WindowValue EventValue) → ℕ
room_in None = 0
room_in (Some w) = w.room

-- the event that was prepared
abbrev pub event_in : Prepared → EventValue
event_in (Stored event) = event.value
event_in (Unstored next) = next.draft.value

-- it is prepared for a history of this kind, with room for its tags
abbrev pub IsPrepared : HistoryValue → Prepared → Type 0
IsPrepared h (Stored event) = HasRow h.events
IsPrepared h (Unstored next) = ¬ (HasRow h.events) × (0 < h.room)
