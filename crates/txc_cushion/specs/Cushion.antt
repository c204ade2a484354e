-- The value of a pincushion in contracts, and the effects of its calls.
use Rattle.std.specs.Prelude.{◌≡◌, ℕ, ◌≤◌, nat_lt, not, List, [], length, map, filter, take, reverse, All, Some, if◌then◌else◌}
use Rattle.txc_stream.specs.Names.{Name}
use Rattle.txc_db.specs.declared.pinned.Pinned.{Pinned}
use Rattle.txc_db.specs.History.{History, moment_at}
use Rattle.txc_db.specs.FrontsAndFeeds.{FrontValue}
use Rattle.txc_cushion.specs.declared.pin.Pin.{Pin}
use Rattle.txc_cushion.specs.declared.entry.PinEntry.{PinEntry}
use Rattle.txc_cushion.specs.declared.limits.TheConstants.{MAX_HANDED_OUT, MAX_PINS}
use Rattle.txc_cushion.specs.Pin.{pin_of}
use Rattle.txc_cushion.specs.Entries.{pins_of, stamps_of, EntriesDescend, may_be_handed_out, with_user, without_users, with_entry, is_retirable}

-- the identity of its database's history; the part of the history that its front shows; and the pins, the
-- newest first, each with its users
pub record CushionValue : Type 0 where
  pub events : Name
  pub history : History
  pub entries : List PinEntry

-- invariant of a pincushion: its pins descend from the newest, its history shows each, and there are no more
-- than allowed
pub record IsCushion (c : CushionValue) : Type 0 where
  pub falls : EntriesDescend c.entries
  pub shown : All (λ e. moment_at c.history e.pin.stamp ≡ Some e.pin.moment) c.entries
  pub few : length c.entries ≤ MAX_PINS

-- the value of its front
abbrev pub cushion_front : CushionValue → FrontValue
cushion_front c = record { events = c.events; history = c.history }

-- no pin yet
abbrev pub empty_cushion : FrontValue → CushionValue
empty_cushion front = record { events = front.events; history = front.history; entries = [] }

-- ---- fresh pins

-- the newest of the pins that may be issued, at most as many as are issued at a time
abbrev pub handed_out : CushionValue → ℕ → ℕ → ℕ → List Pin
handed_out c now staleness at_least =
    pins_of (take MAX_HANDED_OUT (filter (may_be_handed_out now staleness at_least) c.entries))

-- each of these has one user more
abbrev pub after_fresh : CushionValue → ℕ → ℕ → ℕ → CushionValue
after_fresh c now staleness at_least =
    record c { entries = map (with_user (handed_out c now staleness at_least)) c.entries }

-- ---- other calls

-- the longer of two histories
abbrev pub longer_of : History → History → History
longer_of a b = if nat_lt (length a) (length b) then b else a

-- one pin more, with one user, and the history of the front that shows it, if that is longer
abbrev pub after_add : CushionValue → Pinned → CushionValue
after_add c pinned = record c {
  history = longer_of c.history pinned.front.history;
  entries = with_entry (record { pin = pin_of pinned; users = 1 }) c.entries;
}

-- each pin has a user fewer for each time that its stamp is named
abbrev pub after_give_back : CushionValue → List ℕ → CushionValue
after_give_back c stamps = record c { entries = map (without_users stamps) c.entries }

-- the stamps of the pins that are retired, the least first
abbrev pub retired : CushionValue → ℕ → ℕ → List ℕ
retired c now age = stamps_of (filter (is_retirable now age) (reverse c.entries))

-- these are taken out
abbrev pub after_retire : CushionValue → ℕ → ℕ → CushionValue
after_retire c now age = record c { entries = filter (λ e. not (is_retirable now age e)) c.entries }
