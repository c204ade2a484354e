-- The room of a history of events, and the tags that it stores.
use Rattle.std.specs.Prelude.{◌≡◌, ⊤, ℕ, ◌<◌, ◌≤◌, length}
use Rattle.txc_stamp.specs.declared.stamp.TheConstants.{MOST_STAMP}
use Rattle.txc_stream.specs.Names.{Name, stored, unstored}

-- for how many events there is room: in a row, for one in each of its cells; else for one for each stamp
abbrev pub events_room : Name → ℕ
events_room (stored cells) = length cells
events_room (unstored number) = MOST_STAMP

-- it is stored in a log with n cells
abbrev pub HasCapacity : Name → ℕ → Type 0
HasCapacity (stored cells) n = length cells ≡ n
HasCapacity (unstored number) n = ⊥

-- the tags of each event after the base are stored: a log stores them all; otherwise those of the events after
-- the horizon are
abbrev pub AreTagsKept : Name → ℕ → ℕ → Type 0
AreTagsKept (stored cells) horizon base = ⊤
AreTagsKept (unstored number) horizon base = horizon ≤ base

-- they are not
abbrev pub AreTagsGone : Name → ℕ → ℕ → Type 0
AreTagsGone (stored cells) horizon base = ⊥
AreTagsGone (unstored number) horizon base = base < horizon
