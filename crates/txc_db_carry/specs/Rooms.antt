-- The storage of a history, and its room.
use Rattle.std.specs.Prelude.{ℕ, Option, Some, None}
use Rattle.txc_stamp.specs.declared.stamp.TheConstants.{MOST_STAMP}
use Rattle.txc_stream.specs.Names.{Name, HasRow}
use Rattle.txc_db.specs.Room.{HasCapacity}

-- the history is stored in a log with room for that many; or, without a number, it is ghost
abbrev pub IsHistoryFor : Option ℕ → Name → Type 0
IsHistoryFor (Some room) name = HasCapacity name room
IsHistoryFor None name = ¬ (HasRow name)

-- for how many events the history of a database has room that is kept so
abbrev pub room_for : Option ℕ → ℕ
room_for (Some room) = room
room_for None = MOST_STAMP
