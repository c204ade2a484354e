-- Pins, and lists of them.
use Rattle.std.specs.Prelude.{ℕ, ◌+◌, ◌<◌, nat_lt, Bool, List, AllPairs}
use Rattle.txc_db.specs.declared.pinned.Pinned.{Pinned}
use Rattle.txc_cushion.specs.declared.pin.Pin.{Pin}

-- the stamp and the moment of a pin of the database
abbrev pub pin_of : Pinned → Pin
pin_of pinned = record { stamp = pinned.stamp; moment = pinned.moment }

-- the moment of the pin is more than `age` before `now`
abbrev pub is_older : ℕ → ℕ → Pin → Bool
is_older age now pin = nat_lt (pin.moment + age) now

-- the newest first: each stamp exceeds those after it
abbrev pub PinsDescend : List Pin → Type 0
PinsDescend pins = AllPairs (λ newer older. older.stamp < newer.stamp) pins
