-- Pins with their users, and lists of them.
use Rattle.std.specs.Prelude.{ℕ, ◌+◌, ◌-◌, ◌<◌, nat_le, nat_lt, ◌==◌, ◌&&◌, not, Bool, true, false, List, [], ◌∷◌, ◌++◌, map, filter, count_by, AllPairs, if◌then◌else◌}
use Rattle.std.specs.List.{list_any}
use Rattle.txc_cushion.specs.declared.pin.Pin.{Pin}
use Rattle.txc_cushion.specs.declared.entry.PinEntry.{PinEntry}
use Rattle.txc_cushion.specs.declared.limits.TheConstants.{MAX_USERS}
use Rattle.txc_cushion.specs.Pin.{is_older}

-- the pins without their users
abbrev pub pins_of : List PinEntry → List Pin
pins_of entries = map (λ e. e.pin) entries

-- their stamps
abbrev pub stamps_of : List PinEntry → List ℕ
stamps_of entries = map (λ e. e.pin.stamp) entries

-- the newest first: each stamp exceeds those after it
abbrev pub EntriesDescend : List PinEntry → Type 0
EntriesDescend entries = AllPairs (λ newer older. older.pin.stamp < newer.pin.stamp) entries

-- there is a pin of this stamp
abbrev pub is_pinned : ℕ → List PinEntry → Bool
is_pinned stamp entries = list_any (λ e. e.pin.stamp == stamp) entries

-- the number of users of the pin of this stamp; 0 if there is none
abbrev pub users_of : ℕ → List PinEntry → ℕ
users_of stamp [] = 0
users_of stamp (e ∷ es) = if e.pin.stamp == stamp then e.users else users_of stamp es

-- the number of times that the stamp is in the list
abbrev pub times : ℕ → List ℕ → ℕ
times stamp stamps = count_by (λ s. s == stamp) stamps

-- ---- issued

-- it is fresh: its moment is no more than `staleness` before `now`; its stamp isn't below the one asked for;
-- and one more may use it
abbrev pub may_be_handed_out : ℕ → ℕ → ℕ → PinEntry → Bool
may_be_handed_out now staleness at_least e =
    not (is_older staleness now e.pin) && (nat_le at_least e.pin.stamp && nat_lt e.users MAX_USERS)

-- one of the pins has this stamp
abbrev pub is_among : ℕ → List Pin → Bool
is_among stamp pins = list_any (λ p. p.stamp == stamp) pins

-- one user more, if its pin is issued
abbrev pub with_user : List Pin → PinEntry → PinEntry
with_user pins e = if is_among e.pin.stamp pins then record e { users = e.users + 1 } else e

-- ---- returned, added and retired

-- the stamps are among those of the entries in this order, each with a user
abbrev pub stand_in_order : List PinEntry → List ℕ → Bool
stand_in_order entries [] = true
stand_in_order [] (s ∷ ss) = false
stand_in_order (e ∷ es) (s ∷ ss) =
    if e.pin.stamp == s then nat_lt 0 e.users && stand_in_order es ss else stand_in_order es (s ∷ ss)

-- a user fewer for each time that its stamp is named
abbrev pub without_users : List ℕ → PinEntry → PinEntry
without_users stamps e = record e { users = e.users - times e.pin.stamp stamps }

-- the entry between those with greater stamps and those with lesser ones
abbrev pub with_entry : PinEntry → List PinEntry → List PinEntry
with_entry new entries =
    filter (λ e. nat_lt new.pin.stamp e.pin.stamp) entries
    ++ new ∷ filter (λ e. nat_lt e.pin.stamp new.pin.stamp) entries

-- none may use it, and its moment is more than `age` before `now`
abbrev pub is_retirable : ℕ → ℕ → PinEntry → Bool
is_retirable now age e = e.users == 0 && is_older age now e.pin
