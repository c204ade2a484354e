-- What a history has room for, by its name.
use Rattle.std.proofs.Common.{◌≡◌, ℕ, ◌<◌, ◌≤◌, List, length, refl, subst, sym, ap, arith}
use Rattle.txc_stamp.specs.declared.stamp.TheConstants.{LAST_STAMP, MOST_STAMP}
use Rattle.txc_stream.specs.Names.{Name, stored, unstored, HasRow}
use Rattle.txc_stream.specs.FrontValue.{HasCells}
use Rattle.txc_db.specs.Room.{events_room, AreTagsKept, AreTagsGone}

-- no history has more events than there are stamps
pub fits_last : (name : Name) (n : ℕ) → n ≤ events_room name → HasCells name n → n ≤ MOST_STAMP
fits_last (stored cells) n fits has = let most = (has cells refl).1 in omega (arith, fits, most)
fits_last (unstored number) n fits has = fits

-- a stored one has no more than a row can have cells
pub fits_row : (name : Name) (n : ℕ) → n ≤ events_room name → HasCells name n → HasRow name → n ≤ LAST_STAMP
fits_row (stored cells) n fits has row = let most = (has cells refl).1 in omega (arith, fits, most)
fits_row (unstored number) n fits has row = absurd row

pub row_is : (name : Name) (cells : List ℕ) → name ≡ stored cells → HasRow name
row_is name cells is = subst HasRow (sym is) tt

-- a row has room for an event in each cell, and no more
pub row_room : (name : Name) (cells : List ℕ) → name ≡ stored cells → events_room name ≡ length cells
row_room name cells is = ap events_room is

-- any other history has room for an event for each stamp
pub pen_room : (name : Name) → ¬ (HasRow name) → events_room name ≡ MOST_STAMP
pen_room (stored cells) none = absurd (none tt)
pen_room (unstored number) none = refl

-- ---- tags that are kept

pub row_keeps : (name : Name) (horizon base : ℕ) → HasRow name → AreTagsKept name horizon base
row_keeps (stored cells) horizon base row = tt
row_keeps (unstored number) horizon base row = absurd row

pub late_keeps : (name : Name) (horizon base : ℕ) → horizon ≤ base → AreTagsKept name horizon base
late_keeps (stored cells) horizon base late = tt
late_keeps (unstored number) horizon base late = late

pub early_goes : (name : Name) (horizon base : ℕ) → ¬ (HasRow name) → base < horizon → AreTagsGone name horizon base
early_goes (stored cells) horizon base none early = absurd (none tt)
early_goes (unstored number) horizon base none early = early

pub pen_keeps : (name : Name) (horizon base : ℕ) → AreTagsKept name horizon base → ¬ (HasRow name) → horizon ≤ base
pen_keeps (stored cells) horizon base kept none = absurd (none tt)
pen_keeps (unstored number) horizon base kept none = kept
