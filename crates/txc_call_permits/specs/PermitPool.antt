-- The word of a pool counts the permits that are out. The view of a seat is whether it has one.
use Rattle.std.specs.Prelude.{◌≡◌, ◌≢◌, ℕ, ◌+◌, ◌<◌, ◌≤◌, Bool, true, false, List, [], ◌∷◌, length, slice_index}
use Rattle.atomic_table.specs.Table.{State, Me, Step}
use Rattle.atomic_table.specs.Seated.{TableId}

-- the number of permits of a seat
abbrev pub permits_at : Bool → ℕ
permits_at true = 1
permits_at false = 0

-- the number of permits that are out
abbrev pub permits_out : List Bool → ℕ
permits_out [] = 0
permits_out (view ∷ views) = permits_at view + permits_out views

-- the word is the number of permits that are out, and at most n
abbrev pub IsCounted : ℕ → State (Unit {0}) Bool → Type 0
IsCounted n s = (length s.words ≡ 1) × (slice_index s.words 0 ≡ permits_out s.views)
    × (permits_out s.views ≤ n)

-- if the number found is the expected one, the seat gets a permit; otherwise nothing changes
abbrev pub takes_one : Step (Unit {0}) → Me (Unit {0}) Bool → ℕ → Me (Unit {0}) Bool → Type 0
takes_one step before found after = (found ≡ step.first → after.0 ≡ true)
    × (found ≢ step.first → after.0 ≡ before.0)

-- there was a permit, and the seat has it no more
abbrev pub gives_one : Step (Unit {0}) → Me (Unit {0}) Bool → ℕ → Me (Unit {0}) Bool → Type 0
gives_one step before found after = (0 < found) × (after.0 ≡ false)

-- the pool of a handle, and the number of its permits
pub record Pool : Type 0 where
  pub name : TableId
  pub most : ℕ

-- a handle's word, what that was given, and what the handle has of them
abbrev pub IsAt : TableId → ℕ → TableId → ℕ → Type 0
IsAt table told seated most = (table.words ≡ 1) × (told ≡ most) × (seated ≡ table)
