-- The rows before a place, worked by hand: the ids 3 and 9 of table 1, and the ids 0 and 3 of table 2.
use Rattle.std.specs.Prelude.{◌≡◌, ℕ, [], ◌∷◌, filter}
use Rattle.txc_rows.specs.States.{RowValue, State}
use Rattle.txc_db_carry.specs.Carry.{stands_before}

-- a row of group 5
abbrev pub carried_row : ℕ → ℕ → RowValue
carried_row table id = record { table = table; id = id; group = 5; body = 97 ∷ [] }

-- the four rows
abbrev pub worked_rows : State
worked_rows = carried_row 1 3 ∷ carried_row 1 9 ∷ carried_row 2 0 ∷ carried_row 2 3 ∷ []

-- the rows before a place
abbrev pub before : ℕ → ℕ → State
before table id = filter (stands_before table id) worked_rows

-- at the beginning, at a row, behind it, at the next table, and behind all
pub record WorkedOrder : Type 0 where
  pub none : before 0 0 ≡ []
  pub at_row : before 1 9 ≡ carried_row 1 3 ∷ []
  pub behind_row : before 1 10 ≡ carried_row 1 3 ∷ carried_row 1 9 ∷ []
  pub next_table : before 2 0 ≡ carried_row 1 3 ∷ carried_row 1 9 ∷ []
  pub all : before 3 0 ≡ worked_rows
