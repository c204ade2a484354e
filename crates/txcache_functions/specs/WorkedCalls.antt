-- Calls of the program's functions, worked by hand over a history: the id 7 has an a in group 2 of table 1
-- from stamp 1 on, and the id 8 a b from stamp 3 on.
use Rattle.std.specs.Prelude.{◌≡◌, ℕ, List, [], ◌∷◌, length, replicate, Option, Some, None}
use Rattle.txc_tags.specs.Keys.{Call}
use Rattle.txc_rows.specs.Values.{RowValue}
use Rattle.txc_rows.specs.States.{State}
use Rattle.txc_rows.specs.declared.query.Query.TheVariants.{ById, ByGroup, Range}
use Rattle.txc_db.specs.History.{state_at}
use Rattle.txc_db.specs.WorkedHistory.{worked}
use Rattle.txc_app.specs.Eval.{eval, met}
use Rattle.txcache_functions.specs.Program.{program, call_of, bodies_of}

-- the value of a call at a stamp
abbrev pub value_at : ℕ → Call → Option (List ℕ)
value_at t k = eval program k (state_at worked t)

-- a row of group 2, with a body of `bytes` bytes
abbrev pub long_row : ℕ → ℕ → RowValue
long_row id bytes = record { table = 1; id = id; group = 2; body = replicate bytes 97 }

-- four rows: the body of the last has `bytes` bytes, those of the others the most
abbrev pub long_rows : ℕ → State
long_rows bytes = long_row 1 256 ∷ long_row 2 256 ∷ long_row 3 256 ∷ long_row 4 bytes ∷ []

-- values, and queries met; the longest value
pub record WorkedCalls : Type 0 where
  pub body : value_at 2 (call_of 0 (7 ∷ [])) ≡ Some (97 ∷ [])
  pub no_body : value_at 4 (call_of 0 (9 ∷ [])) ≡ Some []
  pub bodies : value_at 2 (call_of 1 (2 ∷ [])) ≡ Some (97 ∷ [])
  pub more_bodies : value_at 4 (call_of 1 (2 ∷ [])) ≡ Some (97 ∷ 44 ∷ 98 ∷ [])
  pub nested : value_at 2 (call_of 2 (2 ∷ 7 ∷ [])) ≡ Some (97 ∷ 59 ∷ 97 ∷ [])
  pub count : value_at 4 (call_of 3 []) ≡ Some (50 ∷ [])
  pub ids : value_at 4 (call_of 6 (7 ∷ 8 ∷ [])) ≡ Some (55 ∷ 44 ∷ 56 ∷ [])
  pub last_id : value_at 4 (call_of 6 (8 ∷ 9 ∷ [])) ≡ Some (56 ∷ [])
  pub no_ids : value_at 4 (call_of 6 (8 ∷ 7 ∷ [])) ≡ Some []
  pub one_query : met program (call_of 0 (9 ∷ [])) (state_at worked 4) ≡ ById 1 9 ∷ []
  pub nested_queries : met program (call_of 2 (2 ∷ 9 ∷ [])) (state_at worked 2)
      ≡ ByGroup 1 2 ∷ ById 1 9 ∷ []
  pub range_query : met program (call_of 6 (7 ∷ 8 ∷ [])) (state_at worked 4) ≡ Range 1 7 8 ∷ []
  pub longest : eval program (call_of 1 (2 ∷ [])) (long_rows 253) ≡ Some (bodies_of (long_rows 253))
  pub longest_length : length (bodies_of (long_rows 253)) ≡ 1024

-- calls without a value: the arguments are wrong; a call is of the function itself; a 65th ask would be made;
-- the value is too long; there is no such function
pub record WorkedRefusals : Type 0 where
  pub arguments : value_at 4 (call_of 0 []) ≡ None
  pub one_end : value_at 4 (call_of 6 (7 ∷ [])) ≡ None
  pub itself : value_at 4 (call_of 4 []) ≡ None
  pub endless : value_at 4 (call_of 5 (7 ∷ [])) ≡ None
  pub too_long : eval program (call_of 1 (2 ∷ [])) (long_rows 254) ≡ None
  pub no_function : value_at 4 (call_of 7 []) ≡ None
