-- Bodies with commas between them.
use Rattle.std.proofs.Common.{◌≡◌, ℕ, List, [], ◌∷◌, ◌++◌, append-nil, ap, sym}
use Rattle.txc_rows.specs.Values.{RowValue}
use Rattle.txcache_functions.specs.Program.{bodies_of}

-- a comma before each body
abbrev pub after_commas : List RowValue → List ℕ
after_commas [] = []
after_commas (r ∷ rows) = 44 ∷ r.body ++ after_commas rows

pub bodies_is : (r : RowValue) (rows : List RowValue) → bodies_of (r ∷ rows) ≡ r.body ++ after_commas rows
bodies_is r [] = sym (append-nil r.body)
bodies_is r (s ∷ rows) = ap (λ (xs : List ℕ). r.body ++ 44 ∷ xs) (bodies_is s rows)

pub first_written : (rows others : List RowValue) (r : RowValue) (bytes : List ℕ) → rows ≡ r ∷ others → bytes ≡ r.body
    → bytes ++ after_commas others ≡ bodies_of rows
first_written rows others r bytes is written = rw (is, written) (sym (bodies_is r others))
