-- Ids with commas between them.
use Rattle.std.proofs.Common.{◌≡◌, ℕ, List, [], ◌∷◌, ◌++◌, sym, ap, append-nil}
use Rattle.std.specs.Fmt.{decimal}
use Rattle.std.specs.List.{flat_map}
use Rattle.txc_rows.specs.Values.{RowValue}
use Rattle.txcache_functions.specs.Program.{ids_of}

-- they are the first, and each other with a comma before it
pub ids_are : (r : RowValue) (rows : List RowValue) → ids_of (r ∷ rows) ≡ decimal r.id ++ flat_map (λ (s : RowValue). 44 ∷ decimal s.id) rows
ids_are r [] = sym (append-nil (decimal r.id))
ids_are r (s ∷ rows) = ap (λ (xs : List ℕ). decimal r.id ++ 44 ∷ xs) (ids_are s rows)
