-- The stamps on which the answer of a query stays the same.
use Rattle.std.specs.Prelude.{◌≡◌, ◌==◌, ℕ, ◌≤◌, List}
use Rattle.txc_stamp.specs.Interval.{Interval}
use Rattle.txc_rows.specs.Values.{RowValue}
use Rattle.txc_rows.specs.FoundAnswers.{HoldsOn}

-- the largest interval of stamps around t, from the horizon to the newest stamp, on which the answer is the
-- same list; it is known to its last stamp, and still valid if that is the newest
pub record IsValidity (answers : ℕ → List RowValue) (t horizon newest : ℕ) (reach : Interval) : Type 0 where
  pub low : horizon ≤ reach.lo
  pub around : (reach.lo ≤ t) × (t ≤ reach.known)
  pub high : reach.known ≤ newest
  pub same : HoldsOn answers t reach.lo reach.known
  pub largest : (first last : ℕ) → horizon ≤ first → first ≤ t → t ≤ last → last ≤ newest
      → HoldsOn answers t first last → (reach.lo ≤ first) × (last ≤ reach.known)
  pub still : reach.still ≡ (reach.known == newest)
