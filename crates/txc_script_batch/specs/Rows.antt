-- Only private functions need this file: the rows of nodes, and of receipts.
use Rattle.std.specs.Prelude.{◌≡◌, ℕ, ◌+◌, List, [], ◌∷◌}
use Rattle.txc_stream.specs.Names.{Name, stored}
use Rattle.txc_work.specs.declared.job.Outcome.{Outcome}
use Rattle.txc_work.specs.declared.job.Outcome.TheVariants as outcomes

-- each row is the history named at its number, of which the first has this one
abbrev pub AreRowsOf : (ℕ → Name) → ℕ → List (List ℕ) → Type 0
AreRowsOf named number [] = Unit {0}
AreRowsOf named number (row ∷ rows) = (stored row ≡ named number) × AreRowsOf named (number + 1) rows

-- a receipt shows a part of this row
abbrev pub OutcomeIsOfRow : Name → Outcome → Type 0
OutcomeIsOfRow row (outcomes.Receipt receipt) = receipt.seen.events ≡ row
OutcomeIsOfRow row (outcomes.Refused error) = Unit {0}
