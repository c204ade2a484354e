-- The counts of the visitors.
use Rattle.std.specs.Prelude.{◌≡◌, ℕ, ◌+◌, ◌-◌, ◌^◌, min, false}
use Rattle.example_auction.specs.declared.arguments.Arguments.{Arguments}
use Rattle.example_auction.specs.declared.tally.Tally.{Tally}

-- the number of pages requested
abbrev pub pages_of : Tally → ℕ
pages_of t = t.whole + t.torn + t.refused

-- the sum, or the greatest number of 64 bits
abbrev pub added : ℕ → ℕ → ℕ
added m n = min (m + n) (2 ^ 64 - 1)

-- nothing is another but what is counted of bids
abbrev pub CountsBids : Tally → Tally → Type 0
CountsBids old new = new ≡ record old { bids = new.bids; conflicts = new.conflicts; raised = new.raised; last = new.last }

-- this many pages were requested; none that was shown was torn, if both calls of a page were made in one
-- transaction
pub record HasTallied (pages : ℕ) (arguments : Arguments) (t : Tally) : Type 0 where
  pub asked : pages_of t ≡ pages
  pub whole : arguments.is_plain ≡ false → t.torn ≡ 0
