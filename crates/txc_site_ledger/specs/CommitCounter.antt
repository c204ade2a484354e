-- Counts modulo 2^64.
use Rattle.std.specs.Prelude.{ℕ, zero, suc, ◌+◌, ◌%◌, ◌^◌}

-- one more; after 2^64 the count begins again at 0
abbrev pub counted_again : ℕ → ℕ
counted_again n = (n + 1) % 2 ^ 64

-- `times` more
abbrev pub counted_on : ℕ → ℕ → ℕ
counted_on zero n = n
counted_on (suc times) n = counted_again (counted_on times n)

-- the number of updates that a committer began or failed to begin, and the number that it committed
pub record CommitterValue : Type 0 where
  pub updates : ℕ
  pub commits : ℕ
