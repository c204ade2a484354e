-- Invariant of the counts, and preconditions of private functions: only proofs need it. No count exceeds what
-- the number of replies allows.
use Rattle.std.specs.Prelude.{◌≡◌, ℕ, ◌+◌, ◌-◌, ◌*◌, ◌^◌, ◌≤◌, length}
use Rattle.txc_tags.specs.declared.key.TheConstants.{LAST_FUNCTION}
use Rattle.txc_node.specs.declared.counts.FunctionCounts.{FunctionCounts}
use Rattle.txc_node.specs.Counts.{Totals, counts_of, sum_of}

-- each count is at most n
pub record IsAtMost (n : ℕ) (counts : FunctionCounts) : Type 0 where
  pub lookups : counts.lookups ≤ n
  pub hits : counts.hits ≤ n
  pub stored : counts.stored ≤ n
  pub kept : counts.kept ≤ n
  pub evicted : counts.evicted ≤ n

-- each sum of two counts is a u64
abbrev pub HasRoom : FunctionCounts → FunctionCounts → Type 0
HasRoom counts more = IsAtMost (2 ^ 64 - 1) (sum_of counts more)

-- the counts are those of at most that many replies
pub record AreWithin (t : Totals) : Type 0 where
  pub all : length t.functions ≡ LAST_FUNCTION + 1
  pub each : (f : ℕ) → IsAtMost t.replies (counts_of t.functions f)
  pub few : t.events ≤ t.replies
  pub closed : t.closed ≤ t.replies * (2 ^ 64 - 1)
  pub swept : t.swept ≤ t.replies * (2 ^ 64 - 1)
  pub trimmed : t.trimmed ≤ t.replies * (2 ^ 64 - 1)
