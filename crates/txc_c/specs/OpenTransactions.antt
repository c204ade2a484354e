-- The list of open transactions.
use Rattle.std.specs.Prelude.{◌≡◌, ◌⊎◌, ◌≤◌, ℕ, IsSome, Option, Some, None}
use Rattle.slab.specs.Slab.{slab_len}
use Rattle.txc_c_types.specs.declared.numbers.TheConstants.{DONE, MISS}
use Rattle.txc_c.specs.Sites.{open_at, SiteValue}

-- the number of open transactions
abbrev pub CountTold : ℕ → SiteValue → ℕ → Type 0
CountTold count s number = (number ≡ DONE) × (count ≡ slab_len s.opened)

-- the transaction of that number is open, and began before each other that is
pub record IsOldest (n : ℕ) (s : SiteValue) : Type 0 where
  pub there : IsSome (open_at s n)
  pub first : (m : ℕ) → IsSome (open_at s m) → n ≤ m

abbrev pub IsLeastOpen : SiteValue → Option ℕ → Type 0
IsLeastOpen s (Some n) = IsOldest n s
IsLeastOpen s None = (m : ℕ) → ¬ IsSome (open_at s m)

-- its number is written; or none is open
abbrev pub OldestTold : ℕ → ℕ → SiteValue → ℕ → Type 0
OldestTold was is s number = ((number ≡ DONE) × IsOldest is s)
    ⊎ ((number ≡ MISS) × (is ≡ was) × ((m : ℕ) → ¬ IsSome (open_at s m)))
