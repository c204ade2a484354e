-- Errors of making a stamp, a span or a reach.
use Rattle.std.specs.Prelude.{◌≡◌, ◌⊎◌, ℕ, ◌+◌, ◌<◌, ◌≤◌}
use Rattle.txc_stamp.specs.declared.error.StampError.{StampError}
use Rattle.txc_stamp.specs.declared.error.StampError.TheVariants.{TooLarge, Empty}
use Rattle.txc_stamp.specs.declared.stamp.TheConstants.{LAST_STAMP}

-- the number is beyond the last stamp
abbrev pub IsStampRefusal : ℕ → StampError → Type 0
IsStampRefusal number (TooLarge named) = (named ≡ number) × (LAST_STAMP < number)
IsStampRefusal number Empty = ⊥

-- the error names the first number that is too large: `first` is at most `LAST_STAMP`, and `second` at most
-- `limit`
abbrev pub IsFirstTooLarge : ℕ → ℕ → ℕ → ℕ → Type 0
IsFirstTooLarge first second limit named =
    ((named ≡ first) × (LAST_STAMP < first)) ⊎ ((named ≡ second) × (first ≤ LAST_STAMP) × (limit < second))

-- one of them is too large, or else the end is at most the first stamp
abbrev pub IsSpanRefusal : ℕ → ℕ → StampError → Type 0
IsSpanRefusal lo end (TooLarge named) = IsFirstTooLarge lo end (LAST_STAMP + 1) named
IsSpanRefusal lo end Empty = (lo ≤ LAST_STAMP) × (end ≤ LAST_STAMP + 1) × (end ≤ lo)

-- one of them is too large, or else the last known stamp is below the first
abbrev pub IsReachRefusal : ℕ → ℕ → StampError → Type 0
IsReachRefusal lo known (TooLarge named) = IsFirstTooLarge lo known LAST_STAMP named
IsReachRefusal lo known Empty = (lo ≤ LAST_STAMP) × (known ≤ LAST_STAMP) × (known < lo)
