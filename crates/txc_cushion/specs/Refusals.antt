-- Errors of the calls of a pincushion.
use Rattle.std.specs.Prelude.{◌≡◌, ℕ, ◌<◌, ◌≤◌, true, false, List, length, take, Some, slice_get}
use Rattle.txc_cushion.specs.declared.error.AddError.{AddError}
use Rattle.txc_cushion.specs.declared.error.AddError.TheVariants.{Full, Known, Memory}
use Rattle.txc_cushion.specs.declared.entry.PinEntry.{PinEntry}
use Rattle.txc_cushion.specs.declared.limits.TheConstants.{MAX_PINS}
use Rattle.txc_cushion.specs.Entries.{is_pinned, users_of, times}
use Rattle.txc_cushion.specs.Cushion.{CushionValue}

-- there is room for a pin, and none of this stamp exists
pub record IsAddable (c : CushionValue) (stamp : ℕ) : Type 0 where
  pub room : length c.entries < MAX_PINS
  pub absent : is_pinned stamp c.entries ≡ false

-- of a pin: full, or the stamp has one already; and then no memory
abbrev pub IsAddRefused : CushionValue → ℕ → AddError → Type 0
IsAddRefused c stamp Full = length c.entries ≡ MAX_PINS
IsAddRefused c stamp (Known named) = (length c.entries < MAX_PINS) × (is_pinned stamp c.entries ≡ true)
    × (named ≡ stamp)
IsAddRefused c stamp Memory = IsAddable c stamp

-- each stamp has as many users as it is named
abbrev pub HaveUsers : List PinEntry → List ℕ → Type 0
HaveUsers entries stamps = (stamp : ℕ) → times stamp stamps ≤ users_of stamp entries

-- the first stamp of these that has no user left at its place
pub record IsFirstUnused (entries : List PinEntry) (stamps : List ℕ) (stamp : ℕ) : Type 0 where
  pub place : ℕ
  pub there : slice_get stamps place ≡ Some stamp
  pub none_left : users_of stamp entries ≤ times stamp (take place stamps)
  pub earlier : HaveUsers entries (take place stamps)
