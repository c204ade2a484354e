-- Effects of the calls of a pincushion, stamp by stamp.
use Rattle.std.specs.Prelude.{◌≡◌, ℕ, ◌+◌, ◌<◌, ◌≤◌, ◌==◌, true, false, List, length, map, All, Contains, if◌then◌else◌}
use Rattle.txc_db.specs.declared.pinned.Pinned.{Pinned}
use Rattle.txc_cushion.specs.declared.entry.PinEntry.{PinEntry}
use Rattle.txc_cushion.specs.declared.limits.TheConstants.{MAX_HANDED_OUT}
use Rattle.txc_cushion.specs.Entries.{stamps_of, users_of, times, may_be_handed_out, is_among}
use Rattle.txc_cushion.specs.Cushion.{CushionValue, IsCushion, handed_out, after_fresh, after_add, after_give_back, retired, after_retire}
use Rattle.txc_cushion.specs.Refusals.{IsAddable, HaveUsers}

-- no stamp is pinned twice, and one that is not pinned has no users
abbrev pub PinsEachStampOnce : Type 0
PinsEachStampOnce = (c : CushionValue) (stamp : ℕ) → IsCushion c
    → (times stamp (stamps_of c.entries) ≤ 1)
    × (times stamp (stamps_of c.entries) ≡ 0 → users_of stamp c.entries ≡ 0)

-- ---- fresh pins

-- each issued stamp has one more user, and no pin is added or removed
pub record CountsFreshUsers (c : CushionValue) (now staleness at_least stamp : ℕ) : Type 0 where
  pub users : users_of stamp (after_fresh c now staleness at_least).entries
      ≡ users_of stamp c.entries + times stamp (map (λ p. p.stamp) (handed_out c now staleness at_least))
  pub stamps : stamps_of (after_fresh c now staleness at_least).entries ≡ stamps_of c.entries

abbrev pub FreshCountsUsers : Type 0
FreshCountsUsers = (c : CushionValue) (now staleness at_least stamp : ℕ) → IsCushion c
    → CountsFreshUsers c now staleness at_least stamp

-- a pin that may be issued and is not is older than all issued ones, and the maximum was issued
abbrev pub HandsOutTheNewest : Type 0
HandsOutTheNewest = (c : CushionValue) (now staleness at_least : ℕ) (e : PinEntry) → IsCushion c
    → Contains c.entries e → may_be_handed_out now staleness at_least e ≡ true
    → is_among e.pin.stamp (handed_out c now staleness at_least) ≡ false
    → (length (handed_out c now staleness at_least) ≡ MAX_HANDED_OUT)
    × All (λ p. e.pin.stamp < p.stamp) (handed_out c now staleness at_least)

-- ---- pins added, returned and retired

-- the stamp of the pin has one pin and one user more
pub record CountsAddedPin (c : CushionValue) (pinned : Pinned) (stamp : ℕ) : Type 0 where
  pub users : users_of stamp (after_add c pinned).entries
      ≡ users_of stamp c.entries + (if pinned.stamp == stamp then 1 else 0)
  pub stamps : times stamp (stamps_of (after_add c pinned).entries)
      ≡ times stamp (stamps_of c.entries) + (if pinned.stamp == stamp then 1 else 0)

abbrev pub AddCountsOnePin : Type 0
AddCountsOnePin = (c : CushionValue) (pinned : Pinned) (stamp : ℕ) → IsCushion c → IsAddable c pinned.stamp
    → CountsAddedPin c pinned stamp

-- each stamp has a user fewer for each time that it is named, and no pin comes or goes
pub record CountsGivenBack (c : CushionValue) (given : List ℕ) (stamp : ℕ) : Type 0 where
  pub users : users_of stamp (after_give_back c given).entries + times stamp given ≡ users_of stamp c.entries
  pub stamps : stamps_of (after_give_back c given).entries ≡ stamps_of c.entries

abbrev pub GiveBackCountsUsers : Type 0
GiveBackCountsUsers = (c : CushionValue) (given : List ℕ) (stamp : ℕ) → HaveUsers c.entries given
    → CountsGivenBack c given stamp

-- the returned stamps are those whose pins are removed; they had no users, and no stamp loses one
pub record CountsRetired (c : CushionValue) (now age stamp : ℕ) : Type 0 where
  pub stamps : times stamp (stamps_of (after_retire c now age).entries) + times stamp (retired c now age)
      ≡ times stamp (stamps_of c.entries)
  pub users : users_of stamp (after_retire c now age).entries ≡ users_of stamp c.entries
  pub unused : 0 < times stamp (retired c now age) → users_of stamp c.entries ≡ 0

abbrev pub RetireCountsTheUnused : Type 0
RetireCountsTheUnused = (c : CushionValue) (now age stamp : ℕ) → IsCushion c → CountsRetired c now age stamp
