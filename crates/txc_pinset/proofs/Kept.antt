-- What a filter of members keeps.
use Rattle.std.proofs.Common.{◌≡◌, ℕ, ◌<◌, ◌≤◌, true, List, [], ◌∷◌, length, zero, suc, refl, sym, arith, ◌-◌, get_or, slice_get, Some, All, Contains, ◌⊎◌, inl, inr}
use Rattle.std.proofs.lemmas.Bool.Decides.{nat_tests}
use Rattle.std.proofs.lemmas.Option.{get_or_from_slice_get, slice_get_within}
use Rattle.std.proofs.lemmas.List.Elements.{Contains-append_right}
use Rattle.std.proofs.lemmas.List.Kept.{AllPairs-filter, AllPairs-cons}
use Rattle.txc_stamp.specs.Interval.{Interval, Holds}
use Rattle.txc_cushion.specs.declared.pin.Pin.{Pin}
use Rattle.txc_cushion.specs.Pin.{PinsDescend}
use Rattle.txc_pinset.specs.Members.{PinSetValue, IsPinSet, IsHeld, AreBounds, is_held_by, kept, narrowed, with_present}

-- ---- members that a reach holds

-- the test says what the rule says
pub held_holds : (reach : Interval) (pin : Pin) → is_held_by reach pin ≡ true → Holds reach pin.stamp
held_holds reach pin is = (grind (arith, nat_tests), grind (arith, nat_tests))

pub holds_held : (reach : Interval) (pin : Pin) → Holds reach pin.stamp → is_held_by reach pin ≡ true
holds_held reach pin (low, high) = grind (arith, nat_tests)

-- ---- pin sets

pub narrowed_is : (p : PinSetValue) (reach : Interval) → IsPinSet p → ¬ (kept reach p.members ≡ []) → IsPinSet (narrowed reach p)
narrowed_is p reach is some = record {
  falls = AllPairs-filter (λ (newer older : Pin). older.stamp < newer.stamp) (is_held_by reach) p.members is.falls;
  some = λ none. absurd (some none);
}

pub joined_is : (p : PinSetValue) (pin : Pin) → IsPinSet p → All (λ m. m.stamp < pin.stamp) p.members → IsPinSet (with_present pin p)
joined_is p pin is above = record {
  falls = AllPairs-cons (λ (newer older : Pin). older.stamp < newer.stamp) pin p.members above is.falls;
  some = λ none. absurd (let none' : pin ∷ p.members ≡ [] = none in cc);
}

pub joins_either : (new : Pin) (members : List Pin) (pin : Pin) → Contains (new ∷ members) pin → (pin ≡ new) ⊎ Contains members pin
joins_either new members pin (zero, within, at) = let same : new ≡ pin = at in inl (sym same)
joins_either new members pin (suc k, within, at) = inr (k, omega (arith, within), at)

pub joins_one : (new : Pin) (members : List Pin) (pin : Pin) → (pin ≡ new) ⊎ Contains members pin → Contains (new ∷ members) pin
joins_one new members pin (inl same) = (0, omega arith, sym same)
joins_one new members pin (inr there) = Contains-append_right (new ∷ []) members pin there

-- a narrowed set needs no room
pub narrowed_held : (p : PinSetValue) (reach : Interval) (space : ℕ) → IsPinSet p → ¬ (kept reach p.members ≡ []) → IsHeld (narrowed reach p) space
narrowed_held p reach space is some = record { set = narrowed_is p reach is some; room = λ present. absurd (cc) }

-- ---- bounds

-- the stamp at a place lies between that at the last place and that at the first
between : (ms : List Pin) (d : Pin) (k : ℕ) → PinsDescend ms → k < length ms
    → ((get_or ms (length ms - 1) d).stamp ≤ (get_or ms k d).stamp) × ((get_or ms k d).stamp ≤ (get_or ms 0 d).stamp)
between ms d zero falls below = (low (length ms - 1) refl, omega arith)
  where
    low : (n : ℕ) → length ms - 1 ≡ n → (get_or ms (length ms - 1) d).stamp ≤ (get_or ms 0 d).stamp
    low zero is = rw is (omega arith)
    low (suc n) is = let above = falls 0 (length ms - 1) d (omega arith) (omega arith) in omega (arith, above)
between ms d (suc k) falls below = (low (length ms - 1 - suc k) refl, let above = falls 0 (suc k) d (omega arith) below in omega (arith, above))
  where
    low : (n : ℕ) → length ms - 1 - suc k ≡ n → (get_or ms (length ms - 1) d).stamp ≤ (get_or ms (suc k) d).stamp
    low zero is = let same : length ms - 1 ≡ suc k = omega arith in rw same (omega arith)
    low (suc n) is = let above = falls (suc k) (length ms - 1) d (omega arith) (omega arith) in omega (arith, above)

pub bounds_are : (ms : List Pin) (newest oldest : Pin) → PinsDescend ms → slice_get ms 0 ≡ Some newest → slice_get ms (length ms - 1) ≡ Some oldest → AreBounds ms (oldest.stamp, newest.stamp)
bounds_are ms newest oldest falls first last = record {
  least = (length ms - 1, oldest, slice_get_within ms (length ms - 1) oldest last, at_last oldest, refl);
  greatest = (0, newest, slice_get_within ms 0 newest first, at_first newest, refl);
  within = λ k d below. let h = between ms d k falls below in (rw (← at_last d) h.0, rw (← at_first d) h.1);
}
  where
    at_first : (d : Pin) → get_or ms 0 d ≡ newest
    at_first d = get_or_from_slice_get ms 0 newest d first

    at_last : (d : Pin) → get_or ms (length ms - 1) d ≡ oldest
    at_last d = get_or_from_slice_get ms (length ms - 1) oldest d last
