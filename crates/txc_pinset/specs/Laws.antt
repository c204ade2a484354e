-- Effects of the calls of a pin set.
use Rattle.std.specs.Prelude.{◌≡◌, ◌≢◌, ◌⊎◌, ◌↔◌, ℕ, ◌+◌, ◌<◌, true, List, [], ◌∷◌, All, Contains}
use Rattle.txc_stamp.specs.Interval.{Interval, Holds}
use Rattle.txc_cushion.specs.declared.pin.Pin.{Pin}
use Rattle.txc_cushion.specs.Pin.{PinsDescend}
use Rattle.txc_pinset.specs.declared.choice.Choice.TheVariants.{Present}
use Rattle.txc_pinset.specs.Members.{PinSetValue, IsPinSet, begun_pin_set, kept, narrowed, with_present, choice_of}

-- a narrowed set has the members that the reach holds, and no others
abbrev pub KeepsExactlyTheHeld : Type 0
KeepsExactlyTheHeld = (p : PinSetValue) (reach : Interval) (pin : Pin)
    → Contains (narrowed reach p).members pin ↔ (Contains p.members pin × Holds reach pin.stamp)

-- after the present was replaced by its pin, the members are the old ones and that pin
abbrev pub OnlyThePresentJoins : Type 0
OnlyThePresentJoins = (p : PinSetValue) (new pin : Pin)
    → Contains (with_present new p).members pin ↔ ((pin ≡ new) ⊎ Contains p.members pin)

-- each call leaves a pin set, which has a member or the present
pub record NeverIsEmpty : Type 0 where
  pub begins : (pins : List Pin) → PinsDescend pins → IsPinSet (begun_pin_set pins)
  pub narrows : (p : PinSetValue) (reach : Interval) → IsPinSet p → kept reach p.members ≢ []
      → IsPinSet (narrowed reach p)
  pub joins : (p : PinSetValue) (pin : Pin) → IsPinSet p → All (λ m. m.stamp < pin.stamp) p.members
      → IsPinSet (with_present pin p)

-- the newest member's moment is more than `renew_after` before `now`
abbrev pub IsTooOld : ℕ → ℕ → List Pin → Type 0
IsTooOld now renew_after members = (newest : Pin) × (older : List Pin) × (members ≡ newest ∷ older)
    × (newest.moment + renew_after < now)

-- the present is chosen exactly if there is no member, or if the set has the present and the newest member is
-- too old
abbrev pub TakesThePresentWhenDue : Type 0
TakesThePresentWhenDue = (p : PinSetValue) (now renew_after : ℕ)
    → (choice_of now renew_after p ≡ Present)
    ↔ ((p.members ≡ []) ⊎ ((p.has_present ≡ true) × IsTooOld now renew_after p.members))
