-- The members of a pin set, the newest first, and the present.
use Rattle.std.specs.Prelude.{◌≡◌, ℕ, ◌<◌, ◌≤◌, Bool, true, false, ◌&&◌, nat_le, List, [], ◌∷◌, length, All, Any, if◌then◌else◌}
use Rattle.std.specs.List.{filter}
use Rattle.txc_stamp.specs.Interval.{Interval}
use Rattle.txc_cushion.specs.declared.pin.Pin.{Pin}
use Rattle.txc_cushion.specs.Pin.{is_older, PinsDescend}
use Rattle.txc_pinset.specs.declared.choice.Choice.{Choice}
use Rattle.txc_pinset.specs.declared.choice.Choice.TheVariants.{Present, At}

-- the members, the newest first, and whether the set has the present
pub record PinSetValue : Type 0 where
  pub members : List Pin
  pub has_present : Bool

-- invariant of a pin set: its members descend from the newest, and it has a member or the present
pub record IsPinSet (p : PinSetValue) : Type 0 where
  pub falls : PinsDescend p.members
  pub some : p.members ≡ [] → p.has_present ≡ true

-- a pin set in a list that has room for `space` members: while the set has the present, there is room for its
-- pin
pub record IsHeld (p : PinSetValue) (space : ℕ) : Type 0 where
  pub set : IsPinSet p
  pub room : p.has_present ≡ true → length p.members < space

-- the issued pins, and the present
abbrev pub begun_pin_set : List Pin → PinSetValue
begun_pin_set pins = record { members = pins; has_present = true }

-- the reach holds the stamp of the pin
abbrev pub is_held_by : Interval → Pin → Bool
is_held_by reach pin = nat_le reach.lo pin.stamp && nat_le pin.stamp reach.known

-- the members that the reach holds
abbrev pub kept : Interval → List Pin → List Pin
kept reach members = filter (is_held_by reach) members

-- the members that the reach holds, and no present
abbrev pub narrowed : Interval → PinSetValue → PinSetValue
narrowed reach p = record { members = kept reach p.members; has_present = false }

-- the present is replaced by its pin, as the newest member
abbrev pub with_present : Pin → PinSetValue → PinSetValue
with_present pin p = record { members = pin ∷ p.members; has_present = false }

-- the choice among these members and the present: the present if there is no member, or if the set has it and
-- the time of the newest member is more than `renew_after` before `now`; otherwise the newest member
abbrev pub choice_among : ℕ → ℕ → Bool → List Pin → Choice
choice_among now renew_after has_present [] = Present
choice_among now renew_after has_present (newest ∷ older) =
    if has_present && is_older renew_after now newest then Present else At newest.stamp

-- the place of the next query
abbrev pub choice_of : ℕ → ℕ → PinSetValue → Choice
choice_of now renew_after p = choice_among now renew_after p.has_present p.members

-- the least and the greatest stamp of the members
pub record AreBounds (members : List Pin) (bounds : ℕ × ℕ) : Type 0 where
  pub least : Any (λ m. m.stamp ≡ bounds.0) members
  pub greatest : Any (λ m. m.stamp ≡ bounds.1) members
  pub within : All (λ m. (bounds.0 ≤ m.stamp) × (m.stamp ≤ bounds.1)) members
