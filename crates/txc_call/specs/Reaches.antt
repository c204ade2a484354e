-- The stamps at which the answers of a frame hold together.
use Rattle.std.specs.Prelude.{ℕ, Option, Some, None}
use Rattle.txc_stamp.specs.Interval.{Interval, Holds, meet_of}

-- the reach holds at the stamp; no reach is everywhere
abbrev pub InReach : ℕ → Option Interval → Type 0
InReach t None = Unit {0}
InReach t (Some reach) = Holds reach t

-- the stamps at which both hold, if they share one; no reach is everywhere
abbrev pub meet : Option Interval → Option Interval → Option Interval
meet None other = other
meet (Some a) None = Some a
meet (Some a) (Some b) = meet_of a b

-- some stamp is held by both
pub record HaveCommon (a b : Interval) : Type 0 where
  pub at_stamp : ℕ
  pub one : Holds a at_stamp
  pub other : Holds b at_stamp

-- they share a stamp
abbrev pub ReachesMeet : Option Interval → Option Interval → Type 0
ReachesMeet None other = Unit {0}
ReachesMeet (Some a) None = Unit {0}
ReachesMeet (Some a) (Some b) = HaveCommon a b
