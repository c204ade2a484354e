-- Pins that a client keeps from one transaction to the next.
use Rattle.std.specs.Prelude.{◌≡◌, ℕ, ◌+◌, nat_le, nat_lt, not, ◌&&◌, Bool, true, false, List, Option, None, Some, filter}
use Rattle.std.specs.List.{list_all, list_any}
use Rattle.txc_stream.specs.Names.{Name}
use Rattle.txc_db.specs.FrontsAndFeeds.{FrontValue}
use Rattle.txc_cushion.specs.declared.pin.Pin.{Pin}
use Rattle.txc_cushion.specs.Pin.{is_older}
use Rattle.txc_cushion.specs.Cushion.{cushion_front, handed_out}
use Rattle.txc_cushion.specs.Pincushion.{CushionMayAnswer}
use Rattle.txc_txn_ports.specs.declared.bounds.Bounds.{Bounds}

-- issued pins, the newest first; the history of their front; and the time, in milliseconds, of the bounds for
-- which they were issued
pub record HandedValue : Type 0 where
  pub pins : List Pin
  pub front : FrontValue
  pub since : ℕ

-- for how many milliseconds pins are kept, and those that are
pub record KeptValue : Type 0 where
  pub most : ℕ
  pub handed : Option HandedValue

-- it is fresh: its moment is no more than the staleness before now, and its stamp is not below the one asked
-- for
abbrev pub is_fresh : Bounds → Pin → Bool
is_fresh asked pin = not (is_older asked.staleness asked.now pin) && nat_le asked.at_least pin.stamp

-- the fresh ones
abbrev pub fresh_of : Bounds → HandedValue → List Pin
fresh_of asked handed = filter (is_fresh asked) handed.pins

-- A transaction may begin with them: their time is not over, none is below the stamp asked for, and one is
-- fresh.
abbrev pub may_be_used : ℕ → Bounds → HandedValue → Bool
may_be_used most asked handed =
    (nat_le handed.since asked.now && nat_lt asked.now (handed.since + most))
    && (list_all (λ p. nat_le asked.at_least p.stamp) handed.pins && list_any (is_fresh asked) handed.pins)

-- there are pins that may be used
abbrev pub may_go_on : ℕ → Bounds → Option HandedValue → Bool
may_go_on most asked None = false
may_go_on most asked (Some handed) = may_be_used most asked handed

-- some pincushion of the history issued these for these bounds
pub record IsHandedFor (events : Name) (asked : Bounds) (handed : HandedValue) : Type 0 where
  pub pins : CushionMayAnswer events (λ cushion (h : HandedValue). (h.front ≡ cushion_front cushion)
      × (h.pins ≡ handed_out cushion asked.now asked.staleness asked.at_least)) handed
  pub since : handed.since ≡ asked.now

-- The kept pins after a transaction asked for pins: the same, if these may be used; otherwise those that some
-- pincushion of the history issued for its bounds.
pub record IsKeptAfter (events : Name) (asked : Bounds) (before : KeptValue) (after : HandedValue) : Type 0 where
  pub same : may_go_on before.most asked before.handed ≡ true → before.handed ≡ Some after
  pub anew : may_go_on before.most asked before.handed ≡ false → IsHandedFor events asked after

-- these pins are kept then
pub record AreKept (events : Name) (asked : Bounds) (before after : KeptValue) : Type 0 where
  pub handed : HandedValue
  pub some : after.handed ≡ Some handed
  pub since : IsKeptAfter events asked before handed

-- a transaction has begun with exactly those of the kept pins that are fresh for its bounds, and has seen what
-- their front shows
pub record HasBegunKept (events : Name) (asked : Bounds) (before after : KeptValue) (pins : List Pin) (front : FrontValue) : Type 0 where
  pub kept : AreKept events asked before after
  pub members : pins ≡ fresh_of asked kept.handed
  pub seen : front ≡ kept.handed.front
