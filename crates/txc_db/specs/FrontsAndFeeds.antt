-- The observed events of fronts and feeds.
use Rattle.std.specs.Prelude.{ℕ}
use Rattle.txc_stream.specs.Names.{Name, stored, unstored}
use Rattle.txc_db.specs.History.{History}

-- the history's identity, and its first events, as observed
pub record FrontValue : Type 0 where
  pub events : Name
  pub history : History

-- the events that a feed has seen, and how many of them were taken
pub record FeedValue : Type 0 where
  pub history : History
  pub taken : ℕ

-- the number of events that a feed has taken at its beginning: none of a stored history, and each of any other
abbrev pub taken_at_start : Name → ℕ → ℕ
taken_at_start (stored cells) events = 0
taken_at_start (unstored number) events = events
