-- Fronts of the same row, and the prefix of the history that each shows.
use Rattle.std.specs.Prelude.{◌≡◌}
use mathlib.Core.List.{IsPrefix}
use Rattle.txc_db.specs.FrontsAndFeeds.{FrontValue}

-- the front is of the same row, and shows a prefix of the whole history
pub record IsPartOf (whole part : FrontValue) : Type 0 where
  pub row : part.events ≡ whole.events
  pub begins : IsPrefix part.history whole.history
