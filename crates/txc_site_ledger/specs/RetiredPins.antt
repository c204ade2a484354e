-- Only private functions need this file: pins that a keeper has retired.
use Rattle.std.specs.Prelude.{ℕ, List}

-- their stamps, and how many of them were taken
pub record RetiredValue : Type 0 where
  pub stamps : List ℕ
  pub taken : ℕ
