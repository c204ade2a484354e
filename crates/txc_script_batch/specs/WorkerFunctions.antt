-- The functions of the workers that run jobs.
use Rattle.std.specs.Prelude.{◌≡◌, ℕ, List, [], ◌∷◌, All, length}
use Rattle.txc_call_registry.specs.Objects.{Objects, numbers_of, AllIdle}

-- the numbers of the first worker's functions
abbrev pub numbers_in : List Objects → List ℕ
numbers_in [] = []
numbers_in (objects ∷ crew) = numbers_of objects

-- this many workers, all idle, each with the functions of the first
pub record IsCrew (workers : ℕ) (crew : List Objects) : Type 0 where
  pub count : length crew ≡ workers
  pub idle : All AllIdle crew
  pub functions : All (λ objects. numbers_of objects ≡ numbers_in crew) crew
