-- The callers of functions: actors, or workers.
use Rattle.std.specs.Prelude.{◌≡◌, ℕ, List, All, length}
use Rattle.txc_call_registry.specs.Objects.{Objects, numbers_of, AllIdle}
use Rattle.txcache_functions.specs.AnyFunction.{ALL_NUMBERS}

-- the number of permits that they share, and the registry of each
pub record StaffValue : Type 0 where
  pub permits : ℕ
  pub registries : List Objects

-- this many callers, all idle, which have all functions of the program and share this many permits
pub record IsStaff (permits count : ℕ) (staff : StaffValue) : Type 0 where
  pub shared : staff.permits ≡ permits
  pub counted : length staff.registries ≡ count
  pub functions : All (λ objects. numbers_of objects ≡ ALL_NUMBERS) staff.registries
  pub idle : All AllIdle staff.registries
