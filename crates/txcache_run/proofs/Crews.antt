-- Workers of a batch, of which each has all functions of the program.
use Rattle.std.proofs.Common.{ℕ}
use Rattle.txc_script_batch.specs.WorkerFunctions.{IsCrew}
use Rattle.txc_script_batch.proofs.Offered.{crew_of}
use Rattle.txcache_functions.specs.AnyFunction.{ALL_NUMBERS}
use Rattle.txcache_run.specs.Registries.{IsStaff, StaffValue}

pub staff_crew : (permits workers : ℕ) (staff : StaffValue) → IsStaff permits workers staff → IsCrew workers staff.registries
staff_crew permits workers staff h = crew_of staff.registries ALL_NUMBERS workers h.counted h.functions h.idle
