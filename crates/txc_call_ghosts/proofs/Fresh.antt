-- An object for each function.
use Rattle.std.proofs.Common.{◌≡◌, ℕ, zero, suc, ◌<◌, Bool, true, false, eqb, IsSome, refl, arith}
use Rattle.std.proofs.lemmas.List.Elements.{All-nil, All-cons}
use Rattle.std.proofs.lemmas.Bool.{eqb-false}
use Rattle.txc_call_registry.specs.Activity.{Activity, idle}
use Rattle.txc_call_registry.specs.Objects.{activity_of, AllIdle}
use Rattle.txc_call_ghosts.specs.Steps.{idle_below}

pub below_idle : (n : ℕ) → AllIdle (idle_below n)
below_idle zero = All-nil (λ (o : ℕ × Activity). o.1 ≡ idle)
below_idle (suc n) = All-cons (λ (o : ℕ × Activity). o.1 ≡ idle) (n, idle) (idle_below n) refl (below_idle n)

below_by : (n f : ℕ) (b : Bool) → eqb n f ≡ b → f < suc n → (f < n → IsSome (activity_of (idle_below n) f)) → IsSome (activity_of (idle_below (suc n)) f)
below_by n f true is less rest = rw is refl
below_by n f false is less rest = let other = eqb-false n f is in rw is (rest (omega (arith, less, other)))

pub below_there : (n f : ℕ) → f < n → IsSome (activity_of (idle_below n) f)
below_there zero f less = absurd (omega (arith, less))
below_there (suc n) f less = below_by n f (eqb n f) refl less (below_there n f)
