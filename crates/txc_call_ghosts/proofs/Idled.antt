-- Objects that were made idle are idle.
use Rattle.std.proofs.Common.{◌≡◌, ℕ, [], ◌∷◌, refl}
use Rattle.std.proofs.lemmas.List.Elements.{All-nil, All-cons}
use Rattle.txc_call_registry.specs.Activity.{Activity, idle}
use Rattle.txc_call_registry.specs.Objects.{Objects, AllIdle}
use Rattle.txc_call_ghosts.specs.Steps.{idled}

pub idled_is : (objects : Objects) → AllIdle (idled objects)
idled_is [] = All-nil (λ (o : ℕ × Activity). o.1 ≡ idle)
idled_is (o ∷ os) = All-cons (λ (p : ℕ × Activity). p.1 ≡ idle) (o.0, idle) (idled os) refl (idled_is os)
