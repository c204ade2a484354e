use Rattle.std.proofs.Common.{◌+◌, IsSome, arith, subst, sym}
use Rattle.txc_tags.specs.declared.key.TheConstants.{LAST_FUNCTION}
use Rattle.txc_call_registry.specs.Objects.{Objects, activity_of, AllIdle}
use Rattle.txc_call_ghosts.proofs.Fresh.{below_idle, below_there}
use Rattle.txc_call_ghosts.proofs.ghost_objects.GhostObjects.new.Goals as goal

pub returns-clause-idle : goal.returns-clause-idle
returns-clause-idle c = subst (λ (os : Objects). AllIdle os) (sym c.of.ensures) (below_idle (LAST_FUNCTION + 1))

pub returns-clause-functions : goal.returns-clause-functions
returns-clause-functions c = λ f small.
    subst (λ (os : Objects). IsSome (activity_of os f)) (sym c.of.ensures) (below_there (LAST_FUNCTION + 1) f (omega (arith, small)))
