use Rattle.std.proofs.Common.{ap, ◌∙◌}
use Rattle.txc_call_registry.specs.Objects.{Objects, numbers_of}
use Rattle.txc_call_ghosts.proofs.Numbers.{numbers_after}
use Rattle.txc_call_ghosts.proofs.ghost_objects.GhostObjects.ran.Goals as goal

pub returns-clause-functions : goal.returns-clause-functions
returns-clause-functions c =
    ap (λ (os : Objects). numbers_of os) c.of.ensures
    ∙ numbers_after c.args.self.now.objects c.args.machine.now.frames c.args.machine.now.need c.args.ask.now
