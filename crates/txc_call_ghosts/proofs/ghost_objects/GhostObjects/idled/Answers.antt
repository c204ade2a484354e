use Rattle.std.proofs.Common.{ap, ◌∙◌}
use Rattle.txc_call_registry.specs.Objects.{Objects, numbers_of}
use Rattle.txc_call_ghosts.proofs.Idled.{idled_is}
use Rattle.txc_call_ghosts.proofs.Numbers.{idled_numbers}
use Rattle.txc_call_ghosts.proofs.ghost_objects.GhostObjects.idled.Goals as goal

pub returns-clause-idle : goal.returns-clause-idle
returns-clause-idle c = rw c.of.ensures (idled_is c.args.self.now.objects)

pub returns-clause-functions : goal.returns-clause-functions
returns-clause-functions c = ap (λ (os : Objects). numbers_of os) c.of.ensures ∙ idled_numbers c.args.self.now.objects
