use Rattle.txc_cushion.proofs.UserCounts.{retire_is}
use Rattle.txc_cushion.proofs.cushion_core.CushionCore.retire.Goals as goal

pub invariant_of-self : goal.invariant_of-self
invariant_of-self c = rw c.retire.ensures (retire_is _ c.args.now c.args.age c.self.invariant)
