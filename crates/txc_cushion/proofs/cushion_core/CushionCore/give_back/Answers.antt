use Rattle.std.proofs.Common.{refl}
use Rattle.txc_cushion.proofs.HandedOut.{map_is}
use Rattle.txc_cushion.proofs.cushion_core.CushionCore.give_back.Goals as goal

pub invariant_of-self-2 : goal.invariant_of-self-2
invariant_of-self-2 c = rw c.in_ok-give_back.ensures.after (map_is _ (λ _. refl) _ c.self.invariant)
