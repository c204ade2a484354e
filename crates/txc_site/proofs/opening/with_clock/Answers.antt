use Rattle.std.proofs.Common.{refl}
use Rattle.txc_site.proofs.opening.with_clock.Goals as goal

-- the plan is sound
pub returns-clause-unsound : goal.returns-clause-unsound
returns-clause-unsound g c = λ unsound. absurd (unsound (c.if-not-is_sound.ensures.0 refl))
