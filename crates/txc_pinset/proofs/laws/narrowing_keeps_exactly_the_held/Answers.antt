use Rattle.txc_pinset.specs.Members.{is_held_by}
use Rattle.txc_cushion.proofs.Offered.{kept_was_there, kept_passes, stays}
use Rattle.txc_pinset.proofs.Kept.{held_holds, holds_held}
use Rattle.txc_pinset.proofs.laws.narrowing_keeps_exactly_the_held.Goals as goal

pub returns : goal.returns
returns c = λ p reach pin. (
  λ there. (kept_was_there (is_held_by reach) p.members pin there, held_holds reach pin (kept_passes (is_held_by reach) p.members pin there)),
  λ (there, held). stays (is_held_by reach) p.members pin there (holds_held reach pin held),
)
