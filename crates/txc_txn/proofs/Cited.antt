-- What pin sets keep, as the crate below proves it.
use Rattle.std.proofs.Common.{refl}
use Rattle.txc_cushion.proofs.Offered.{kept_was_there, kept_passes, stays}
use Rattle.txc_pinset.specs.Laws.{KeepsExactlyTheHeld, NeverIsEmpty}
use Rattle.txc_pinset.specs.Members.{is_held_by}
use Rattle.txc_pinset.proofs.Kept.{held_holds, holds_held, joined_is, narrowed_is}

pub keeps_exactly : KeepsExactlyTheHeld
keeps_exactly p reach pin = (
  λ there. (kept_was_there (is_held_by reach) p.members pin there, held_holds reach pin (kept_passes (is_held_by reach) p.members pin there)),
  λ (there, held). stays (is_held_by reach) p.members pin there (holds_held reach pin held),
)

pub never_empty : NeverIsEmpty
never_empty = record { begins = λ pins falls. record { falls = falls; some = λ _. refl }; narrows = narrowed_is; joins = joined_is }
