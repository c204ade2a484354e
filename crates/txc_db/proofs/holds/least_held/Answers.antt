use Rattle.std.proofs.Common.{◌≡◌, slice_get, Some, sym}
use Rattle.txc_db.proofs.HeldStamps.{least_first}
use Rattle.txc_db.proofs.holds.least_held.Goals as goal

pub returns-in-Some : goal.returns-in-Some
returns-in-Some c =
    let first : slice_get c.args.holds.now 0 ≡ Some c.in-Some.first.now = sym c.in-Some.ensures.value in
    least_first c.args.newest c.args.holds.now c.in-Some.first.now c.requires.rising c.requires.within first
