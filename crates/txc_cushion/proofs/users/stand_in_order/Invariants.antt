use Rattle.std.proofs.Common.{◌≡◌, ◌≤◌, drop, length}
use Rattle.txc_cushion.specs.Entries.{stand_in_order}
use Rattle.txc_cushion.proofs.users.stand_in_order.Given as goal

abbrev pub invariant-loop-entry : goal.invariant-loop-entry
invariant-loop-entry l =
    (stand_in_order l.entries l.stamps ≡ stand_in_order (drop l.entry-index l.entries) (drop l.found l.stamps))
    × (l.found ≤ length l.stamps)
