use Rattle.std.proofs.Common.{◌≡◌, ◌≤◌, take, drop, map, filter, vec_capacity, ◌++◌}
use Rattle.txc_cushion.specs.declared.limits.TheConstants.{MAX_HANDED_OUT}
use Rattle.txc_cushion.specs.Entries.{may_be_handed_out, pins_of, with_user}
use Rattle.txc_cushion.proofs.handing.hand_out_each.Given as goal

abbrev pub invariant-loop-entry : goal.invariant-loop-entry
invariant-loop-entry l =
    (l.entries ≡ map (with_user (pins_of (take MAX_HANDED_OUT (filter (may_be_handed_out l.now l.staleness l.at_least) l.fn.entries)))) (take l.entry-index l.fn.entries) ++ drop l.entry-index l.fn.entries)
    × (l.pins.items ≡ pins_of (take MAX_HANDED_OUT (filter (may_be_handed_out l.now l.staleness l.at_least) (take l.entry-index l.fn.entries))))
    × (MAX_HANDED_OUT ≤ vec_capacity l.pins)
