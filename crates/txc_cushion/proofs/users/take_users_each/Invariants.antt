use Rattle.std.proofs.Common.{◌≡◌, take, drop, map, ◌++◌}
use Rattle.txc_cushion.specs.Entries.{without_users}
use Rattle.txc_cushion.proofs.users.take_users_each.Given as goal

abbrev pub invariant-loop-entry : goal.invariant-loop-entry
invariant-loop-entry l = l.entries ≡ map (without_users l.stamps) (take l.entry-index l.fn.entries) ++ drop l.entry-index l.fn.entries
