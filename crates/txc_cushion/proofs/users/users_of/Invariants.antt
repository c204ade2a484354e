use Rattle.std.proofs.Common.{◌≡◌, drop}
use Rattle.txc_cushion.specs.Entries.{users_of}
use Rattle.txc_cushion.proofs.users.users_of.Given as goal

abbrev pub invariant-loop-entry : goal.invariant-loop-entry
invariant-loop-entry l = users_of l.stamp l.entries ≡ users_of l.stamp (drop l.entry-index l.entries)
