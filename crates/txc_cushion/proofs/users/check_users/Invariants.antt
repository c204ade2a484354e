use Rattle.std.proofs.Common.{take}
use Rattle.txc_cushion.specs.Refusals.{HaveUsers}
use Rattle.txc_cushion.proofs.users.check_users.Given as goal

abbrev pub invariant-loop-place : goal.invariant-loop-place
invariant-loop-place l = HaveUsers l.entries (take l.place l.stamps)
