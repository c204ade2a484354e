use mathlib.Core.List.{IsPrefix}
use Rattle.txc_site_workers.proofs.carried_entries.carry_entries.Given as goal

-- what the node has seen is a beginning of the whole history
abbrev pub invariant-loop : goal.invariant-loop
invariant-loop g l = IsPrefix l.left.seen.history l.whole.history
