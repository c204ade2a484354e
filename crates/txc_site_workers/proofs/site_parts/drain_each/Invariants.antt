use Rattle.std.proofs.Common.{◌≡◌, All}
use Rattle.txc_site_workers.proofs.site_parts.drain_each.Given as goal

abbrev pub invariant-loop-node : goal.invariant-loop-node
invariant-loop-node g l = All (λ left. left.seen.events ≡ g.J.Naming.database_history) l.left.items
