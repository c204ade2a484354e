use Rattle.std.proofs.Common.{◌≡◌, All}
use Rattle.txc_site_workers.proofs.site_parts.SiteParts.carry_entries.Given as goal

abbrev pub invariant-loop-left : goal.invariant-loop-left
invariant-loop-left g l = All (λ node. node.seen.events ≡ l.whole.events) l.left-iterator.rest.items
