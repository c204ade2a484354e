use Rattle.std.proofs.Common.{◌≡◌}
use Rattle.std.proofs.lemmas.List.Elements.{All-push, All-same}
use Rattle.txc_site_workers.proofs.site_parts.drain_each.Goals as goal

pub loop-node-preserved : goal.loop-node-preserved
loop-node-preserved g c =
    All-same (λ left. left.seen.events ≡ g.J.Naming.database_history) _ _ c.in-Ok.ensures.items
    (All-push (λ left. left.seen.events ≡ g.J.Naming.database_history) _ _ c.loop-node.invariant c.drain.ensures.seen)
