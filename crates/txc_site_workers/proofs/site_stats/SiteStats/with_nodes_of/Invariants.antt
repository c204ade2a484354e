use Rattle.std.proofs.Common.{◌≡◌}
use Rattle.txc_txn_client.specs.Ports.{HaveGrown}
use Rattle.txc_site_workers.proofs.site_stats.SiteStats.with_nodes_of.Given as goal

abbrev pub invariant-loop-node : goal.invariant-loop-node
invariant-loop-node g l = record {
  same : l.client ≡ record l.fn.client { passes = l.client.passes };
  grown : HaveGrown l.fn.client.passes l.client.passes;
}
