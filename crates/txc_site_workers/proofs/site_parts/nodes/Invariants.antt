use Rattle.std.proofs.Common.{◌≡◌, ◌+◌, length, map, vec_len}
use Rattle.std.specs.List.{range_with_len}
use Rattle.txc_site_workers.specs.Plans.{settings_of_node}
use Rattle.txc_site_workers.specs.Histories.{AreHistoriesOf}
use Rattle.txc_site_workers.proofs.site_parts.nodes.Given as goal

abbrev pub invariant-loop-history : goal.invariant-loop-history
invariant-loop-history g l = record {
  histories : AreHistoriesOf g.J.Naming.node_histories (vec_len l.nodes) l.history-iterator.rest.items;
  each : vec_len l.nodes + length l.history-iterator.rest.items ≡ vec_len l.fn.histories;
  made : l.nodes.items ≡ map (λ number. settings_of_node l.plan number) (range_with_len 0 (vec_len l.nodes));
}
