use Rattle.std.proofs.Common.{◌≡◌, [], take, map}
use Rattle.std.specs.Prelude.{All}
use Rattle.txc_site_keeper.proofs.keeper.stations.Given as goal

abbrev pub invariant-loop-node : goal.invariant-loop-node
invariant-loop-node g l = record {
  nodes : map (λ s. s.pass.settings) l.stations.items ≡ take l.node-index l.nodes;
  records : All (λ s. s.pass.records ≡ []) l.stations.items;
  budget : All (λ s. s.budget ≡ l.budget) l.stations.items;
}
