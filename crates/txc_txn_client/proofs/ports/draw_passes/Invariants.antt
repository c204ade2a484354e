use Rattle.std.proofs.Common.{◌≡◌, [], take, map}
use Rattle.std.specs.Prelude.{All}
use Rattle.txc_txn_client.proofs.ports.draw_passes.Given as goal

abbrev pub invariant-loop-node : goal.invariant-loop-node
invariant-loop-node g l = record {
  nodes : map (λ pass. pass.settings) l.passes.items ≡ take l.node-index l.nodes;
  records : All (λ pass. pass.records ≡ []) l.passes.items;
}
