use Rattle.std.proofs.Common.{◌≡◌, ◌+◌, length, vec_len}
use Rattle.txc_script_batch.specs.Rows.{AreRowsOf}
use Rattle.txc_script_batch.proofs.NodesBy.{AreMadeBy}
use Rattle.txc_script_batch.proofs.running.nodes.Given as goal

abbrev pub invariant-loop-row : goal.invariant-loop-row
invariant-loop-row g l = record {
  rows : AreRowsOf g.J.Naming.node_histories (vec_len l.nodes) l.row-iterator.rest.items;
  each : vec_len l.nodes + length l.row-iterator.rest.items ≡ vec_len l.fn.rows;
  made : AreMadeBy l.settings l.nodes.items;
}
