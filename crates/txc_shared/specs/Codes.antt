-- The codes of errors.
use Rattle.std.specs.Prelude.{ℕ, List, codes}
use Rattle.txc_shared.specs.declared.error.NodeError.{NodeError}
use Rattle.txc_shared.specs.declared.error.NodeError.TheVariants as nodes

abbrev pub node_code : NodeError → List ℕ
node_code nodes.HistoryFull = codes "H1"
node_code nodes.Broken = codes "H2"
node_code nodes.PassesFull = codes "H3"
node_code nodes.EmptyRange = codes "N1"
node_code nodes.Memory = codes "memory"
