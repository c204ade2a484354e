use Rattle.std.proofs.Common.{◌≡◌, ◌+◌, ◌≤◌, ◌++◌, List, length, vec_capacity, vec_len}
use Rattle.txc_site_keeper.specs.NodeReports.{HaveKept, ok_of}
use Rattle.txc_site_keeper.specs.KeeperNodes.{KeeperNodeValue}
use Rattle.txc_site_keeper.proofs.keeper.keep_all.Given as goal

-- the stations as they were whose nodes were kept
abbrev pub invariant-loop-station : goal.invariant-loop-station
invariant-loop-station g l = (olds : List KeeperNodeValue)
    × HaveKept g.J.Naming.database_history g.J.Naming.node_histories (ok_of l.horizon) olds l.nodes.items l.left.items
    × (olds ++ l.station-iterator.rest.items ≡ l.fn.stations.items)
    × (vec_len l.nodes + length l.station-iterator.rest.items ≤ vec_capacity l.nodes)
    × (vec_len l.left + length l.station-iterator.rest.items ≤ vec_capacity l.left)
