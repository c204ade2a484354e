use Rattle.std.proofs.Common.{◌<◌, length, arith}
use Rattle.txc_site_keeper.proofs.NodesKept.{all_have_budget, none_has_seen, one_station_more}
use Rattle.txc_site_keeper.proofs.keeper.stations.Goals as goal

pub loop-node-preserved : goal.loop-node-preserved
loop-node-preserved g c =
    let within : c.loop-node.node-index < length c.args.nodes.now = omega arith in
    record {
      nodes =
          one_station_more c.loop-node.stations.items c.push.new.self.items _ c.in_ok-push.ensures.items c.args.nodes.now c.loop-node.node-index c.node-item.result within
          c.loop-node.invariant.nodes c.in_ok-new.ensures.settings c.node-item.is;
      records = none_has_seen c.loop-node.stations.items c.push.new.self.items _ c.in_ok-push.ensures.items c.loop-node.invariant.records c.in_ok-new.ensures.records;
      budget = all_have_budget c.loop-node.stations.items c.push.new.self.items _ c.in_ok-push.ensures.items c.args.budget c.loop-node.invariant.budget c.in_ok-new.ensures.budget;
    }
