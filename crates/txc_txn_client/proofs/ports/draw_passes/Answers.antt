use Rattle.std.proofs.Common.{◌<◌, length, arith}
use Rattle.txc_txn_client.proofs.Drawn.{none_seen, one_more}
use Rattle.txc_txn_client.proofs.ports.draw_passes.Goals as goal

pub loop-node-preserved : goal.loop-node-preserved
loop-node-preserved g c =
    let within : c.loop-node.node-index < length c.args.nodes.now = omega arith in
    record {
      nodes =
          one_more c.loop-node.passes.items c.push.new.self.items c.in_ok-pass.field-0 c.in_ok-push.ensures.items c.args.nodes.now c.loop-node.node-index c.node-item.result within
          c.loop-node.invariant.nodes c.in_ok-pass.ensures.settings c.node-item.is;
      records = none_seen c.loop-node.passes.items c.push.new.self.items c.in_ok-pass.field-0 c.in_ok-push.ensures.items c.loop-node.invariant.records c.in_ok-pass.ensures.records;
    }
