use Rattle.std.proofs.Common.{rules, [], ◌∷◌, ◌++◌, ap, length, arith}
use Rattle.std.proofs.lemmas.Grind.{common_steps}
use Rattle.txc_site_keeper.specs.NodeReports.{ok_of}
use Rattle.txc_site_keeper.proofs.NodesKept.{none_kept, one_left_more, one_station_less}
use Rattle.txc_site_keeper.proofs.keeper.keep_all.Goals as goal

pub loop-station-init : goal.loop-station-init
loop-station-init g c = (
  [],
  none_kept g.J.Naming.database_history g.J.Naming.node_histories (ok_of c.args.horizon.now) c.args.nodes.items c.args.left.items (search rules) (search rules),
  search rules,
  grind (arith, common_steps),
  grind (arith, common_steps),
)

pub loop-station-preserved : goal.loop-station-preserved
loop-station-preserved g c =
    let before = c.loop-station.invariant in
    let step = c.in-Some.ensures.steps.0 in
    let one = c.keep_node-station in (
      before.0 ++ c.in-Some.station ∷ [],
      one_left_more g.J.Naming.database_history g.J.Naming.node_histories (ok_of c.args.horizon.now) before.0 _ _ _ _ one.result.0 c.in-Some.station one.result.1 before.1 one.ensures c.push_reserved.ensures.items c.push_reserved-in-loop-station.ensures.items,
      one_station_less before.0 _ c.in-Some.station _ _ before.2 step,
      grind (arith, common_steps, before.3, ap length step, c.push_reserved.ensures.len, c.push_reserved.ensures.capacity),
      grind (arith, common_steps, before.4, ap length step, c.push_reserved-in-loop-station.ensures.len, c.push_reserved-in-loop-station.ensures.capacity),
    )
