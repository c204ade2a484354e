use Rattle.txc_site_keeper.proofs.Tending.{looked_on, since_begun}
use Rattle.txc_site_keeper.proofs.site_keeper.run_keeper.Goals as goal

pub loop-init : goal.loop-init
loop-init g c =
    since_begun g.J.Naming.database_history g.J.Naming.node_histories c.args.nodes.now c.args.budget (g.C.Clock.tells c.args.clock.now) c.args.keeping c.in_ok-own.own
    c.in_ok-own.ensures.new

pub loop-preserved : goal.loop-preserved
loop-preserved g c =
    looked_on g.J.Naming.database_history g.J.Naming.node_histories c.args.nodes.now c.args.budget (g.C.Clock.tells c.args.clock.now) c.args.keeping
    c.loop.own c.look-looked.result.0 c.loop.due c.now-now.result c.look-looked.result.1 c.loop.invariant c.now-now.ensures c.look-looked.ensures
