use Rattle.std.proofs.Common.{length, ap, sym}
use Rattle.txc_world.proofs.MakingLemmas.{memory_is_wanting, new_ports}
use Rattle.txc_world.proofs.ports.Ports.new.Goals as goal

pub invariant_of-result-2 : goal.invariant_of-result-2
invariant_of-result-2 g c = (
  sym (ap length c.in_ok-database.ensures.history.0),
  new_ports g.A.App.next c.args.settings.now c.in_ok-database.database c.in_ok-front.front c.new-cushion.result c.in_ok-nodes.nodes.items c.new-2.result.items c.args.actors
      c.in_ok-front.ensures c.new-cushion.ensures c.in_ok-nodes.ensures.nodes c.new-2.ensures.items,
)

pub returns-in_err-nodes-clause-refused : goal.returns-in_err-nodes-clause-refused
returns-in_err-nodes-clause-refused g c = memory_is_wanting c.from_residual-in_err-nodes.result c.from_residual-in_err-nodes.ensures.1
