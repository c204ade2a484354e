use Rattle.txc_node.specs.contracts.node.NodeCore.{the_view}
use Rattle.txc_node.proofs.LawLemmas.{event_bounded}
use Rattle.txc_node.proofs.node.NodeCore.event.Goals as goal

pub invariant_of-self : goal.invariant_of-self
invariant_of-self c =
    let v = the_view c.self.inside in
    let keeps = event_bounded v c.args.tags c.args.stamp c.self.invariant in
    rw (c.invalidate-count.ensures.entries, c.invalidate-count.ensures.capacity, c.push_back.ensures.items) keeps
