use Rattle.std.proofs.Common.{List, sym, subst}
use Rattle.txc_node.specs.Counts.{AreCountsOf}
use Rattle.txc_node.specs.declared.record.Record.{Record}
use Rattle.txc_shared.specs.Nodes.{NodeValue}
use Rattle.txc_shared.specs.Passes.{GrowsByOthers}
use Rattle.txc_shared.specs.LockedNode.{IsAdmitted}
use Rattle.txc_shared.proofs.Locking.{others_did}
use Rattle.txc_shared.proofs.held.Held.node_counts.Goals as goal

pub returns-clause-others : goal.returns-clause-others
returns-clause-others g c =
    let p = c.args.pass.now in
    let n = c.admit.new.self in
    let admitted : IsAdmitted n p = subst (λ (k : NodeValue). IsAdmitted k p) (sym c.in_ok-admit.ensures.unchanged) c.in_ok-admit.ensures.ok in
    subst (GrowsByOthers p.pass p.records) (sym c.show.ensures.records) (others_did p.pass p.records n.records admitted.ahead.records admitted.turn)

pub returns-clause-counts : goal.returns-clause-counts
returns-clause-counts g c =
    let right = subst (AreCountsOf c.self.inside.node.records) (sym c.again-counts.ensures) c.in-Some.ensures in
    let shown = subst (λ (m : NodeValue). AreCountsOf m.records c.again-counts.result) c.self.view_is right in
    subst (λ (rs : List Record). AreCountsOf rs c.again-counts.result) (sym c.show.ensures.records) shown
