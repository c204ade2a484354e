use Rattle.std.proofs.Common.{◌<◌, List, Option, ap, length, subst, sym, ◌∙◌}
use Rattle.std.specs.Prelude.{slice_set}
use Rattle.txc_node.specs.Counts.{Totals}
use Rattle.txc_shared.specs.Passes.{PassValue}
use Rattle.txc_txn_client.specs.Ports.{CountsLeave, HaveGrown, IsCallAt}
use Rattle.txc_txn_client.proofs.Called.{called_at, counted, count_refused}
use Rattle.txc_txn_client.proofs.Grown.{one_has_grown, settings_stay}
use Rattle.txc_txn_client.proofs.ports.Ports.node_counts.Goals as goal
use Rattle.txc_txn_client.proofs.ports.Ports.node_counts.Goals.{in-Ok, in-Err}

pub invariant_of-self : goal.invariant_of-self
invariant_of-self g c = (
  settings_stay c.self.inside.passes.items c.args.node c.index_mut-pass.result.now c.node_counts.new.self c.index_mut-pass.ensures.value (ap (λ (w : PassValue). w.settings) c.node_counts.ensures.longer.is)
      ∙ c.self.invariant.0,
  c.self.invariant.1,
)

pub returns-clause-passes : goal.returns-clause-passes
returns-clause-passes g c =
    subst (λ (v : List PassValue). HaveGrown v (slice_set c.self.inside.passes.items c.args.node c.node_counts.new.self)) c.self.view_is
    (one_has_grown c.self.inside.passes.items c.args.node c.index_mut-pass.result.now c.node_counts.new.self c.index_mut-pass.ensures.value c.node_counts.ensures.longer)

pub returns-clause-left : goal.returns-clause-left
returns-clause-left g c =
    let old = c.index_mut-pass.result.now in
    let new = c.node_counts.new.self in
    let said = c.node_counts.ensures in
    let histories = g.J.Naming.node_histories in
    let leaves = CountsLeave histories c.match-node_counts.result in
    let passes = c.self.inside.passes.items in
    let within : c.args.node < length passes = subst (λ (v : List PassValue). c.args.node < length v) (sym c.self.view_is) c.requires in
    subst (λ (v : List PassValue). IsCallAt c.args.node leaves v (slice_set passes c.args.node new)) c.self.view_is
    (called_at passes c.args.node leaves old new within c.index_mut-pass.ensures.value said.longer
    (elim c.match-node_counts.branch [
      | in-Ok w ↦
          subst (λ (o : Option Totals). CountsLeave histories o old new) (sym w.result-is)
          (counted histories old new c.node_counts.result w.in-Ok.counts w.in-Ok.is said.others said.counts)
      | in-Err w ↦
          subst (λ (o : Option Totals). CountsLeave histories o old new) (sym w.result-is)
          (count_refused histories old new c.node_counts.result _ w.in-Err.is said.left said.refused)
    ]))
