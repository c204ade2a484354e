use Rattle.std.proofs.Common.{◌<◌, List, Some, ap, length, subst, sym, ◌∙◌}
use Rattle.std.specs.Prelude.{slice_set}
use Rattle.txc_shared.specs.Passes.{PassValue}
use Rattle.txc_txn_client.specs.Ports.{HaveGrown, InsertLeaves, IsCallAt}
use Rattle.txc_txn_client.proofs.Called.{called_at, inserted, kept_of}
use Rattle.txc_txn_client.proofs.Grown.{one_has_grown, settings_stay}
use Rattle.txc_txn_client.proofs.ports.Ports.insert.Goals as goal
use Rattle.txc_txn_client.proofs.ports.Ports.insert.Goals.{in-Ok, in-Err}

pub invariant_of-self : goal.invariant_of-self
invariant_of-self g c = (
  settings_stay c.self.inside.passes.items c.args.node c.index_mut-pass.result.now c.insert.new.self c.index_mut-pass.ensures.value (ap (λ (w : PassValue). w.settings) c.insert.ensures.longer.is)
      ∙ c.self.invariant.0,
  c.self.invariant.1,
)

pub returns-clause-passes : goal.returns-clause-passes
returns-clause-passes g c =
    subst (λ (v : List PassValue). HaveGrown v (slice_set c.self.inside.passes.items c.args.node c.insert.new.self)) c.self.view_is
    (one_has_grown c.self.inside.passes.items c.args.node c.index_mut-pass.result.now c.insert.new.self c.index_mut-pass.ensures.value c.insert.ensures.longer)

pub returns-clause-left : goal.returns-clause-left
returns-clause-left g c =
    let histories = g.J.Naming.node_histories in
    let old = c.index_mut-pass.result.now in
    let new = c.insert.new.self in
    let made = c.insert.ensures in
    let leaves = InsertLeaves histories c.args.entry c.match-insert.result in
    let passes = c.self.inside.passes.items in
    let within : c.args.node < length passes = subst (λ (v : List PassValue). c.args.node < length v) (sym c.self.view_is) c.requires.node in
    subst (λ (v : List PassValue). IsCallAt c.args.node leaves v (slice_set passes c.args.node new)) c.self.view_is
    (called_at passes c.args.node leaves old new within c.index_mut-pass.ensures.value made.longer
    (inserted histories old new c.args.entry c.insert.result made.made made.left made.refused c.match-insert.result
    (elim c.match-insert.branch [
      | in-Ok w ↦ w.result-is ∙ ap Some w.kept_by.ensures ∙ sym (ap kept_of w.in-Ok.is)
      | in-Err w ↦ w.result-is ∙ sym (ap kept_of w.in-Err.is)
    ])))
