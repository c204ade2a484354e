use Rattle.std.proofs.Common.{◌≡◌, List, [], false, ap, sym, subst}
use Rattle.txc_node.specs.Cache.{Cache}
use Rattle.txc_node.specs.Counts.{AreCountsOf}
use Rattle.txc_node.specs.declared.record.Record.{Record}
use Rattle.txc_shared.specs.Nodes.{LogValue, start_of}
use Rattle.txc_shared.specs.Runs.{IsNode}
use Rattle.txc_shared.proofs.stored_node.StoredNode.of.Goals as goal

pub invariant_of-result : goal.invariant_of-result
invariant_of-result g c =
    let seen = c.args.seen.history in
    let start = start_of c.args.settings c.args.from in
    let none : c.new-log.result.records ≡ [] = ap (λ (l : LogValue). l.records) c.new-log.ensures in
    let begins = c.nodes_go_on.ensures.begins g.A.App.next seen c.args.settings.capacity c.args.settings.recent c.args.from c.requires.seen in
    let empty = subst (λ (k : Cache). IsNode g.A.App.next seen start [] k false) (sym c.in_ok-core.ensures) begins in (
      subst (λ (rs : List Record). IsNode g.A.App.next seen start rs c.in_ok-core.core false) (sym none) empty,
      λ whole. subst (λ (rs : List Record). AreCountsOf rs c.new.result) (sym none) c.new.ensures.history,
    )
