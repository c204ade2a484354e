use Rattle.std.proofs.Common.{◌≡◌, sym, subst}
use Rattle.txc_shared.specs.Nodes.{NodeValue}
use Rattle.txc_shared.specs.Passes.{IsPassLeft}
use Rattle.txc_shared.proofs.Locking.{full_shown}
use Rattle.txc_shared.proofs.held.Held.refuse.Goals as goal

pub returns-in-HistoryFull-clause-left : goal.returns-in-HistoryFull-clause-left
returns-in-HistoryFull-clause-left g c =
    let histories = g.J.Naming.node_histories in
    let n = c.args.self.now in
    let full = c.requires c.in-HistoryFull.is in
    let named : n.name ≡ histories n.settings.number = subst (λ (m : NodeValue). m.name ≡ histories m.settings.number) c.self.view_is c.self.invariant.name in
    subst (IsPassLeft (histories c.args.pass.now.settings.number) c.args.pass.now c.show.new.pass) (sym c.in-HistoryFull.is)
    (full_shown histories n c.args.pass.now c.show.new.pass full.0 full.1 named c.show.ensures.records)
