use Rattle.std.proofs.Common.{◌≡◌, refl, ap, sym, subst}
use Rattle.txc_db.specs.FrontsAndFeeds.{FrontValue}
use Rattle.txc_shared.specs.Nodes.{NodeFrontValue, NodeValue}
use Rattle.txc_shared.specs.LockedNode.{IsAhead}
use Rattle.txc_shared.proofs.Locking.{shown_legal}
use Rattle.txc_shared.proofs.Passes.{over_as}
use Rattle.txc_shared.proofs.held.Held.show.Goals as goal

pub see-requires-clause-legal : goal.see-requires-clause-legal
see-requires-clause-legal g c =
    let row = g.J.Naming.database_history in
    let n = c.self.inside.node in
    let p = c.args.pass.now in
    let ahead : IsAhead n p = subst (λ (m : NodeValue). IsAhead m p) (sym c.self.view_is) c.requires in
    let legal = shown_legal c.legal_histories.ensures.events row g.A.App.next n p c.self.invariant.begun c.is_sound.ensures ahead in
    let history : c.seen.result.now.history ≡ n.seen.history = ap (λ (f : FrontValue). f.history) c.seen.ensures in
    let records : c.front.result.now.records ≡ n.records = ap (λ (f : NodeFrontValue). f.records) c.front.ensures in
    over_as row c.seen.result.now.history n.seen.history p.settings p.settings c.front.result.now.records n.records history refl records legal
