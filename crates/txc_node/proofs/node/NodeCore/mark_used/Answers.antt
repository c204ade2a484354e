use Rattle.std.proofs.Common.{◌≡◌, ◌∷◌, sym, subst}
use Rattle.txc_node.specs.contracts.node.NodeCore.{the_view}
use Rattle.txc_node.specs.Cache.{Cache, IsBounded}
use Rattle.txc_node.specs.IndexedEntries.{IsSearchOf}
use Rattle.txc_node.specs.Entries.{others}
use Rattle.txc_node.proofs.LawLemmas.{lookup_bounded}
use Rattle.txc_node.proofs.Moves.{after_found}
use Rattle.txc_node.proofs.node.NodeCore.mark_used.Goals as goal

pub invariant_of-self : goal.invariant_of-self
invariant_of-self c =
    let a = c.args in
    let v = the_view c.self.inside in
    let s = a.search.now in
    let is = subst (λ (m : Cache). IsSearchOf m a.key.now s) (sym c.self.view_is) c.requires in
    let h = rw c.in-Some.is at is.stands in
    let moved : c.bring_first.new.self.entries ≡ h.0 ∷ others h.0 v.entries = c.bring_first.ensures.entries h.0 h.2 in
    rw c.bring_first.ensures.capacity (subst IsBounded (sym (after_found v a.key.now s.lo s.hi h.0 c.bring_first.new.self.entries h.1 moved)) (lookup_bounded v a.key.now s.lo s.hi c.self.invariant))
