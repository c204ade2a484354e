use Rattle.std.proofs.Common.{◌≤◌, sym, subst, ◌∙◌}
use Rattle.txc_node.specs.declared.node.TheConstants.{MOST_CAPACITY}
use Rattle.txc_node.proofs.Weights.{closed_weight, closed_short}
use Rattle.txc_node.proofs.weighed.WeighedEntries.close.Goals as goal

pub invariant_of-self : goal.invariant_of-self
invariant_of-self c =
    let a = c.args in
    let i = c.self.inside in
    let h = c.self.invariant in
    let stamp = a.closing.now.stamp in
    let tags = a.closing.now.tags.now in
    record {
      sum = h.sum ∙ sym (rw c.close_in.ensures.entries (closed_weight stamp tags a.place.now i.cache.entries));
      short = rw c.close_in.ensures.entries (closed_short stamp tags a.place.now i.cache.entries h.short);
      few = subst (λ n. n ≤ MOST_CAPACITY) (sym c.close_in.ensures.cap) h.few;
    }
