use Rattle.std.proofs.Common.{sym, subst, ◌∙◌}
use Rattle.lru.specs.LruCache.{LruCache}
use Rattle.txc_node.specs.declared.place.Place.{Place}
use Rattle.txc_node.specs.declared.stored.Stored.{Stored}
use Rattle.txc_node.specs.Places.{equal_places}
use Rattle.txc_node.specs.WeighedEntries.{IsWeighed}
use Rattle.txc_node.proofs.Weights.{promoted_weight, promoted_short}
use Rattle.txc_node.proofs.weighed.WeighedEntries.promote.Goals as goal

pub invariant_of-self : goal.invariant_of-self
invariant_of-self c =
    let i = c.self.inside in
    let h = c.self.invariant in
    let test = equal_places c.args.place.now in
    subst (λ (m : LruCache Place Stored). IsWeighed m i.bytes) (sym c.promote.ensures.entries) (record {
      sum = h.sum ∙ sym (promoted_weight test i.cache.entries);
      short = promoted_short test i.cache.entries h.short;
      few = h.few;
    })
