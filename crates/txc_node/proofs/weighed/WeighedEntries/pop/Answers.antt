use Rattle.std.proofs.Common.{◌≡◌, ℕ, List, length, sym, ap, subst, ◌∙◌, arith}
use Rattle.std.specs.Map.{lookup}
use Rattle.lru.specs.LruCache.{LruCache}
use Rattle.txc_node.specs.declared.place.Place.{Place}
use Rattle.txc_node.specs.declared.stored.Stored.{Stored}
use Rattle.txc_node.specs.Places.{equal_places}
use Rattle.txc_node.specs.WeighedEntries.{IsWeighed}
use Rattle.txc_node.proofs.Weights.{stored_bytes, removed_weight, removed_short}
use Rattle.txc_node.proofs.weighed.WeighedEntries.pop.Goals as goal

pub invariant_of-self : goal.invariant_of-self
invariant_of-self c =
    let i = c.self.inside in
    let h = c.self.invariant in
    let test = equal_places c.args.place.now in
    let none : stored_bytes (lookup test i.cache.entries) ≡ 0 = ap stored_bytes (sym c.pop.ensures.value ∙ c.in-None.is) in
    let all = removed_weight test i.cache.entries in
    let was = h.sum in
    subst (λ (m : LruCache Place Stored). IsWeighed m i.bytes) (sym c.pop.ensures.entries) (record {
      sum = omega (arith, none, all, was);
      short = removed_short test i.cache.entries h.short;
      few = h.few;
    })

pub overflow_sub-self : goal.overflow_sub-self
overflow_sub-self c =
    let i = c.self.inside in
    let test = equal_places c.args.place.now in
    let len = ap (λ (bs : List ℕ). length bs) c.bytes.ensures.answer in
    let some = ap stored_bytes (sym c.pop.ensures.value ∙ c.in-Some.is) in
    let all = removed_weight test i.cache.entries in
    let was = c.self.invariant.sum in
    omega (arith, some, all, was, len)

pub invariant_of-self-in-Some : goal.invariant_of-self-in-Some
invariant_of-self-in-Some c =
    let i = c.self.inside in
    let h = c.self.invariant in
    let test = equal_places c.args.place.now in
    let len = ap (λ (bs : List ℕ). length bs) c.bytes.ensures.answer in
    let some = ap stored_bytes (sym c.pop.ensures.value ∙ c.in-Some.is) in
    let all = removed_weight test i.cache.entries in
    let was = h.sum in
    record {
      sum = rw c.pop.ensures.entries (omega (arith, some, all, was, len));
      short = rw c.pop.ensures.entries (removed_short test i.cache.entries h.short);
      few = rw c.pop.ensures.entries h.few;
    }
