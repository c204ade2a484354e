use Rattle.std.proofs.Common.{◌-◌, length, ap, arith}
use Rattle.txc_node.specs.WeighedEntries.{value_len_in}
use Rattle.txc_node.proofs.Weights.{taken_weight, taken_short}
use Rattle.txc_node.proofs.weighed.WeighedEntries.pop_last.Goals as goal

pub overflow_sub-self : goal.overflow_sub-self
overflow_sub-self c =
    let ps = c.self.inside.cache.entries in
    let last = ap value_len_in c.pop_lru-last.ensures.value in
    let all = taken_weight (length ps - 1) ps (omega arith) in
    let was = c.self.invariant.sum in
    omega (arith, last, all, was, c.value_len_in.ensures)

pub invariant_of-self : goal.invariant_of-self
invariant_of-self c =
    let ps = c.self.inside.cache.entries in
    let h = c.self.invariant in
    let last = ap value_len_in c.pop_lru-last.ensures.value in
    let all = taken_weight (length ps - 1) ps (omega arith) in
    let was = h.sum in
    record {
      sum = rw c.pop_lru-last.ensures.entries (omega (arith, last, all, was, c.value_len_in.ensures));
      short = rw c.pop_lru-last.ensures.entries (taken_short (length ps - 1) ps h.short);
      few = rw c.pop_lru-last.ensures.entries h.few;
    }
