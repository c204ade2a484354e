use Rattle.std.proofs.Common.{◌≤◌, ℕ, List, length, ap, arith}
use Rattle.txc_node.specs.declared.value.TheConstants.{MOST_VALUE_LEN}
use Rattle.txc_node.specs.WeighedEntries.{value_len_in}
use Rattle.txc_node.proofs.Weights.{put_weight, put_short, weight_fits}
use Rattle.txc_node.proofs.weighed.WeighedEntries.push.Goals as goal

pub overflow_add-self : goal.overflow_add-self
overflow_add-self c =
    let i = c.self.inside in
    let h = c.self.invariant in
    let valid = c.len-len.ensures.valid in
    let all = weight_fits i.cache.entries h.short in
    let len = ap (λ (bs : List ℕ). length bs) c.bytes-more.ensures.answer in
    let was = h.sum in
    let few = h.few in
    let within = valid.1 in
    omega (arith, all, was, few, within, len, c.bytes-more.ensures.bound)

pub overflow_sub-self : goal.overflow_sub-self
overflow_sub-self c =
    let a = c.args in
    let i = c.self.inside in
    let valid = c.len-len.ensures.valid in
    let put = put_weight i.cache a.place a.stored valid.1 valid.2 in
    let old = ap value_len_in c.in-Ok.ensures.old in
    let len = ap (λ (bs : List ℕ). length bs) c.bytes-more.ensures.answer in
    let was = c.self.invariant.sum in
    omega (arith, put, old, was, len, c.value_len_in.ensures)

pub invariant_of-self-in-Ok : goal.invariant_of-self-in-Ok
invariant_of-self-in-Ok c =
    let a = c.args in
    let i = c.self.inside in
    let h = c.self.invariant in
    let valid = c.len-len.ensures.valid in
    let put = put_weight i.cache a.place a.stored valid.1 valid.2 in
    let old = ap value_len_in c.in-Ok.ensures.old in
    let len = ap (λ (bs : List ℕ). length bs) c.bytes-more.ensures.answer in
    let was = h.sum in
    let short : length a.stored.value ≤ MOST_VALUE_LEN = omega (arith, c.bytes-more.ensures.bound) in
    record {
      sum = rw c.in-Ok.ensures.entries (omega (arith, put, old, was, len, c.value_len_in.ensures));
      short = rw c.in-Ok.ensures.entries (put_short i.cache a.place a.stored short h.short);
      few = rw c.in-Ok.ensures.entries h.few;
    }
