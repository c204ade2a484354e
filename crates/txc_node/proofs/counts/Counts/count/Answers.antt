use Rattle.std.proofs.Common.{ℕ, Option, ◌∙◌, ap, arith}
use Rattle.txc_node.specs.declared.counts.FunctionCounts.{FunctionCounts}
use Rattle.txc_node.specs.Counts.{one_evicted, counts_of, sum_of, counts_if}
use Rattle.txc_node.proofs.Counting.{one_more}
use Rattle.txc_node.proofs.counts.Counts.count.Goals as goal

pub invariant_of-self : goal.invariant_of-self
invariant_of-self g c =
    let old = c.self.inside.functions in
    let mid = c.add_to.new.functions in
    record {
      all = c.add_to-2.ensures.len ∙ (c.add_to.ensures.len ∙ c.self.invariant.all);
      each = λ f. one_more c.self.inside.replies old mid c.add_to-2.new.functions c.args.function c.args.reply.now f (c.self.invariant.each f)
          (c.add_to.ensures.counts f ∙ ap (λ (k : FunctionCounts). sum_of (counts_of old f) (counts_if c.args.function f k)) c.own_counts.ensures)
          (c.add_to-2.ensures.counts f ∙ ap (λ (d : Option ℕ). sum_of (counts_of mid f) (counts_if d f one_evicted)) c.dropped_function.ensures.value);
      few = omega arith;
      closed = omega arith;
      swept = omega arith;
      trimmed = omega arith;
    }
