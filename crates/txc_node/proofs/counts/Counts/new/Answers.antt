use Rattle.std.proofs.Common.{refl, sym, subst, ap, arith}
use Rattle.txc_node.specs.declared.counts.FunctionCounts.{FunctionCounts}
use Rattle.txc_node.specs.CountBounds.{IsAtMost}
use Rattle.txc_node.specs.Counts.{none_counted}
use Rattle.txc_node.proofs.Counting.{constant, none_at_most}
use Rattle.txc_node.proofs.counts.Counts.new.Goals as goal

pub invariant_of-result : goal.invariant_of-result
invariant_of-result c = record {
  all = refl;
  each = λ f. subst (IsAtMost 0) (sym (constant 64 f none_counted)) (none_at_most 0);
  few = omega arith;
  closed = omega arith;
  swept = omega arith;
  trimmed = omega arith;
}

pub returns-clause-functions : goal.returns-clause-functions
returns-clause-functions c = λ f. constant 64 f none_counted

pub returns-clause-history : goal.returns-clause-history
returns-clause-history c = record {
  lookups = λ f. ap (λ (k : FunctionCounts). k.lookups) (constant 64 f none_counted);
  hits = λ f. ap (λ (k : FunctionCounts). k.hits) (constant 64 f none_counted);
  stored = λ f. ap (λ (k : FunctionCounts). k.stored) (constant 64 f none_counted);
  kept = λ f. ap (λ (k : FunctionCounts). k.kept) (constant 64 f none_counted);
  evicted = λ f. ap (λ (k : FunctionCounts). k.evicted) (constant 64 f none_counted);
  all = refl;
  events = refl;
  closed = refl;
  swept = refl;
  trimmed = refl;
}
