-- Counts of a history, one step at a time.
use Rattle.std.proofs.Common.{◌≡◌, ℕ, ◌+◌, List, [], ◌∷◌, ◌++◌, sym, ap, ◌∙◌, arith, length-append}
use Rattle.std.proofs.lemmas.List.Sums.{sum_by_push}
use Rattle.txc_node.specs.declared.counts.FunctionCounts.{FunctionCounts}
use Rattle.txc_node.specs.declared.record.Record.{Record}
use Rattle.txc_node.specs.Counts.{Totals, counts_of, sum_of, events_by, closed_by, swept_by, trimmed_by, step_counts, AreCountsOf}

-- the counts of one step more
pub counted_more : (steps : List Record) (step : Record) (old new : Totals)
    → ((f : ℕ) → counts_of new.functions f ≡ sum_of (counts_of old.functions f) (step_counts f step))
    → new.replies ≡ old.replies + 1 → new.events ≡ old.events + events_by step.reply
    → new.closed ≡ old.closed + closed_by step.reply → new.swept ≡ old.swept + swept_by step.reply → new.trimmed ≡ old.trimmed + trimmed_by step.reply
    → AreCountsOf steps old → AreCountsOf (steps ++ step ∷ []) new
counted_more steps step old new functions replies events closed swept trimmed h = record {
  lookups = λ f. ap (λ (k : FunctionCounts). k.lookups) (functions f) ∙ ap (λ n. n + (step_counts f step).lookups) (h.lookups f) ∙ sym (sum_by_push (λ s. (step_counts f s).lookups) steps step);
  hits = λ f. ap (λ (k : FunctionCounts). k.hits) (functions f) ∙ ap (λ n. n + (step_counts f step).hits) (h.hits f) ∙ sym (sum_by_push (λ s. (step_counts f s).hits) steps step);
  stored = λ f. ap (λ (k : FunctionCounts). k.stored) (functions f) ∙ ap (λ n. n + (step_counts f step).stored) (h.stored f) ∙ sym (sum_by_push (λ s. (step_counts f s).stored) steps step);
  kept = λ f. ap (λ (k : FunctionCounts). k.kept) (functions f) ∙ ap (λ n. n + (step_counts f step).kept) (h.kept f) ∙ sym (sum_by_push (λ s. (step_counts f s).kept) steps step);
  evicted = λ f. ap (λ (k : FunctionCounts). k.evicted) (functions f) ∙ ap (λ n. n + (step_counts f step).evicted) (h.evicted f) ∙ sym (sum_by_push (λ s. (step_counts f s).evicted) steps step);
  all = omega (arith, replies, h.all, length-append steps (step ∷ []));
  events = events ∙ ap (λ n. n + events_by step.reply) h.events ∙ sym (sum_by_push (λ s. events_by s.reply) steps step);
  closed = closed ∙ ap (λ n. n + closed_by step.reply) h.closed ∙ sym (sum_by_push (λ s. closed_by s.reply) steps step);
  swept = swept ∙ ap (λ n. n + swept_by step.reply) h.swept ∙ sym (sum_by_push (λ s. swept_by s.reply) steps step);
  trimmed = trimmed ∙ ap (λ n. n + trimmed_by step.reply) h.trimmed ∙ sym (sum_by_push (λ s. trimmed_by s.reply) steps step);
}
