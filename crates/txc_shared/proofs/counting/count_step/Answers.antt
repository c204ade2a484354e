use Rattle.std.proofs.Common.{◌+◌, ap, ◌∙◌}
use Rattle.txc_node.specs.Counts.{counts_of, sum_of, counts_if, one_evicted}
use Rattle.txc_node.proofs.History.{counted_more}
use Rattle.txc_shared.proofs.counting.count_step.Goals as goal

pub returns : goal.returns
returns g c = λ steps step h of alike.
    let counts = c.count.ensures in
    let old = c.args.counts.now in
    counted_more steps step old c.count.new.self
    (λ f. counts.functions f ∙ (λ i. sum_of (counts_of old.functions f) (sum_of (counts_if (of i) f (alike.own i)) (counts_if (alike.dropped i) f one_evicted))))
    counts.replies (counts.events ∙ ap (λ n. old.events + n) alike.events) (counts.closed ∙ ap (λ n. old.closed + n) alike.closed)
    (counts.swept ∙ ap (λ n. old.swept + n) alike.swept) (counts.trimmed ∙ ap (λ n. old.trimmed + n) alike.trimmed) h
