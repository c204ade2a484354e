-- What totals say of one function.
use Rattle.std.proofs.Common.{◌≡◌, ℕ, List, ap, ◌∙◌}
use Rattle.txc_node.specs.declared.counts.FunctionCounts.{FunctionCounts}
use Rattle.txc_node.specs.declared.record.Record.{Record}
use Rattle.txc_node.specs.Counts.{Totals, AreCountsOf, counts_of}
use Rattle.txc_script.specs.FunctionLines.{counts_in}

same_counts : (a b : FunctionCounts) → a.lookups ≡ b.lookups → a.hits ≡ b.hits → a.stored ≡ b.stored → a.kept ≡ b.kept → a.evicted ≡ b.evicted → a ≡ b
same_counts a b lookups hits stored kept evicted =
    ap (λ n. record a { lookups = n }) lookups ∙ ap (λ n. record a { lookups = b.lookups; hits = n }) hits ∙ ap (λ n. record a { lookups = b.lookups; hits = b.hits; stored = n }) stored
    ∙ ap (λ n. record a { lookups = b.lookups; hits = b.hits; stored = b.stored; kept = n }) kept
    ∙ ap (λ n. record a { lookups = b.lookups; hits = b.hits; stored = b.stored; kept = b.kept; evicted = n }) evicted

-- the totals of steps have for a function what the steps count for it
pub counted_in : (steps : List Record) (t : Totals) → AreCountsOf steps t → (f : ℕ) → counts_of t.functions f ≡ counts_in steps f
counted_in steps t c f = same_counts _ _ (c.lookups f) (c.hits f) (c.stored f) (c.kept f) (c.evicted f)
