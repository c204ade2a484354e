-- The counts of a function, and their text.
use Rattle.std.specs.Prelude.{ℕ, List, ◌++◌, codes}
use Rattle.std.specs.Fmt.{decimal}
use Rattle.std.specs.List.{sum_by}
use Rattle.txc_node.specs.declared.counts.FunctionCounts.{FunctionCounts}
use Rattle.txc_node.specs.declared.record.Record.{Record}
use Rattle.txc_node.specs.Counts.{step_counts}

-- the counts of a function in these steps
abbrev pub counts_in : List Record → ℕ → FunctionCounts
counts_in steps f = record {
  lookups = sum_by (λ s. (step_counts f s).lookups) steps;
  hits = sum_by (λ s. (step_counts f s).hits) steps;
  stored = sum_by (λ s. (step_counts f s).stored) steps;
  kept = sum_by (λ s. (step_counts f s).kept) steps;
  evicted = sum_by (λ s. (step_counts f s).evicted) steps;
}

-- the line of a function: its lookups, and its insertions
abbrev pub lookups_text : ℕ → FunctionCounts → List ℕ
lookups_text f c =
    codes "f" ++ (decimal f ++ (codes " lookups "
    ++ (decimal c.lookups ++ (codes " hits " ++ decimal c.hits))))

abbrev pub insertions_text : FunctionCounts → List ℕ
insertions_text c =
    codes " stored " ++ (decimal c.stored ++ (codes " kept " ++ (decimal c.kept ++ (codes " evicted "
    ++ decimal c.evicted))))

abbrev pub function_line : ℕ → FunctionCounts → List ℕ
function_line f c = lookups_text f c ++ insertions_text c
