-- Counts of replies.
use Rattle.std.specs.Prelude.{ℕ, ◌+◌, List, Option, Some, None, ◌==◌, if◌then◌else◌, slice_index_or, ◌≡◌, length}
use Rattle.std.specs.List.{sum_by}
use Rattle.txc_node.specs.declared.counts.FunctionCounts.{FunctionCounts}
use Rattle.txc_node.specs.declared.entry.Entry.{Entry}
use Rattle.txc_node.specs.declared.node.Inserted.TheVariants.{Stored, Kept}
use Rattle.txc_node.specs.declared.record.Record.{Record}
use Rattle.txc_node.specs.declared.reply.Reply.{Reply}
use Rattle.txc_node.specs.declared.reply.Reply.TheVariants as replies
use Rattle.txc_node.specs.Steps.{function_of}

-- the counts of each function, by its number; the number of counted replies; and in all the events, the entries
-- that they closed, and those that sweeps and trims dropped
pub record Totals : Type 0 where
  pub functions : List FunctionCounts
  pub replies : ℕ
  pub events : ℕ
  pub closed : ℕ
  pub swept : ℕ
  pub trimmed : ℕ

abbrev pub none_counted : FunctionCounts
none_counted = record { lookups = 0; hits = 0; stored = 0; kept = 0; evicted = 0 }

-- the counts of a function
abbrev pub counts_of : List FunctionCounts → ℕ → FunctionCounts
counts_of functions f = slice_index_or functions f none_counted

abbrev pub one_evicted : FunctionCounts
one_evicted = record none_counted { evicted = 1 }

-- both counts together
abbrev pub sum_of : FunctionCounts → FunctionCounts → FunctionCounts
sum_of a b = record {
  lookups = a.lookups + b.lookups;
  hits = a.hits + b.hits;
  stored = a.stored + b.stored;
  kept = a.kept + b.kept;
  evicted = a.evicted + b.evicted;
}

-- these counts if the function is f, otherwise none
abbrev pub counts_if : Option ℕ → ℕ → FunctionCounts → FunctionCounts
counts_if None f counts = none_counted
counts_if (Some function) f counts = if function == f then counts else none_counted

-- the counts of a reply for the function whose call was looked up or inserted
abbrev pub own_counts : {H : Type 0} → Reply H → FunctionCounts
own_counts (replies.Inserted (Stored reach evicted)) = record none_counted { stored = 1 }
own_counts (replies.Inserted (Kept entry)) = record none_counted { kept = 1 }
own_counts (replies.Hit hit) = record none_counted { lookups = 1; hits = 1 }
own_counts replies.Miss = record none_counted { lookups = 1 }
own_counts _ = none_counted

-- the function of an entry, if there is one
abbrev pub entry_function : Option Entry → Option ℕ
entry_function None = None
entry_function (Some e) = Some e.key.function

-- the function of the entry that was dropped to make room, if one was
abbrev pub dropped_function : {H : Type 0} → Reply H → Option ℕ
dropped_function (replies.Inserted (Stored reach evicted)) = entry_function evicted
dropped_function _ = None

-- the counts of a reply, to a step of that function, for the function f: its own counts if f is that function,
-- and an eviction if f is the function of the entry that was dropped
abbrev pub counts_for : {H : Type 0} → ℕ → Option ℕ → Reply H → FunctionCounts
counts_for f function reply =
    sum_of (counts_if function f (own_counts reply)) (counts_if (dropped_function reply) f one_evicted)

-- the number of events that the reply answers, 0 or 1
abbrev pub events_by : {H : Type 0} → Reply H → ℕ
events_by (replies.Closed count) = 1
events_by _ = 0

-- the number of entries that an event closed
abbrev pub closed_by : {H : Type 0} → Reply H → ℕ
closed_by (replies.Closed count) = count
closed_by _ = 0

-- the number of entries that a sweep dropped
abbrev pub swept_by : {H : Type 0} → Reply H → ℕ
swept_by (replies.Swept count) = count
swept_by _ = 0

-- the number of entries that a trim dropped
abbrev pub trimmed_by : {H : Type 0} → Reply H → ℕ
trimmed_by (replies.Trimmed count) = count
trimmed_by _ = 0

-- ---- a history

-- the counts of a step of a history for the function f
abbrev pub step_counts : ℕ → Record → FunctionCounts
step_counts f step = counts_for f (function_of step.op) step.reply

-- the totals are the sums over the steps of a history
pub record AreCountsOf (steps : List Record) (t : Totals) : Type 0 where
  pub lookups : (f : ℕ) → (counts_of t.functions f).lookups ≡ sum_by (λ s. (step_counts f s).lookups) steps
  pub hits : (f : ℕ) → (counts_of t.functions f).hits ≡ sum_by (λ s. (step_counts f s).hits) steps
  pub stored : (f : ℕ) → (counts_of t.functions f).stored ≡ sum_by (λ s. (step_counts f s).stored) steps
  pub kept : (f : ℕ) → (counts_of t.functions f).kept ≡ sum_by (λ s. (step_counts f s).kept) steps
  pub evicted : (f : ℕ) → (counts_of t.functions f).evicted ≡ sum_by (λ s. (step_counts f s).evicted) steps
  pub all : t.replies ≡ length steps
  pub events : t.events ≡ sum_by (λ s. events_by s.reply) steps
  pub closed : t.closed ≡ sum_by (λ s. closed_by s.reply) steps
  pub swept : t.swept ≡ sum_by (λ s. swept_by s.reply) steps
  pub trimmed : t.trimmed ≡ sum_by (λ s. trimmed_by s.reply) steps
