-- Scripts of a batch: the requests of their lines, and the results.
use Rattle.std.specs.Prelude.{◌≡◌, ◌⊎◌, ℕ, Bool, false, List, [], ◌∷◌, ◌++◌, Option, Some, None, Result, length}
use Rattle.txc_script.specs.Kinds.{ScriptKind, no_closing}
use Rattle.txc_script_lines.specs.declared.fault.OwnFault.{OwnFault}
use Rattle.txc_work.specs.declared.job.Job.{Job}
use Rattle.txc_script_batch.specs.BatchFaults.{IsBatchFault}
use Rattle.txc_script_batch.specs.BatchStates.{BatchState}
use Rattle.txc_script_batch.specs.Orders.{AsksFor}
use Rattle.txc_script_batch.specs.PreparedTexts.{prepared_text, is_refused_preparing}
use Rattle.txc_script_batch.specs.QueuedJobs.{QueuedValue, IsJobOf}
use Rattle.txc_script_batch.specs.PlainDatabase.{MakesPin, MakesChange, SourceValue}
use Rattle.txc_script_batch.specs.declared.order.Order.{Order}
use Rattle.txc_script_batch.specs.declared.order.Order.TheVariants.{Write, Pin, Run}
use Rattle.txc_script_batch.specs.declared.prepared.PrepareError.{PrepareError}

-- the source of the jobs took this transition, and all else is unchanged
abbrev pub SourceTransition : (SourceValue → SourceValue → Type 0) → BatchState → BatchState → Type 0
SourceTransition transition s end = (source : SourceValue) × transition s.source source × (end ≡ record s { source = source })

-- the job is added as the last, and its number is its place among them
pub record Queues (q : QueuedValue) (s end : BatchState) : Type 0 where
  pub job : Job
  pub is : IsJobOf (length s.jobs) q job
  pub after : end ≡ record s { jobs = s.jobs ++ job ∷ [] }

-- a change or a pin was made, or failed, and has its reply; a job was queued, and has no reply yet
abbrev pub DoesOrder : BatchState → Order → Option (Result ℕ PrepareError) → BatchState → Type 0
DoesOrder s (Write change) None end = ⊥
DoesOrder s (Write change) (Some told) end = SourceTransition (λ old new. MakesChange change old told new) s end
DoesOrder s (Pin now) None end = ⊥
DoesOrder s (Pin now) (Some told) end = SourceTransition (λ old new. MakesPin now old told new) s end
DoesOrder s (Run q) reply end = (reply ≡ None) × Queues q s end

-- no part of a line's request was done, or it is a change or a pin, and was made or failed
abbrev pub BreaksOffOrder : BatchState → List ℕ → BatchState → Type 0
BreaksOffOrder s line end =
    (end ≡ s)
    ⊎ ((order : Order) × (told : Result ℕ PrepareError) × AsksFor s.jobs line order × DoesOrder s order (Some told) end)

-- the text of a line: none for a job
abbrev pub order_text : Option (Result ℕ PrepareError) → List ℕ
order_text None = []
order_text (Some told) = prepared_text told ++ 10 ∷ []

abbrev pub is_refused_order : Option (Result ℕ PrepareError) → Bool
is_refused_order None = false
is_refused_order (Some told) = is_refused_preparing told

-- The lines of a batch's script: changes and pins, and then jobs. No line runs a job.
abbrev pub batch_script : ScriptKind BatchState Order (Option (Result ℕ PrepareError)) OwnFault
batch_script = record {
  asks = λ s. AsksFor s.jobs;
  does = DoesOrder;
  breaks_off = BreaksOffOrder;
  text = order_text;
  is_refused = is_refused_order;
  is_wrong = λ s. IsBatchFault s.jobs;
  closes = λ s given closing end. (closing ≡ no_closing) × (end ≡ s);
  breaks_at_end = λ s end. ⊥;
}
