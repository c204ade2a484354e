-- The results of jobs over a database and its pincushion.
use Rattle.std.specs.Prelude.{◌≡◌, ◌⊎◌, ℕ, List, All, Contains, IsPermutation, Result, Ok, Err}
use Rattle.std.specs.List.Sorted.{IsStrictlyIncreasing}
use mathlib.Core.List.{IsPrefix}
use Rattle.txc_stream.specs.Names.{Name}
use Rattle.txc_db.specs.History.{History}
use Rattle.txc_app.specs.Eval.{Next}
use Rattle.txc_work.specs.Batches.{job_numbers, result_numbers, IsResultOf, Meets}
use Rattle.txc_work.specs.declared.error.BatchError.{BatchError}
use Rattle.txc_work.specs.declared.error.BatchError.TheVariants.{Missing, Twice, Memory}
use Rattle.txc_work.specs.declared.job.Outcome.{Outcome}
use Rattle.txc_work.specs.declared.job.Outcome.TheVariants as outcomes
use Rattle.txc_script_batch.specs.BatchStates.{BatchState}
use Rattle.txc_script_batch.specs.BatchClients.{HaveRoomsBy, RanValue}

-- the history of a receipt and this history agree: one of them is a prefix of the other
abbrev pub AgreesWith : History → Outcome → Type 0
AgreesWith L (outcomes.Receipt receipt) = IsPrefix L receipt.seen.history ⊎ IsPrefix receipt.seen.history L
AgreesWith L (outcomes.Refused error) = Unit {0}

-- Each job ran once over the database as the lines left it, by the settings, and has its result, in the order
-- of the jobs' numbers. The result is a receipt, which answers the job's keys and is explained by its bounds,
-- or the error of one of its calls. The history of a receipt extends the database's, or is a prefix of it.
pub record HaveRun (next : Next) (s : BatchState) (ran : RanValue) : Type 0 where
  pub node_histories : ℕ → Name
  pub rooms : HaveRoomsBy s.settings node_histories
  pub settings : ran.settings ≡ s.settings
  pub once : IsPermutation (job_numbers s.jobs) (result_numbers ran.results)
  pub in_order : IsStrictlyIncreasing (result_numbers ran.results)
  pub met : All (IsResultOf s.jobs (Meets next s.source.database.events node_histories s.functions)) ran.results
  pub agree : All (λ told. AgreesWith s.source.database.history told.outcome) ran.results

-- the jobs ran, and have results; or one of them has none, or two; that there was no memory is not among these
abbrev pub EndsSo : Next → BatchState → Result RanValue BatchError → Type 0
EndsSo next s (Ok ran) = HaveRun next s ran
EndsSo next s (Err (Missing number)) = Contains (job_numbers s.jobs) number
EndsSo next s (Err (Twice number)) = Contains (job_numbers s.jobs) number
EndsSo next s (Err Memory) = ⊥
