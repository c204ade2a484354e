-- The texts of the outcomes of jobs.
use Rattle.std.specs.Prelude.{ℕ, Bool, true, false, List, [], ◌∷◌, ◌++◌, Result, Ok, Err, codes}
use Rattle.std.specs.Fmt.{decimal}
use Rattle.std.specs.List.{flat_map, list_any}
use Rattle.txc_node.specs.Texts.{hex_text}
use Rattle.txc_txn_ports.specs.Codes.{transaction_code}
use Rattle.txc_work.specs.declared.error.BatchError.{BatchError}
use Rattle.txc_work.specs.declared.error.BatchError.TheVariants.{Missing, Twice, Memory}
use Rattle.txc_work.specs.declared.job.Outcome.{Outcome}
use Rattle.txc_work.specs.declared.job.Outcome.TheVariants as outcomes
use Rattle.txc_work.specs.declared.job.Receipted.{Receipted}
use Rattle.txc_script_batch.specs.BatchClients.{RanValue}

-- the value of each call, in order; or the error of one
abbrev pub outcome_text : Outcome → List ℕ
outcome_text (outcomes.Receipt receipt) = flat_map (λ r. codes " " ++ hex_text r.value) receipt.answers.items
outcome_text (outcomes.Refused error) = codes " refused " ++ transaction_code error

-- the line of a job
abbrev pub result_text : Receipted → List ℕ
result_text told = codes "job " ++ (decimal told.number ++ (outcome_text told.outcome ++ 10 ∷ []))

-- the line of a batch that has no results; it is empty if there was no memory
abbrev pub batch_error_text : BatchError → List ℕ
batch_error_text (Missing number) = codes "refused J1 " ++ (decimal number ++ 10 ∷ [])
batch_error_text (Twice number) = codes "refused J2 " ++ (decimal number ++ 10 ∷ [])
batch_error_text Memory = []

-- the lines of the jobs; or that of the batch
abbrev pub batch_text : Result RanValue BatchError → List ℕ
batch_text (Ok ran) = flat_map result_text ran.results
batch_text (Err error) = batch_error_text error

-- a call of the job failed
abbrev pub is_refused_outcome : Outcome → Bool
is_refused_outcome (outcomes.Receipt receipt) = false
is_refused_outcome (outcomes.Refused error) = true

-- a job failed, or the batch
abbrev pub is_refused_batch : Result RanValue BatchError → Bool
is_refused_batch (Ok ran) = list_any (λ told. is_refused_outcome told.outcome) ran.results
is_refused_batch (Err error) = true
