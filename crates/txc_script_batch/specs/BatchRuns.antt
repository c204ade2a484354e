-- The effect of a run of a batch's script.
use Rattle.std.specs.Prelude.{◌≡◌, ◌⊎◌, ◌||◌, ℕ, Bool, true, false, List, Option, Result, Ok, Err}
use Rattle.std.specs.Io.KnownBytes.{Appends, Keeps}
use Rattle.txc_script_settings.specs.declared.settings.Settings.{Settings}
use Rattle.txc_app.specs.Eval.{Next}
use Rattle.txc_script.specs.Runs.{ScriptHasRun}
use Rattle.txc_script.specs.WriterPrefix.{AppendsPrefix}
use Rattle.txc_script.specs.declared.fault.RunFault.{RunFault}
use Rattle.txc_script.specs.declared.fault.RunFault.TheVariants.{Read, Write, Memory}
use Rattle.txc_script_lines.specs.Faults.{WordsStatus}
use Rattle.txc_script.specs.declared.fault.Status.TheVariants.{Done, Refused, Malformed}
use Rattle.txc_work.specs.declared.error.BatchError.{BatchError}
use Rattle.txc_script_batch.specs.BatchScripts.{batch_script}
use Rattle.txc_script_batch.specs.BatchStates.{new_batch, BatchState}
use Rattle.txc_script_batch.specs.OutcomeTexts.{batch_text, is_refused_batch}
use Rattle.txc_script_batch.specs.JobResults.{EndsSo}
use Rattle.txc_script_batch.specs.PlainDatabase.{IsNewSource, SourceValue}
use Rattle.txc_script_batch.specs.BatchClients.{RanValue}

-- the status of a run without a malformed line, by whether a refusal was written
abbrev pub status_of : Bool → WordsStatus
status_of true = Refused
status_of false = Done

-- Exactly the jobs that the lines requested ran, over the database that the lines left, and their results were
-- written. The status shows whether a refusal was written, of a line, of a job or of the batch. After a fault
-- of the writer a prefix of that text was written; without memory, nothing.
abbrev pub EndsInJobs : Next → BatchState → Bool → Option (List ℕ) → Option (List ℕ) → Result WordsStatus RunFault
    → Type 0
EndsInJobs next s is_refused contents_old contents_new (Ok status) =
    (batch : Result RanValue BatchError) × EndsSo next s batch
    × Appends contents_old contents_new (batch_text batch)
    × (status ≡ status_of (is_refused || is_refused_batch batch))
EndsInJobs next s is_refused contents_old contents_new (Err Read) = ⊥
EndsInJobs next s is_refused contents_old contents_new (Err Write) =
    (batch : Result RanValue BatchError) × EndsSo next s batch
    × AppendsPrefix contents_old contents_new (batch_text batch)
EndsInJobs next s is_refused contents_old contents_new (Err Memory) = Keeps contents_old contents_new

-- the end of a run whose lines ended so, and left this state: with the jobs, if all lines were answered and
-- none was malformed; else in the same way, and nothing more is written
abbrev pub EndsAfterLines : Next → BatchState → Result WordsStatus RunFault → Option (List ℕ) → Option (List ℕ)
    → Result WordsStatus RunFault → Type 0
EndsAfterLines next s (Ok Done) contents_old contents_new result =
    EndsInJobs next s false contents_old contents_new result
EndsAfterLines next s (Ok Refused) contents_old contents_new result =
    EndsInJobs next s true contents_old contents_new result
EndsAfterLines next s (Ok (Malformed line)) contents_old contents_new result =
    Keeps contents_old contents_new × (result ≡ Ok (Malformed line))
EndsAfterLines next s (Err fault) contents_old contents_new result =
    Keeps contents_old contents_new × (result ≡ Err fault)

-- there was no memory to begin the run, and nothing was read or written
abbrev pub HasNotBegun : Option (List ℕ) → Option (List ℕ) → Option (List ℕ) → Option (List ℕ)
    → Result WordsStatus RunFault → Type 0
HasNotBegun remaining_old remaining_new contents_old contents_new result =
    (remaining_new ≡ remaining_old) × Keeps contents_old contents_new × (result ≡ Err Memory)

-- a run that begins with this batch: its lines were run as those of any script, and then came what comes after
-- them
abbrev pub HasRunFrom : Next → BatchState → Option (List ℕ) → Option (List ℕ) → Option (List ℕ) → Option (List ℕ)
    → Result WordsStatus RunFault → Type 0
HasRunFrom next s remaining_old remaining_new contents_old contents_new result =
    (left : BatchState) × (contents : Option (List ℕ)) × (lines_ended : Result WordsStatus RunFault)
    × ScriptHasRun batch_script s remaining_old remaining_new contents_old contents lines_ended left
    × EndsAfterLines next left lines_ended contents contents_new result

-- A run of a batch's script by these settings: it begins with a new database of them, and functions of these
-- numbers; or it did not begin.
abbrev pub HasRunBatch : Next → Settings → List ℕ → Option (List ℕ) → Option (List ℕ) → Option (List ℕ)
    → Option (List ℕ) → Result WordsStatus RunFault → Type 0
HasRunBatch next settings functions remaining_old remaining_new contents_old contents_new result =
    HasNotBegun remaining_old remaining_new contents_old contents_new result
    ⊎ ((source : SourceValue) × IsNewSource settings.row_cap source
    × HasRunFrom next (new_batch settings source functions) remaining_old remaining_new contents_old contents_new result)
