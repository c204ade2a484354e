-- Lines of a batch's script are answered, and the jobs run after them.
use Rattle.std.proofs.Common.{◌≢◌, List, Result, Ok, Err, IfErr, IfOk, ℕ, refl, inl, inr}
use Rattle.txc_app.specs.Eval.{Next}
use Rattle.txc_script.specs.Answers.{IsUnanswered}
use Rattle.txc_script.specs.LineFaults.{IsWrong}
use Rattle.txc_script.specs.Words.{words_of}
use Rattle.txc_script_lines.specs.Faults.{WordsUnanswered}
use Rattle.txc_script.specs.declared.unread.LineError.TheVariants as reasons
use Rattle.txc_work.specs.Batches.{job_numbers, NamesOneOf}
use Rattle.txc_work.specs.declared.error.BatchError.{BatchError}
use Rattle.txc_work.specs.declared.error.BatchError.TheVariants.{Missing, Twice, Memory}
use Rattle.txc_script_batch.specs.BatchFaults.{IsBatchFault}
use Rattle.txc_script_batch.specs.BatchScripts.{batch_script}
use Rattle.txc_script_batch.specs.BatchStates.{BatchState}
use Rattle.txc_script_batch.specs.Orders.{AsksFor}
use Rattle.txc_script_batch.specs.OrderEffects.{IsBrokenOff}
use Rattle.txc_script_batch.specs.JobResults.{EndsSo, HaveRun}
use Rattle.txc_script_batch.specs.BatchClients.{RanValue}
use Rattle.txc_script_batch.specs.declared.order.Order.{Order}
use Rattle.txc_script_batch.proofs.NothingWrong.{nothing_wrong}

-- a line that was not read left the state as it was
pub unread : (s : BatchState) (line : List ℕ) (reason : WordsUnanswered) → IsWrong (IsBatchFault s.jobs (words_of line)) reason → IsUnanswered batch_script s line s reason
unread s line (reasons.Wrong fault) h = ((λ order asks. nothing_wrong s.jobs line order fault asks h), refl, h)
unread s line reasons.Memory h = inl refl

-- what a line asks for broke off
pub broke : (s end : BatchState) (line : List ℕ) (order : Order) → AsksFor s.jobs line order → IsBrokenOff s order end → IsUnanswered batch_script s line end reasons.Memory
broke s end line order asks (inl same) = inr (inl same)
broke s end line order asks (inr (told, does)) = inr (inr (order, told, asks, does))

-- of the jobs there is a text, so it is not that memory was refused
pub ends_so : (next : Next) (s : BatchState) (batch : Result RanValue BatchError) → IfOk batch (HaveRun next s) → IfErr batch (NamesOneOf (job_numbers s.jobs)) → batch ≢ Err Memory → EndsSo next s batch
ends_so next s (Ok ran) run named other = run
ends_so next s (Err (Missing n)) run named other = named
ends_so next s (Err (Twice n)) run named other = named
ends_so next s (Err Memory) run named other = absurd (other refl)
