-- The jobs of a script run after its lines, and what they gave is written.
use Rattle.std.proofs.Common.{◌≡◌, ◌||◌, ℕ, Bool, List, Option, Result, Ok, Err, length, sym, ap, subst, ◌∙◌, arith}
use Rattle.std.specs.Prelude.{IsErr, IsErrAnd}
use Rattle.std.proofs.lemmas.Bool.{false≢true}
use Rattle.std.proofs.lemmas.List.{take_all}
use Rattle.std.proofs.KnownBytes.{Appends-kept}
use Rattle.std.specs.Io.KnownBytes.{Appends, Keeps}
use Rattle.txc_app.specs.Eval.{Next}
use Rattle.txc_script.specs.Runs.{ScriptHasRun}
use Rattle.txc_script.specs.WriterPrefix.{AppendsPrefix}
use Rattle.txc_script.specs.declared.fault.RunFault.{RunFault}
use Rattle.txc_script.specs.declared.fault.RunFault.TheVariants.{Write}
use Rattle.txc_script_lines.specs.Faults.{WordsStatus}
use Rattle.txc_work.specs.declared.error.BatchError.{BatchError}
use Rattle.txc_script_batch.specs.BatchRuns.{status_of, EndsAfterLines, EndsInJobs, HasRunFrom}
use Rattle.txc_script_batch.specs.BatchScripts.{batch_script}
use Rattle.txc_script_batch.specs.BatchStates.{BatchState}
use Rattle.txc_script_batch.specs.OutcomeTexts.{batch_text, is_refused_batch}
use Rattle.txc_script_batch.specs.JobResults.{EndsSo}
use Rattle.txc_script_batch.specs.BatchClients.{RanValue}

-- it was written, and the writer flushed
pub jobs_written : (next : Next) (s : BatchState) (was_refused refused : Bool) (batch : Result RanValue BatchError) (old mid new : Option (List ℕ)) (text : List ℕ) (status : WordsStatus) → EndsSo next s batch
    → text ≡ batch_text batch → refused ≡ is_refused_batch batch → Appends old mid text → Keeps mid new → status ≡ status_of (was_refused || refused) → EndsInJobs next s was_refused old new (Ok status)
jobs_written next s was_refused refused batch old mid new text status ends text_is refused_is wrote keeps is = (
  batch,
  ends,
  Appends-kept old mid new (batch_text batch) (subst (Appends old mid) text_is wrote) keeps,
  is ∙ ap (λ (b : Bool). status_of (was_refused || b)) refused_is,
)

-- it was written, and then the writer failed
pub jobs_not_flushed : (next : Next) (s : BatchState) (was_refused : Bool) (batch : Result RanValue BatchError) (old mid new : Option (List ℕ)) (text : List ℕ) → EndsSo next s batch → text ≡ batch_text batch
    → Appends old mid text → Keeps mid new → EndsInJobs next s was_refused old new (Err Write)
jobs_not_flushed next s was_refused batch old mid new text ends text_is wrote keeps =
    let all = batch_text batch in
    let n : ℕ = length all in
    let wrote_all : Appends old new all = Appends-kept old mid new all (subst (Appends old mid) text_is wrote) keeps in
    (batch, ends, (n, omega arith, subst (Appends old new) (sym (take_all n all (omega arith))) wrote_all))

-- a prefix of it was written
pub jobs_cut : (next : Next) (s : BatchState) (was_refused : Bool) (batch : Result RanValue BatchError) (old new : Option (List ℕ)) (text : List ℕ) (fault : RunFault) (r : Result WordsStatus RunFault) → EndsSo next s batch
    → text ≡ batch_text batch → AppendsPrefix old new text → fault ≡ Write → IsErr r × IsErrAnd r (λ x. x ≡ fault) → EndsInJobs next s was_refused old new r
jobs_cut next s was_refused batch old new text fault (Ok status) ends text_is cut is h = absurd (false≢true h.0)
jobs_cut next s was_refused batch old new text fault (Err x) ends text_is cut is h =
    subst (λ (e : RunFault). EndsInJobs next s was_refused old new (Err e)) (sym (h.1 ∙ is)) (batch, ends, subst (AppendsPrefix old new) text_is cut)

-- the lines were run, and then what comes after them
pub run_ended : (next : Next) (start left : BatchState) (a b w x y : Option (List ℕ)) (ended result : Result WordsStatus RunFault) → ScriptHasRun batch_script start a b w x ended left
    → EndsAfterLines next left ended x y result → HasRunFrom next start a b w y result
run_ended next start left a b w x y ended result run after = (left, x, ended, run, after)
