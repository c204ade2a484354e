use Rattle.std.proofs.Common.{List, ℕ, sym, ap, subst, arith, inl, inr, ◌∙◌}
use Rattle.txc_script.specs.LineFaults.{IsKindsFault, IsWrong, kinds_for}
use Rattle.txc_script.specs.ParsedWords.{SayAll}
use Rattle.txc_script.specs.Words.{words_left}
use Rattle.txc_script.specs.declared.line_fault.WordKind.{WordKind}
use Rattle.txc_script.specs.declared.line_fault.WordKind.TheVariants.{Key}
use Rattle.txc_script.proofs.Offered.{wrong_as}
use Rattle.txc_script_batch.specs.BatchFaults.{IsJobFault}
use Rattle.txc_script_batch.specs.declared.reading.TheConstants.{LEAST_WORDS}
use Rattle.txc_script.specs.declared.line_fault.CommandFault.TheVariants.{Own}
use Rattle.txc_script_lines.specs.declared.fault.OwnFault.TheVariants.{Few}
use Rattle.txc_script_batch.specs.Orders.{job_kinds, job_said}
use Rattle.txc_script_batch.proofs.JobFaults.{job_there}
use Rattle.txc_script_batch.proofs.reading.read_queued.Goals as goal

pub returns-then-count-lt-LEAST_WORDS-clause-refused : goal.returns-then-count-lt-LEAST_WORDS-clause-refused
returns-then-count-lt-LEAST_WORDS-clause-refused c = inl (omega (arith, c.requires, c.if-count-lt-LEAST_WORDS.true), ap (λ (n : ℕ). Own (Few LEAST_WORDS n)) (sym c.requires))

pub returns-in_err-said-clause-refused : goal.returns-in_err-said-clause-refused
returns-in_err-said-clause-refused c =
    let words = words_left c.args.words in
    let wrong = subst (λ (ks : List WordKind). IsWrong (IsKindsFault (kinds_for ks Key words) words) c.in_err-said.field-0.0) c.as_slice.ensures c.in_err-said.ensures.refused in
    wrong_as _ c.in_err-said.field-0.0 (IsKindsFault (job_kinds words) words) (IsJobFault words) c.from_residual.ensures wrong (λ fault h. inr (omega (arith, c.requires, c.if-count-lt-LEAST_WORDS.false), h))

pub unreachable-requires : goal.unreachable-requires
unreachable-requires c =
    let words = words_left c.args.words in
    let say = subst (λ (ks : List WordKind). SayAll (kinds_for ks Key words) words c.in_ok-said.said.items) c.as_slice.ensures c.in_ok-said.ensures.answer in
    job_there words c.in_ok-said.said.items (omega (arith, c.requires, c.if-count-lt-LEAST_WORDS.false)) say (ap job_said (sym c.as_slice-2.ensures.value) ∙ sym c.in_ok-job.ensures ∙ c.in-None.is)

pub returns-clause-answer : goal.returns-clause-answer
returns-clause-answer c =
    let words = words_left c.args.words in record {
      values = c.in_ok-said.said.items;
      some = omega (arith, c.requires, c.if-count-lt-LEAST_WORDS.false);
      say = subst (λ (ks : List WordKind). SayAll (kinds_for ks Key words) words c.in_ok-said.said.items) c.as_slice.ensures c.in_ok-said.ensures.answer;
      asks = ap job_said (sym c.as_slice-2.ensures.value) ∙ sym c.in_ok-job.ensures ∙ c.in-Some.is;
    }
