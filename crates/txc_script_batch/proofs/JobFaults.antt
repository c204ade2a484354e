-- Words that are a job, and what is wrong with the place of a line.
use Rattle.std.proofs.Common.{◌≡◌, ℕ, ◌≤◌, List, [], ◌∷◌, None, length, refl, sym, ap, ◌∙◌, arith}
use Rattle.txc_script.specs.LineFaults.{kinds_for}
use Rattle.txc_script.specs.ParsedWords.{SayAll}
use Rattle.txc_script.specs.declared.line_fault.WordKind.TheVariants.{Key}
use Rattle.txc_script.specs.declared.parsed_word.ParsedWord.{ParsedWord}
use Rattle.txc_script.proofs.Offered.{said_of}
use Rattle.txc_script_lines.specs.declared.name.LineName.{LineName}
use Rattle.txc_script_lines.specs.Faults.{WordsFault, moment}
use Rattle.txc_script_lines.proofs.Offered.{none_some}
use Rattle.txc_work.specs.declared.job.Job.{Job}
use Rattle.txc_script_batch.specs.BatchFaults.{IsMisplaced, IsPreparingFault}
use Rattle.txc_script_batch.specs.Orders.{job_kinds, job_said}

-- words that say something by the kinds of a job are one
pub job_there : (words : List (List ℕ)) (values : List ParsedWord) → 2 ≤ length words → SayAll (job_kinds words) words values → job_said values ≡ None → ⊥
job_there [] values some h none = absurd (omega arith)
job_there (a ∷ []) values some h none = absurd (omega arith)
job_there (a ∷ b ∷ words) values some h none =
    let by = said_of (moment ∷ moment ∷ kinds_for [] Key words) (a ∷ b ∷ words) values h in
    none_some _ (ap job_said (sym by.2) ∙ none)

-- a change or a pin after a job stands in the wrong place
pub after_some : (jobs : List Job) (name : LineName) (words : List (List ℕ)) (fault : WordsFault) → (jobs ≡ [] → ⊥) → IsMisplaced fault → IsPreparingFault jobs name words fault
after_some [] name words fault some h = absurd (some refl)
after_some (job ∷ jobs) name words fault some h = h
