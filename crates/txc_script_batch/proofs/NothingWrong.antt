-- Nothing is wrong with the words of a line of a batch's script that asks for something.
use Rattle.std.proofs.Common.{ℕ, List, subst, inl, inr, arith}
use Rattle.txc_script.specs.Words.{words_of}
use Rattle.txc_script_lines.specs.Faults.{WordsFault}
use Rattle.txc_script.proofs.Offered.{none_wrong}
use Rattle.txc_script_lines.proofs.Offered.{none_after}
use Rattle.txc_work.specs.declared.job.Job.{Job}
use Rattle.txc_script_batch.specs.BatchFaults.{IsBatchFault, IsJobFault, IsPreparingFault}
use Rattle.txc_script_batch.specs.Orders.{AreJobWords, AsksFor, job_kinds}
use Rattle.txc_script_batch.specs.QueuedJobs.{QueuedValue}
use Rattle.txc_script_batch.specs.declared.order.Order.{Order}
use Rattle.txc_script_batch.proofs.OrderWords.{job_asked, no_name, order_asked}

no_job_fault : (words : List (List ℕ)) (q : QueuedValue) (fault : WordsFault) → AreJobWords words q → IsJobFault words fault → ⊥
no_job_fault words q fault h (inl few) = omega (arith, h.some, few.0)
no_job_fault words q fault h (inr (some, wrong)) = none_wrong (job_kinds words) words fault h.values wrong h.say

pub nothing_wrong : (jobs : List Job) (line : List ℕ) (order : Order) (fault : WordsFault) → AsksFor jobs line order → IsBatchFault jobs (words_of line) fault → ⊥
nothing_wrong jobs line order fault h (inl (word, words, e, other, none, unknown)) = no_name jobs line word words order e other none h
nothing_wrong jobs line order fault h (inr (inl (words, e, wrong))) = let job = job_asked jobs line words order e h in no_job_fault words job.0 fault job.1 wrong
nothing_wrong jobs line order fault h (inr (inr (name, words, is, e, wrong))) =
    let asked = order_asked jobs line name words order is e h in
    none_after name words fault asked.1.values (subst (λ (js : List Job). IsPreparingFault js name words fault) asked.0 wrong) asked.1.say
