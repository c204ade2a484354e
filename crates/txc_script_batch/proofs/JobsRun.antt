-- Jobs that run over a database.
use Rattle.std.proofs.Common.{◌≡◌, ℕ, List, sym, subst}
use Rattle.std.specs.Prelude.{IsPermutation}
use Rattle.std.specs.List.{All}
use Rattle.std.specs.List.Sorted.{IsStrictlyIncreasing}
use Rattle.std.proofs.lemmas.List.Elements.{All-weaker}
use Rattle.txc_stream.specs.Names.{Name}
use Rattle.txc_db.specs.History.{History}
use Rattle.txc_app.specs.Eval.{Next}
use Rattle.txc_work.specs.Batches.{job_numbers, result_numbers, IsResultOf, Meets}
use Rattle.txc_work.specs.declared.job.Job.{Job}
use Rattle.txc_work.specs.declared.job.Outcome.{Outcome}
use Rattle.txc_work.specs.declared.job.Outcome.TheVariants as outcomes
use Rattle.txc_work.specs.declared.job.Receipted.{Receipted}
use Rattle.txc_script_batch.specs.BatchStates.{BatchState}
use Rattle.txc_script_batch.specs.Rows.{OutcomeIsOfRow}
use Rattle.txc_script_batch.specs.JobResults.{AgreesWith, HaveRun}
use Rattle.txc_script_batch.specs.BatchClients.{HaveRoomsBy, RanValue}

of_row : (next : Next) (row : Name) (node_histories : ℕ → Name) (functions : List ℕ) (job : Job) (outcome : Outcome) → Meets next row node_histories functions job outcome → OutcomeIsOfRow row outcome
of_row next row node_histories functions job (outcomes.Receipt receipt) h = h.events
of_row next row node_histories functions job (outcomes.Refused error) h = tt

-- what the results of jobs over a row show is a part of that row
pub all_of_row : (next : Next) (row shown : Name) (node_histories : ℕ → Name) (functions : List ℕ) (jobs : List Job) (results : List Receipted) → shown ≡ row
    → All (IsResultOf jobs (Meets next row node_histories functions)) results → All (λ told. OutcomeIsOfRow shown told.outcome) results
all_of_row next row shown node_histories functions jobs results same all =
    subst (λ (shown : Name). All (λ told. OutcomeIsOfRow shown told.outcome) results) (sym same)
    (All-weaker (IsResultOf jobs (Meets next row node_histories functions)) (λ told. OutcomeIsOfRow row told.outcome) (λ told h. of_row next row node_histories functions h.0 told.outcome h.3) results all)

-- the jobs ran over the database, whose row was the named one
pub have_run : (next : Next) (s : BatchState) (ran : RanValue) (row : Name) (node_histories : ℕ → Name) (functions : List ℕ) (history : History) → s.source.database.events ≡ row → s.functions ≡ functions
    → HaveRoomsBy s.settings node_histories → ran.settings ≡ s.settings → IsPermutation (job_numbers s.jobs) (result_numbers ran.results) → IsStrictlyIncreasing (result_numbers ran.results)
    → All (IsResultOf s.jobs (Meets next row node_histories functions)) ran.results → history ≡ s.source.database.history → All (λ told. AgreesWith history told.outcome) ran.results → HaveRun next s ran
have_run next s ran row node_histories functions history named of rooms settings once in_order met same agree = record {
  node_histories = node_histories;
  rooms = rooms;
  settings = settings;
  once = once;
  in_order = in_order;
  met = subst (λ (fs : List ℕ). All (IsResultOf s.jobs (Meets next s.source.database.events node_histories fs)) ran.results) (sym of)
      (subst (λ (r : Name). All (IsResultOf s.jobs (Meets next r node_histories functions)) ran.results) (sym named) met);
  agree = subst (λ (L : History). All (λ told. AgreesWith L told.outcome) ran.results) same agree;
}
