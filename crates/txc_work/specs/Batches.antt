-- The results of a batch of jobs.
use Rattle.txc_stream.specs.Names.{Name}
use Rattle.std.specs.Prelude.{◌≡◌, ℕ, ◌≤◌, ◌==◌, ◌⊎◌, nat_le, List, ◌∷◌, ◌++◌, map, count_by, Contains, Err}
use Rattle.std.specs.List.{filter}
use Rattle.txc_tags.specs.Keys.{Call}
use Rattle.txc_app.specs.Eval.{Next}
use Rattle.txc_call_registry.specs.Objects.{numbers_of, AllIdle}
use Rattle.txc_txn_ports.specs.declared.bounds.Bounds.{Bounds}
use Rattle.txc_txn_ports.specs.declared.error.TxnError.{TxnError}
use Rattle.txc_txn_ports.specs.declared.error.TxnError.TheVariants as refusals
use Rattle.txc_txn_ports.specs.declared.recorded.Recorded.{Recorded}
use Rattle.txc_txn.specs.TxnCore.{Explains}
use Rattle.txc_txn.specs.RunningTxn.{IsTxn}
use Rattle.txc_txn.specs.declared.receipt.Receipt.{Receipt}
use Rattle.txc_txn_client.specs.Run.{HasRun}
use Rattle.txc_txn_client.specs.RoTxn.{RoTxnValue}
use Rattle.txc_work.specs.declared.error.BatchError.{BatchError}
use Rattle.txc_work.specs.declared.error.BatchError.TheVariants.{Missing, Twice, Memory}
use Rattle.txc_work.specs.declared.job.Job.{Job}
use Rattle.txc_work.specs.declared.job.Outcome.{Outcome}
use Rattle.txc_work.specs.declared.job.Outcome.TheVariants as outcomes
use Rattle.txc_work.specs.declared.job.Receipted.{Receipted}

-- ---- the relation of an outcome to its job

-- the keys of the answers, in order
abbrev pub keys_of : List Recorded → List Call
keys_of answers = map (λ r. r.key) answers

-- the receipt answers the job's keys, in order, and is explained in a history of the row by the job's bounds
pub record IsReceiptOfJob (next : Next) (row : Name) (job : Job) (receipt : Receipt) : Type 0 where
  pub keys : keys_of receipt.answers.items ≡ job.keys.items
  pub explained : Explains next receipt.seen.history job.bounds receipt.pin receipt.answers.items
  pub events : receipt.seen.events ≡ row

-- In a transaction with these bounds, whose pin set is correct and whose objects are those of these functions,
-- all idle, the keys before this one were completed. The call of this one ended with the error.
pub record IsRefusedAt (next : Next) (row : Name) (node_histories : ℕ → Name) (functions : List ℕ)
    (bounds : Bounds) (keys : List Call) (error : TxnError) : Type 0 where
  pub before : List Call
  pub key : Call
  pub after : List Call
  pub old : RoTxnValue
  pub new : RoTxnValue
  pub stands : keys ≡ before ++ key ∷ after
  pub valid : IsTxn next old.txn
  pub idle : AllIdle old.txn.objects
  pub of_functions : numbers_of old.txn.objects ≡ functions
  pub bounded : old.txn.core.bounds ≡ bounds
  pub answered : keys_of old.txn.core.recorded ≡ before
  pub run : HasRun next row node_histories old key new (Err error)

-- A receipt is the job's. An error is a failed allocation, or that of the first of the job's calls that failed,
-- in a transaction of these functions.
abbrev pub Meets : Next → Name → (ℕ → Name) → List ℕ → Job → Outcome → Type 0
Meets next row node_histories functions job (outcomes.Receipt receipt) = IsReceiptOfJob next row job receipt
Meets next row node_histories functions job (outcomes.Refused error) =
    (error ≡ refusals.Memory) ⊎ IsRefusedAt next row node_histories functions job.bounds job.keys.items error

-- the result has the number of a job of the batch, and an outcome that meets that job
abbrev pub IsResultOf : List Job → (Job → Outcome → Type 0) → Receipted → Type 0
IsResultOf jobs meets told =
    (job : Job) × Contains jobs job × (told.number ≡ job.number) × meets job told.outcome

-- ---- numbers

abbrev pub job_numbers : List Job → List ℕ
job_numbers jobs = map (λ (job : Job). job.number) jobs

abbrev pub result_numbers : List Receipted → List ℕ
result_numbers results = map (λ (told : Receipted). told.number) results

-- the number is at two places at least
abbrev pub StandsTwice : List ℕ → ℕ → Type 0
StandsTwice numbers n = 2 ≤ count_by (λ m. m == n) numbers

-- the numbers that occur twice
abbrev pub twice_in : List ℕ → List ℕ
twice_in numbers = filter (λ n. nat_le 2 (count_by (λ m. m == n) numbers)) numbers

-- the least of the numbers that occur twice
pub record IsLeastTwice (numbers : List ℕ) (n : ℕ) : Type 0 where
  pub twice : StandsTwice numbers n
  pub least : (m : ℕ) → StandsTwice numbers m → n ≤ m

-- the number that the error names is one of these
abbrev pub NamesOneOf : List ℕ → BatchError → Type 0
NamesOneOf numbers (Missing number) = Contains numbers number
NamesOneOf numbers (Twice number) = Contains numbers number
NamesOneOf numbers Memory = Unit {0}
