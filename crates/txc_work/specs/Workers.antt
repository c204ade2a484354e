-- The relation of workers to the queues that they share.
use Rattle.std.specs.Prelude.{◌≡◌, ℕ, List, Option}
use Rattle.crossbeam_queue.specs.Passes.{IsPassOf}
use Rattle.crossbeam_queue.specs.declared.array_queue.Doing.{Doing}
use Rattle.crossbeam_queue.specs.declared.array_queue.Slotted.{Slotted}
use Rattle.txc_call_registry.specs.Objects.{numbers_of}
use Rattle.txc_txn_client.specs.RoTxn.{ClientValue}
use Rattle.txc_work.specs.declared.job.Job.{Job}
use Rattle.txc_work.specs.declared.job.Outcome.{Outcome}
use Rattle.txc_work.specs.declared.job.Receipted.{Receipted}
use Rattle.txc_work.specs.declared.worker.Worker.{Worker}

-- the worker has a pass of each queue, and its client has these functions
abbrev pub IsWorkerOf : {P Q A : Type 0} → Slotted (Option Job) (Doing Job (Unit {0})) P A
    → Slotted (Option Receipted) (Doing Receipted (Unit {0})) Q A → List ℕ → Worker ClientValue → Type 0
IsWorkerOf jobs results functions w =
    IsPassOf jobs w.jobs × IsPassOf results w.results × (numbers_of w.client.objects ≡ functions)

-- the one relation of outcomes implies the other
abbrev pub Implies : (Job → Outcome → Type 0) → (Job → Outcome → Type 0) → Type 0
Implies says also = (job : Job) (outcome : Outcome) → says job outcome → also job outcome
