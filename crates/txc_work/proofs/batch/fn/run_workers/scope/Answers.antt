use denote.Param.{param}
use denote.Param.Send.{shr_send}
use denote.Struct.Field.{unit-field}
use Rattle.std.proofs.Common.{sym}
use Rattle.std.proofs.Crossing.{frees, send as heap_send, sync as heap_sync}
use Rattle.std.proofs.lemmas.List.Elements.{All-head, All-rest, All-same}
use Rattle.std.specs.contracts.alloc.Global as heap
use Rattle.std.specs.contracts.option.Option as Option
use Rattle.crossbeam_queue.proofs.array_queue.Slotted.TheSendSync as queue
use Rattle.crossbeam_queue.specs.contracts.array_queue.Doing as Doing
use Rattle.crossbeam_queue.specs.contracts.array_queue.Turns as Turns
use Rattle.crossbeam_queue.specs.contracts.array_queue.TurnsTableRuleOptionDoingUnit.TheImpl as turns
use Rattle.txc_db.proofs.Captured.{closure6_send}
use Rattle.txc_txn_client.proofs.Crosses.{client_send}
use Rattle.txc_work.specs.Workers.{IsWorkerOf}
use Rattle.txc_work.specs.contracts.job.Job as Job
use Rattle.txc_work.specs.contracts.job.Receipted as Receipted
use Rattle.txc_work.specs.contracts.queues.JobRule as JobRule
use Rattle.txc_work.specs.contracts.queues.JobRuleProtocolJobUnit.TheImpl as job_rule
use Rattle.txc_work.specs.contracts.queues.ResultRule as ResultRule
use Rattle.txc_work.specs.contracts.queues.ResultRuleProtocolReceiptedUnit.TheImpl as result_rule
use Rattle.txc_work.proofs.Crosses.{job_slot_send, result_slot_send, worker_send}
use Rattle.txc_work.proofs.batch.fn.run_workers.scope.Goals as goal

pub loop-worker-init : goal.loop-worker-init
loop-worker-init g c =
    All-same (IsWorkerOf c.captures.jobs.now c.captures.results.now g.B.Batch.functions) _ _ c.into_iter-worker-iterator.ensures.into_iter_gives.0 c.requires.workers

-- the closure borrows the runtime, the queues and the gate, and owns the allocator and a worker
pub spawn-requires-send-F : goal.spawn-requires-send-F
spawn-requires-send-F g c κs within =
    let B = param 0 g.row.B in
    let unit = (unit-field).row in
    closure6_send _ _ _ _ _ _ _ _ _ (shr_send _ _ _ c.requires.runtime) heap_send
    (shr_send _ _ _
    (queue.the_sync (Option.the_row Job.the_row) (Doing.the_row Job.the_row unit) (Turns.the_row (JobRule.the_row B)) heap.the_row
    (turns.ghosts Job.the_row unit (JobRule.the_row B) (job_rule.ghosts B g.B.Batch g.B.Batch-dict) g.B.Batch-dict) _ job_slot_send heap_send heap_sync frees))
    (shr_send _ _ _
    (queue.the_sync (Option.the_row Receipted.the_row) (Doing.the_row Receipted.the_row unit) (Turns.the_row (ResultRule.the_row B)) heap.the_row
    (turns.ghosts Receipted.the_row unit (ResultRule.the_row B) (result_rule.ghosts B g.B.Batch g.B.Batch-dict) g.B.Batch-dict) _ result_slot_send heap_send heap_sync frees))
    (shr_send _ _ _ c.requires.gate)
    (worker_send _ (client_send _ (param 1 g.row.A) (param 2 g.row.C) (param 3 g.row.J) g.A.App g.C.Cacheable g.J.Naming c.requires.functions))

pub spawn-requires-after_bounds : goal.spawn-requires-after_bounds
spawn-requires-after_bounds g c κs within =
    let of = IsWorkerOf c.captures.jobs.now c.captures.results.now g.B.Batch.functions in
    (All-head of _ _ (All-same of _ _ (sym c.in-Some.ensures.steps.0) c.loop-worker.invariant), c.requires.meets)

pub loop-worker-preserved-in-Some : goal.loop-worker-preserved-in-Some
loop-worker-preserved-in-Some g c =
    All-rest (IsWorkerOf c.captures.jobs.now c.captures.results.now g.B.Batch.functions) _ _ _ c.in-Some.ensures.steps.0 c.loop-worker.invariant

pub loop-worker-preserved : goal.loop-worker-preserved
loop-worker-preserved g c =
    All-rest (IsWorkerOf c.captures.jobs.now c.captures.results.now g.B.Batch.functions) _ _ _ c.in-Some.ensures.steps.0 c.loop-worker.invariant
