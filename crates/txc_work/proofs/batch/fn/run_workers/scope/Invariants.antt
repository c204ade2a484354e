use Rattle.std.proofs.Common.{All}
use Rattle.txc_work.specs.Workers.{IsWorkerOf}
use Rattle.txc_work.proofs.batch.fn.run_workers.scope.Given as goal

abbrev pub invariant-loop-worker : goal.invariant-loop-worker
invariant-loop-worker g l = All (IsWorkerOf l.jobs.now l.results.now g.B.Batch.functions) l.worker-iterator.rest.items
