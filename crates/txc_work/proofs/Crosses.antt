-- What may cross to another thread.
use denote.RattleType.{RattleType}
use denote.Param.Send.{IsSend, sendable}
use Rattle.std.proofs.Crossing.{crosses}
use Rattle.std.proofs.option.Option.TheSendSync as option
use Rattle.std.specs.contracts.option.Option as Option
use Rattle.txc_work.specs.contracts.job.Job as Job
use Rattle.txc_work.specs.contracts.job.Receipted as Receipted
use Rattle.txc_work.specs.contracts.worker.Worker as Worker
use Rattle.txc_work.proofs.job.Receipted.TheSendSync as receipted
use Rattle.txc_work.proofs.worker.Worker.TheSendSync as worker

job_send : IsSend Job.the_row
job_send = search (sendable, crosses) depth 20

-- what a slot of each queue holds
pub job_slot_send : IsSend (Option.the_row Job.the_row)
job_slot_send = option.the_send Job.the_row job_send

pub result_slot_send : IsSend (Option.the_row Receipted.the_row)
result_slot_send = option.the_send Receipted.the_row receipted.the_send

pub worker_send : (K : RattleType) → IsSend K → IsSend (Worker.the_row K)
worker_send K client = worker.the_send K client
