use Rattle.std.proofs.Common.{List, refl, ap, subst, arith}
use Rattle.txc_work.specs.declared.job.Job.{Job}
use Rattle.txc_script_batch.specs.BatchScripts.{Queues}
use Rattle.txc_script_batch.specs.QueuedJobs.{QueuedValue}
use Rattle.txc_script_batch.specs.WorkerFunctions.{numbers_in}
use Rattle.txc_script_batch.specs.BatchStates.{BatchState}
use Rattle.txc_script_batch.proofs.batch.Batch.queue.Goals as goal

pub returns-clause-after : goal.returns-clause-after
returns-clause-after g c =
    let s : BatchState = record { settings = c.self.inside.settings; source = c.self.inside.source; functions = numbers_in c.self.inside.crew.items; jobs = c.self.inside.jobs.items } in
    let inside = c.queued.inside in
    let q : QueuedValue = record { now = inside.now; staleness = inside.staleness; keys = inside.keys.items } in
    let job : Job = record { number = c.in-Ok.number; bounds = record { now = inside.now; staleness = inside.staleness; at_least = 0 }; keys = inside.keys } in
    let end : BatchState = record s { jobs = c.push.new.self.items } in
    let queued : Queues q s end = record {
      job = job;
      is = record {
        number_is = omega (arith, c.in-Ok.ensures, c.len.ensures, c.self.inside.jobs.ok.0);
        now = refl;
        staleness = refl;
        at_least = refl;
        keys = refl;
      };
      after = ap (λ (js : List Job). let x : BatchState = record s { jobs = js } in x) c.in_ok-push.ensures.items;
    } in
    subst (λ (x : BatchState). Queues c.args.queued x end) c.self.view_is (subst (λ (p : QueuedValue). Queues p s end) c.queued.view_is queued)
