use Rattle.std.proofs.lemmas.List.Elements.{All-contains_itself}
use Rattle.txc_work.specs.Batches.{Meets}
use Rattle.txc_work.proofs.Answered.{of_same_batch}
use Rattle.txc_work.proofs.batch.run_all.Goals as goal

pub put_jobs-requires-clause-of_batch : goal.put_jobs-requires-clause-of_batch
put_jobs-requires-clause-of_batch g c = rw c.requires.jobs (All-contains_itself c.args.jobs.items)

pub returns : goal.returns
returns g c =
    of_same_batch _ _ g.B.Batch.meets (Meets g.A.App.next g.J.Naming.database_history g.J.Naming.node_histories g.B.Batch.functions) c.requires.jobs
    c.requires.taken _ c.take_results.ensures.of_batch
