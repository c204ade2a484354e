use Rattle.txc_work.specs.Batches.{Meets}
use Rattle.txc_work.proofs.batch.run_batch.Given as goal

abbrev pub ghosts-run_all : goal.ghosts-run_all
ghosts-run_all g a = record {
  jobs = a.jobs.items;
  functions = g.functions;
  meets = Meets g.A.App.next g.J.Naming.database_history g.J.Naming.node_histories g.functions;
}
