use Rattle.std.proofs.Common.{[], get_or}
use Rattle.txc_stream.specs.Names.{stored}
use Rattle.txc_script_batch.proofs.running.run_jobs.Given as goal

-- the row of the database as it stood, and those that were just made
abbrev pub ghosts-run_over : goal.ghosts-run_over
ghosts-run_over g a = record {
  database_history = a.batch.source.database.events;
  node_histories = λ n. stored (get_or a.rows.items n []);
}

-- those of the batch
abbrev pub ghost-run_over : goal.ghost-run_over
ghost-run_over g a = a.batch.functions
