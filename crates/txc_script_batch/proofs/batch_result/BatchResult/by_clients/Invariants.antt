use Rattle.txc_script_batch.proofs.batch_result.BatchResult.by_clients.Given as goal

-- those of the clients
abbrev pub ghost-run_batch : goal.ghost-run_batch
ghost-run_batch g a = g.functions
