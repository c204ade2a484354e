use Rattle.txc_script_batch.proofs.running.run_over.Given as goal

-- those of the workers
abbrev pub ghost-by_clients : goal.ghost-by_clients
ghost-by_clients g a = g.functions
