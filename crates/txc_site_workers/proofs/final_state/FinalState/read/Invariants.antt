use Rattle.std.proofs.Common.{[], get_or, map}
use Rattle.txc_stream.specs.Names.{stored}
use Rattle.txc_site_ledger.specs.Histories.{history_name}
use Rattle.txc_site_workers.proofs.final_state.FinalState.read.Given as goal

-- the database's row, and the histories that were just made
abbrev pub ghosts-read_last : goal.ghosts-read_last
ghosts-read_last g a = record {
  database_history = a.core.events;
  node_histories = λ n. get_or (map history_name a.histories.items) n (stored []);
}
