use Rattle.std.proofs.Common.{[], get_or, map}
use Rattle.txc_stream.specs.Names.{stored}
use Rattle.txc_site_ledger.specs.Histories.{history_name}
use Rattle.txc_site_workers.proofs.histories.over_new_histories.Given as goal

-- the database's row, and the histories that were just made
abbrev pub ghosts-over_histories : goal.ghosts-over_histories
ghosts-over_histories g a = record {
  database_history = a.core.events;
  node_histories = λ n. get_or (map history_name a.histories.items) n (stored []);
}
