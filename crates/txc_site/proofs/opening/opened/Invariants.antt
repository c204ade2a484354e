use Rattle.std.proofs.Common.{[]}
use Rattle.txc_stream.specs.Names.{stored}
use Rattle.txc_site.proofs.opening.opened.Given as goal

-- the database's row; there is no node yet
abbrev pub ghosts-open : goal.ghosts-open
ghosts-open g a = record {
  database_history = a.core.events;
  node_histories = λ n. stored [];
}
