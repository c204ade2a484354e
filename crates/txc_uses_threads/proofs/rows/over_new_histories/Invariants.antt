use Rattle.std.proofs.Common.{◌==◌, if◌then◌else◌}
use Rattle.txc_stream.specs.Names.{stored, unstored}
use Rattle.txc_uses_threads.proofs.rows.over_new_histories.Given as goal

-- the row that was just made, and the history of the pen that was
abbrev pub ghosts-over_histories : goal.ghosts-over_histories
ghosts-over_histories g a = record {
  database_history = a.core.events;
  node_histories = λ n. if n == 0 then stored a.row else unstored a.pen.number;
}
