use Rattle.std.proofs.Common.{◌≡◌, All, length, vec_len}
use Rattle.txc_script_batch.proofs.running.node_rows.Given as goal

abbrev pub invariant-loop : goal.invariant-loop
invariant-loop l = (vec_len l.rows ≡ l.counter) × All (λ row. length row ≡ l.room) l.rows.items
