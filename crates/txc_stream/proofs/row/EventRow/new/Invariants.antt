use Rattle.std.proofs.Common.{◌≡◌, vec_len, vec_capacity, length}
use Rattle.txc_stream.proofs.row.EventRow.new.Given as goal

abbrev pub invariant-loop : goal.invariant-loop
invariant-loop g l = (length l.cells.items ≡ l.counter) × (vec_len l.cells ≡ l.counter) × (vec_capacity l.cells ≡ l.capacity)
