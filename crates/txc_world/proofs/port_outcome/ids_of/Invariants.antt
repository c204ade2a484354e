use Rattle.std.proofs.Common.{◌≡◌, map, take}
use Rattle.txc_rows.specs.Values.{RowValue}
use Rattle.txc_world.proofs.port_outcome.ids_of.Given as goal

abbrev pub invariant-loop-row : goal.invariant-loop-row
invariant-loop-row l = l.ids.items ≡ map (λ (r : RowValue). r.id) (take l.row-index l.rows)
