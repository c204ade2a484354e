use Rattle.std.proofs.Common.{◌≡◌, map}
use Rattle.txc_rows.specs.declared.query.Change.TheVariants.{Put}
use Rattle.txc_db_carry.proofs.carrying.puts_of.Given as goal

abbrev pub invariant-loop-row : goal.invariant-loop-row
invariant-loop-row l = l.puts.items ≡ map Put l.yielded
