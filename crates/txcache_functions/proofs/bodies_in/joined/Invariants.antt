use Rattle.std.proofs.Common.{◌≡◌, ◌++◌, drop}
use Rattle.txcache_functions.specs.Program.{bodies_of}
use Rattle.txcache_functions.proofs.Bodies.{after_commas}
use Rattle.txcache_functions.proofs.bodies_in.joined.Given as goal

abbrev pub invariant-loop-row : goal.invariant-loop-row
invariant-loop-row l = l.bytes.items ++ after_commas (drop l.row-index l.others) ≡ bodies_of l.rows
