use Rattle.std.proofs.Common.{◌≡◌, length}
use Rattle.txc_db.specs.DatabaseValue.{front_of}
use Rattle.txc_world.specs.NewWorld.{AreNewNodes}
use Rattle.txc_world.proofs.ports.making.new_nodes.Given as goal

abbrev pub invariant-loop-number : goal.invariant-loop-number
invariant-loop-number g l = (length l.nodes.items ≡ l.number) × AreNewNodes l.settings l.passes (front_of l.database) l.nodes.items
