use Rattle.std.proofs.Common.{rules}
use Rattle.txcache_functions.proofs.Bodies.{first_written}
use Rattle.txcache_functions.proofs.bodies_in.joined.Goals as goal

pub loop-row-init : goal.loop-row-init
loop-row-init c = first_written c.args.rows.now c.in-Some.others.now c.in-Some.first.now c.extend_from_slice.new.self.items c.in-Some.ensures.cases.0 (search rules)
