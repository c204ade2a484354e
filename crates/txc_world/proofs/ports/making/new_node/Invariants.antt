use Rattle.std.proofs.Common.{◌≡◌}
use Rattle.txc_world.proofs.ports.making.new_node.Given as goal

abbrev pub invariant-loop-pass : goal.invariant-loop-pass
invariant-loop-pass g l = (l.node ≡ record l.initial.node { passes = l.pass }) × (l.initial.node.passes ≡ 0)
