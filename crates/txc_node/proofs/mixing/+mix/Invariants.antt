use Rattle.std.proofs.Common.{length}
use Rattle.txc_node.proofs.mixing.+mix.Given as goal

abbrev pub decreases-mix : goal.decreases-mix
decreases-mix l = length l.args.now
