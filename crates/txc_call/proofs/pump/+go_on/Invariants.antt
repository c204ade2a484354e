use Rattle.std.proofs.Common.{length}
use Rattle.txc_call.proofs.pump.+go_on.Given as goal

abbrev pub decreases-go_on : goal.decreases-go_on
decreases-go_on g l = length l.frames.now.stack
