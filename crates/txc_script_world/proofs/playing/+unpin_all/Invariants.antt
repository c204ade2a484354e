use Rattle.std.proofs.Common.{length}
use Rattle.txc_script_world.proofs.playing.+unpin_all.Given as goal

abbrev pub decreases-unpin_all : goal.decreases-unpin_all
decreases-unpin_all g l = length l.stamps.now
