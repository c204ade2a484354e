use Rattle.std.proofs.Common.{vec_len}
use Rattle.txc_stream.specs.Published.{AreLeft}
use Rattle.txc_stream.proofs.segment.LiveSegments.drop_left.Given as goal

abbrev pub invariant-loop-self : goal.invariant-loop-self
invariant-loop-self g l = AreLeft l.fn.self.segments.items l.self.segments.items

abbrev pub decreases-loop-self : goal.decreases-loop-self
decreases-loop-self g l = vec_len l.self.segments
