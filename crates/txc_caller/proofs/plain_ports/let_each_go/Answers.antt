use Rattle.std.proofs.Common.{◌∙◌, arith}
use Rattle.txc_caller.proofs.Letting.{unpinned_more}
use Rattle.txc_caller.proofs.plain_ports.let_each_go.Goals as goal

pub loop-stamp-preserved : goal.loop-stamp-preserved
loop-stamp-preserved c = record {
  unpinned = λ last rest. c.loop-stamp.invariant.unpinned last
      (unpinned_more c.args.stamps.now c.loop-stamp.stamp-index c.stamp-item.result c.stamp-item.result c.loop-stamp.database c.let_go.new.database last (omega (arith, c.loop-stamp-test.true)) c.stamp-item.is
      c.let_go.ensures.unpinned rest);
  events = c.let_go.ensures.events ∙ c.loop-stamp.invariant.events;
}
