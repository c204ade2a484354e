use Rattle.std.proofs.Common.{arith}
use Rattle.txc_c_types.proofs.Tagged.{added_at}
use Rattle.txc_c_types.proofs.crossing.tags_of.Goals as goal

pub loop-tag-preserved : goal.loop-tag-preserved
loop-tag-preserved c =
    added_at c.args.tags.now c.loop-tag.tag-index _ c.loop-tag.set c.add.new.self _ c.tag.result (omega (arith, c.loop-tag-test.true)) c.tag.ensures c.in_ok-add.ensures.after c.loop-tag.invariant
