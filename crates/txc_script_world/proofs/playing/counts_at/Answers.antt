use Rattle.txc_script_world.proofs.TasksDone.{counted_as, not_counted}
use Rattle.txc_script_world.proofs.playing.counts_at.Goals as goal

pub returns-in-Ok : goal.returns-in-Ok
returns-in-Ok g c =
    counted_as c.args.world.now c.args.node c.args.function c.number-number.result c.counts.result c.in-Ok.counts c.of.result c.counts.ensures.due c.in-Ok.is c.number-number.ensures.answer
    c.of.ensures

pub returns-in-Err : goal.returns-in-Err
returns-in-Err g c = not_counted c.args.world.now c.args.node c.args.function c.counts.result c.in-Err.refusal c.counts.ensures.due c.in-Err.is
