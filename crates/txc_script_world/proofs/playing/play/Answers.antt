use Rattle.txc_script_world.proofs.TasksDone.{done_counts, done_one, done_pins, finish_cut, nothing_cut}
use Rattle.txc_script_world.proofs.playing.play.Goals as goal

pub returns-in-Finish-clause-broke : goal.returns-in-Finish-clause-broke
returns-in-Finish-clause-broke g c =
    rw c.in-Finish.is (finish_cut g.A.App.next c.args.world.now c.finish_call.new.world c.in-Finish.actor c.finish_call.result c.finish_call.ensures.broke)

pub returns-in-Pins-clause-after : goal.returns-in-Pins-clause-after
returns-in-Pins-clause-after g c = rw c.in-Pins.is (done_pins g.A.App.next c.args.world.now c.in-Pins.actor c.members_of.result c.members_of.ensures)

pub returns-in-Pins-clause-broke : goal.returns-in-Pins-clause-broke
returns-in-Pins-clause-broke g c = nothing_cut g.A.App.next c.args.world.now c.args.task c.members_of.result

pub returns-in-One-clause-after : goal.returns-in-One-clause-after
returns-in-One-clause-after g c = rw c.in-One.is (done_one g.A.App.next c.args.world.now c.take.new.world c.in-One.step c.take.result c.take.ensures)

pub returns-in-Counts-clause-after : goal.returns-in-Counts-clause-after
returns-in-Counts-clause-after g c = rw c.in-Counts.is (done_counts g.A.App.next c.args.world.now c.in-Counts.node c.in-Counts.function c.counts_at.result c.counts_at.ensures)
