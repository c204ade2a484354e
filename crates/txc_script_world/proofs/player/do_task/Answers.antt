use Rattle.txc_script_world.proofs.TasksDone.{done_cut}
use Rattle.txc_script_world.proofs.player.do_task.Goals as goal

pub returns-clause-broke : goal.returns-clause-broke
returns-clause-broke g c = done_cut g.A.App.next c.args.world.now c.play.new.world c.args.task c.in_ok-printed.printed c.push_printed.result c.in_ok-printed.ensures.after
