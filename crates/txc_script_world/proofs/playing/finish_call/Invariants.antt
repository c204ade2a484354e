use Rattle.txc_script_world.proofs.TasksDone.{HasRequested}
use Rattle.txc_script_world.proofs.playing.finish_call.Given as goal

abbrev pub invariant-loop : goal.invariant-loop
invariant-loop g l = HasRequested g.A.App.next l.fn.world l.actor l.world
