use Rattle.txc_script_world.proofs.GivingUp.{HaveGivenUp}
use Rattle.txc_script_world.proofs.playing.give_all_up.Given as goal

abbrev pub invariant-loop-actor : goal.invariant-loop-actor
invariant-loop-actor g l = HaveGivenUp g.A.App.next l.fn.world l.actor l.world
