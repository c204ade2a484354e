use Rattle.std.proofs.Common.{arith}
use Rattle.txc_script_world.proofs.GivingUp.{all_closed, one_gave_up}
use Rattle.txc_script_world.proofs.playing.give_all_up.Goals as goal

pub loop-actor-preserved : goal.loop-actor-preserved
loop-actor-preserved g c =
    one_gave_up g.A.App.next c.args.world.now c.loop-actor.world c.take.new.world c.take-in-loop-actor-2.new.world c.loop-actor.actor c.take.result c.take-in-loop-actor-2.result c.loop-actor.invariant
    (omega (arith, c.loop-actor-test.true, c.actor_count-actor-end.ensures)) c.take.ensures c.take-in-loop-actor-2.ensures

pub returns-clause-closed : goal.returns-clause-closed
returns-clause-closed g c =
    all_closed g.A.App.next c.args.world.now c.loop-actor.world c.loop-actor.actor (omega (arith, c.loop-actor-test.false, c.loop-actor.auto.actor-end, c.actor_count-actor-end.ensures)) c.loop-actor.invariant
