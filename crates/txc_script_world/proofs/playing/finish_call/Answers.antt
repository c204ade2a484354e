use Rattle.std.proofs.Common.{sym, ◌∙◌}
use Rattle.txc_script_world.proofs.TasksDone.{call_ended, none_requested, one_requested, requests_begun}
use Rattle.txc_script_world.proofs.playing.finish_call.Goals as goal

pub loop-init : goal.loop-init
loop-init g c = none_requested g.A.App.next c.args.world.now c.args.actor

pub returns-in-Some-clause-after : goal.returns-in-Some-clause-after
returns-in-Some-clause-after g c =
    call_ended g.A.App.next c.args.world.now c.loop.world c.take-reply.new.world c.args.actor c.take-reply.result c.in-Some.printed c.loop.invariant c.take-reply.ensures
    (sym c.ending_of.ensures ∙ c.in-Some.is)

pub loop-preserved : goal.loop-preserved
loop-preserved g c =
    one_requested g.A.App.next c.args.world.now c.loop.world c.take-reply.new.world c.args.actor c.take-reply.result c.loop.invariant c.take-reply.ensures
    (sym c.ending_of.ensures ∙ c.in_default.is)

pub returns-clause-broke : goal.returns-clause-broke
returns-clause-broke g c = requests_begun g.A.App.next c.args.world.now c.loop.world c.args.actor c.loop.invariant
