use Rattle.std.proofs.Common.{sym, ◌∙◌}
use Rattle.txc_script_world.proofs.TasksDone.{ended_alone, ended_with}
use Rattle.txc_script_world.proofs.playing.end_txn.Goals as goal

pub returns-then-leaves_hold : goal.returns-then-leaves_hold
returns-then-leaves_hold g c =
    ended_with g.A.App.next c.args.world.now c.take-reply.new.world c.take.new.world c.args.actor c.args.act c.take-reply.result c.take.result
    c.take-reply.ensures (sym c.leaves_hold.ensures ∙ c.if-leaves_hold.true) c.take.ensures

pub returns : goal.returns
returns g c =
    ended_alone g.A.App.next c.args.world.now c.take-reply.new.world c.args.actor c.args.act c.take-reply.result c.take-reply.ensures (sym c.leaves_hold.ensures ∙ c.if-leaves_hold.false)
