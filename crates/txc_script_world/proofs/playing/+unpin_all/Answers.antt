use Rattle.std.proofs.Common.{sym, ◌∙◌}
use Rattle.txc_script_world.proofs.TasksDone.{one_unpinned, unpin_refused, vacuumed}
use Rattle.txc_script_world.proofs.playing.+unpin_all.Goals as goal

pub returns-then-is_unpinned : goal.returns-then-is_unpinned
returns-then-is_unpinned g t c =
    rw c.in-Some.ensures.cases.0
    (one_unpinned g.A.App.next c.args.world.now c.take-reply-2.new.world c.unpin_all.new.world c.in-Some.stamp.now c.in-Some.others.now c.args.count c.take-reply-2.result c.unpin_all.result
    c.take-reply-2.ensures (sym c.is_unpinned.ensures ∙ c.if-is_unpinned.true) c.unpin_all.ensures)

pub returns-in_default : goal.returns-in_default
returns-in_default g t c =
    vacuumed g.A.App.next c.args.world.now c.take-reply.new.world c.args.stamps.now c.args.count c.take-reply.result c.tidied.result c.take-reply.ensures c.in_default.ensures.cases c.tidied.ensures

pub returns : goal.returns
returns g t c =
    rw c.in-Some.ensures.cases.0
    (unpin_refused g.A.App.next c.args.world.now c.take-reply-2.new.world c.in-Some.stamp.now c.in-Some.others.now c.args.count c.take-reply-2.result
    c.take-reply-2.ensures (sym c.is_unpinned.ensures ∙ c.if-is_unpinned.false))
