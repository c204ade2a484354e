use Rattle.std.proofs.Common.{Some, ap, sym, arith, ◌∙◌}
use Rattle.txc_script_world.specs.TaskSteps.{taken_out}
use Rattle.txc_script_world.proofs.TasksDone.{tidy_done, tidy_refused}
use Rattle.txc_script_world.proofs.playing.tidy_up.Goals as goal

pub returns-in-Ok : goal.returns-in-Ok
returns-in-Ok g c =
    tidy_done g.A.App.next c.args.world.now c.take-reply.new.world c.unpin_all.new.world c.args.now c.args.age c.take-reply.result c.as_slice.result.now c.len.result c.unpin_all.result
    c.take-reply.ensures (ap taken_out c.in-Ok.ensures.some ∙ ap Some (sym c.as_slice.ensures.value)) (omega (arith, c.len.ensures, c.as_slice.ensures.len)) c.unpin_all.ensures

pub returns-in-Err : goal.returns-in-Err
returns-in-Err g c =
    rw c.in-Err.ensures.none.0
    (tidy_refused g.A.App.next c.args.world.now c.take-reply.new.world c.args.now c.args.age c.take-reply.result c.take-reply.ensures c.in-Err.ensures.none.1)
