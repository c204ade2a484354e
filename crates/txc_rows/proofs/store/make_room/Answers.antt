use Rattle.std.proofs.lemmas.Result.{err_from_is_err_and}
use Rattle.std.proofs.Common.{rules}
use Rattle.txc_rows.proofs.StoreLemmas.{room_refused, room_left}
use Rattle.txc_rows.proofs.store.make_room.Goals as goal

pub returns-in_err-rows-clause-room : goal.returns-in_err-rows-clause-room
returns-in_err-rows-clause-room c = λ next store.
    let p = err_from_is_err_and c.from_residual.result c.from_residual.ensures.1 in
    rw p.1 (room_refused c.args.kept_from c.args.stamp next c.args.replaced.now c.args.latest.now c.leave_out.new.self store p.0 c.in_err-rows.ensures.unchanged)

pub returns-clause-room : goal.returns-clause-room
returns-clause-room c = λ next store. room_left c.args.kept_from c.args.stamp next c.args.replaced.now c.args.latest.now c.leave_out.new.self store c.in-Ok.left (search rules) c.in_ok-rows.ensures.left
