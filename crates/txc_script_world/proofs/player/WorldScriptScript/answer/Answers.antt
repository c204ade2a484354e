use Rattle.txc_script_world.proofs.Answering.{broke, unread}
use Rattle.txc_script_world.proofs.player.WorldScriptScript.answer.Goals as goal

pub returns-in-Ok-do_task-clause-answered : goal.returns-in-Ok-do_task-clause-answered
returns-in-Ok-do_task-clause-answered g c =
    let done = c.in-Ok-do_task.ensures.after in
    record { asked = c.in-Ok.task; reply = done.printed; asks = c.in-Ok.ensures.answer; does = done.done; text = done.text; is_refused = done.is_refused }

pub returns-in-Err-do_task-clause-refused : goal.returns-in-Err-do_task-clause-refused
returns-in-Err-do_task-clause-refused g c =
    broke g.A.App.next c.args.state.now c.do_task.new.world c.args.line.now c.in-Ok.task c.in-Ok.ensures.answer c.in-Err-do_task.ensures.broke

pub returns-in-Err-clause-refused : goal.returns-in-Err-clause-refused
returns-in-Err-clause-refused g c = unread g.A.App.next c.args.state.now c.args.line.now c.in-Err.reason c.in-Err.ensures.refused
