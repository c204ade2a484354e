use Rattle.std.proofs.Common.{◌++◌}
use Rattle.txc_script.specs.Progress.{progress_of}
use Rattle.txc_script.proofs.Turning.{turn_faults, turn_answered}
use Rattle.txc_script.proofs.run.turn.Goals as goal

pub returns-in-Ok-answered-clause-turned : goal.returns-in-Ok-answered-clause-turned
returns-in-Ok-answered-clause-turned g c start read written h =
    turn_answered (g.K.Script.kind c.args.kind.now) start (read ++ c.args.bytes.now) written c.answer_lines-answered.new.state c.answer_lines-answered.new.self c.write_out.new.self c.in-Ok-answered.flow _ _ c.in-Ok.ensures.after
    c.write_out.ensures.same c.in-Ok.ensures.emptied (c.in-Ok-answered.ensures.answered start read written h)

pub returns-in-Err-answered-clause-turned : goal.returns-in-Err-answered-clause-turned
returns-in-Err-answered-clause-turned g c start read written h = (c.answer_lines-answered.new.self.replies.text.items, c.in-Ok.ensures.after, c.in-Err-answered.ensures.answered start read written h)

pub returns-in-Err-clause-turned : goal.returns-in-Err-clause-turned
returns-in-Err-clause-turned g c start read written h =
    turn_faults (g.K.Script.kind c.args.kind.now) start (read ++ c.args.bytes.now) written (progress_of c.answer_lines-answered.new.state c.answer_lines-answered.new.self) c.answer_lines-answered.result _ _ c.in-Err.ensures.prefix
    (c.answer_lines-answered.ensures.answered start read written h)
