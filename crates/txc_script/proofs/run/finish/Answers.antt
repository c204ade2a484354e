use Rattle.txc_script.specs.Progress.{progress_of}
use Rattle.txc_script.proofs.Turning.{cut_off}
use Rattle.txc_script.proofs.run.finish.Goals as goal

pub returns-in-Ok-answered-clause-ended : goal.returns-in-Ok-answered-clause-ended
returns-in-Ok-answered-clause-ended g c start read written h =
    rw (c.status.ensures, c.write_out.ensures.same.refused) (c.finish-answered.new.self.replies.text.items, c.in-Ok.ensures.after, c.in-Ok-answered.ensures start read written h)

pub returns-in-Err-answered-clause-ended : goal.returns-in-Err-answered-clause-ended
returns-in-Err-answered-clause-ended g c start read written h = (c.finish-answered.new.self.replies.text.items, c.in-Ok.ensures.after, c.in-Err-answered.ensures start read written h)

pub returns-in-Err-clause-ended : goal.returns-in-Err-clause-ended
returns-in-Err-clause-ended g c start read written h =
    cut_off (g.K.Script.kind c.args.kind.now) start read (Unit {0}) written (progress_of c.finish-answered.new.state c.finish-answered.new.self) c.finish-answered.result _ _ c.in-Err.ensures.prefix
    (c.finish-answered.ensures start read written h)
