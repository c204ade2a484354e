use Rattle.txc_script.specs.Progress.{progress_of}
use Rattle.txc_script.proofs.Answering.{last_of}
use Rattle.txc_script.proofs.running.Running.finish.Goals as goal

pub returns-in-Ok-GoesOn : goal.returns-in-Ok-GoesOn
returns-in-Ok-GoesOn g c start read written h =
    c.close.ensures start read written
    (last_of (g.K.Script.kind c.args.kind.now) start read written (progress_of c.answer_last.new.state c.answer_last.new.self) c.in-Ok-GoesOn.field-0 _ c.in-Ok-GoesOn.field-0-is (c.in-Ok-GoesOn.ensures start read written h))

pub returns-in-Ok-Stopped : goal.returns-in-Ok-Stopped
returns-in-Ok-Stopped g c start read written h =
    last_of (g.K.Script.kind c.args.kind.now) start read written (progress_of c.answer_last.new.state c.answer_last.new.self) c.in-Ok-Stopped.field-0 _ c.in-Ok-Stopped.field-0-is (c.in-Ok-Stopped.ensures start read written h)
