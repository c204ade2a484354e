use Rattle.txc_script.proofs.Turning.{flushed}
use Rattle.txc_script.proofs.run.run_script.Goals as goal

pub returns : goal.returns
returns g c =
    flushed (g.K.Script.kind c.args.kind.now) c.args.state.now _ _ _ _ _ c.answer_script-ended.result c.flush.result c.answer_script-ended.new.state c.answer_script-ended.ensures.after c.flush.ensures
