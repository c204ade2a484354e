use Rattle.std.proofs.Common.{sym, ◌∙◌}
use Rattle.txc_script.proofs.Answering.{answered_last, none_left, is_nothing, not_nothing}
use Rattle.txc_script.proofs.running.Running.answer_last.Goals as goal

pub returns-then-is_empty : goal.returns-then-is_empty
returns-then-is_empty g c start read written h =
    none_left (g.K.Script.kind c.args.kind.now) start read written c.args.state.now c.args.self.now h (is_nothing c.args.self.now.line (sym c.is_empty.ensures ∙ c.if-is_empty.true))

pub returns : goal.returns
returns g c start read written h =
    let ended = c.answer_kept.ensures in
    answered_last (g.K.Script.kind c.args.kind.now) start read written c.args.state.now c.answer_kept.new.state c.args.self.now c.answer_kept.new.self c.answer_kept.result h
    (not_nothing c.args.self.now.line (sym c.is_empty.ensures ∙ c.if-is_empty.false)) ended.answered ended.broke ended.counted ended.emptied ended.unchanged
