use Rattle.std.proofs.Common.{refl, sym, ◌∙◌}
use Rattle.txc_script.specs.declared.running.Running.{Running}
use Rattle.txc_script.proofs.Answering.{answered_end, answered_whole, halted_before, is_nothing}
use Rattle.txc_script.proofs.running.Running.end_line.Goals as goal

pub returns-then-is_empty-clause-answered : goal.returns-then-is_empty-clause-answered
returns-then-is_empty-clause-answered g c start read written h =
    let ended = c.answer_line.ensures in
    answered_whole (g.K.Script.kind c.args.kind.now) start read written c.args.bytes.now c.args.state.now c.answer_line.new.state c.args.self.now c.answer_line.new.self c.answer_line.result c.requires.no_end
    (is_nothing c.args.self.now.line (sym c.is_empty.ensures ∙ c.if-is_empty.true)) ended.answered ended.broke ended.counted ended.same_line ended.unchanged h

pub returns-in-Ok-clause-answered : goal.returns-in-Ok-clause-answered
returns-in-Ok-clause-answered g c start read written h =
    let ended = c.answer_kept.ensures in
    answered_end (g.K.Script.kind c.args.kind.now) start read written c.args.bytes.now c.add.new.self c.args.state.now c.answer_kept.new.state c.args.self.now c.answer_kept.new.self c.answer_kept.result c.requires.no_end
    c.in-Ok.ensures ended.answered ended.broke ended.counted ended.emptied ended.unchanged h

pub returns-in-Err-clause-answered : goal.returns-in-Err-clause-answered
returns-in-Err-clause-answered g c start read written h =
    let q : Running g.row.F.Denot = record c.args.self.now { line = c.add.new.self } in
    halted_before (g.K.Script.kind c.args.kind.now) start read written _ c.args.state.now c.args.self.now q c.in-Err.e h refl
