use Rattle.std.proofs.Common.{◌++◌, ◌∷◌, [], List, ℕ, Ok, Err, sym, ap, ◌∙◌, arith, append_assoc, length}
use Rattle.std.proofs.lemmas.List.{length-append}
use Rattle.txc_script.specs.Progress.{progress_of}
use Rattle.txc_script.specs.declared.running.Flow.TheVariants.{GoesOn, Stopped}
use Rattle.txc_script.proofs.EachLine.{rejoined, split_more}
use Rattle.txc_script.proofs.Answering.{answers_of, answers_same, at_last_longer, extended_line}
use Rattle.txc_script.proofs.running.Running.answer_lines.Goals as goal

pub returns-in-Ok-Stopped-clause-answered : goal.returns-in-Ok-Stopped-clause-answered
returns-in-Ok-Stopped-clause-answered g c start read written h =
    let i = c.lines.invariant in
    let cut = c.in-Some.ensures.answer in
    let kind = g.K.Script.kind c.args.kind.now in
    let p = progress_of c.end_line.new.state c.end_line.new.self in
    at_last_longer kind start _ written c.in-Some.after.now _ p (Ok (Stopped c.in-Ok-Stopped.line))
    (rejoined read i.done c.in-Some.before.now c.in-Some.after.now c.lines.rest.now c.args.bytes.now i.split cut.0)
    (answers_of kind start _ written p c.in-Ok-Stopped.field-0 _ c.in-Ok-Stopped.field-0-is (c.in-Ok-Stopped.ensures.answered start (read ++ i.done) written (i.answered start read written h)))

pub returns-in-Err-clause-answered : goal.returns-in-Err-clause-answered
returns-in-Err-clause-answered g c start read written h =
    let i = c.lines.invariant in
    let cut = c.in-Some.ensures.answer in
    at_last_longer (g.K.Script.kind c.args.kind.now) start _ written c.in-Some.after.now _ (progress_of c.end_line.new.state c.end_line.new.self) (Err c.in-Err.e)
    (rejoined read i.done c.in-Some.before.now c.in-Some.after.now c.lines.rest.now c.args.bytes.now i.split cut.0)
    (c.in-Err.ensures.answered start (read ++ i.done) written (i.answered start read written h))

pub returns-in-None-clause-answered : goal.returns-in-None-clause-answered
returns-in-None-clause-answered g c start read written h =
    let i = c.lines.invariant in
    let kind = g.K.Script.kind c.args.kind.now in
    let added = c.extend_line.ensures in
    answers_same kind start _ _ written (progress_of c.lines.state c.extend_line.new.self) c.extend_line.result (append_assoc read i.done c.lines.rest.now ∙ ap (λ (xs : List ℕ). read ++ xs) (sym i.split))
    (extended_line kind start (read ++ i.done) written c.lines.rest.now c.lines.state c.lines.self c.extend_line.new.self c.extend_line.result c.in-None.ensures.refused added.goes_on added.line added.counted added.replies
    (i.answered start read written h))

pub lines-preserved : goal.lines-preserved
lines-preserved g c =
    let i = c.lines.invariant in
    let cut = c.in-Some.ensures.answer in
    let before = c.in-Some.before.now in
    let after = c.in-Some.after.now in
    let kind = g.K.Script.kind c.args.kind.now in
    let p = progress_of c.end_line.new.state c.end_line.new.self in
    record {
      counted = omega (arith, ap length cut.0, length-append before (10 ∷ after));
      done = i.done ++ (before ++ 10 ∷ []);
      split = split_more i.done before after c.lines.rest.now c.args.bytes.now i.split cut.0;
      answered = λ start read written h. answers_same kind start _ _ written p (Ok GoesOn) (append_assoc read i.done (before ++ 10 ∷ []))
          (answers_of kind start _ written p c.in-Ok-GoesOn.field-0 GoesOn c.in-Ok-GoesOn.field-0-is (c.in-Ok-GoesOn.ensures.answered start (read ++ i.done) written (i.answered start read written h)));
    }
