use Rattle.std.proofs.Common.{Result, Ok, Err, refl, sym, ap, subst, ◌∙◌}
use Rattle.std.proofs.KnownBytes.{Keeps-refl}
use Rattle.txc_script.specs.declared.fault.RunFault.{RunFault}
use Rattle.txc_script_lines.specs.Faults.{WordsStatus}
use Rattle.txc_script.specs.declared.fault.Status.TheVariants.{Malformed}
use Rattle.txc_script_batch.specs.BatchRuns.{EndsAfterLines}
use Rattle.txc_script_batch.proofs.Ending.{run_ended}
use Rattle.txc_script_batch.proofs.script.run_lines.Goals as goal

pub returns-in-Ok-Done : goal.returns-in-Ok-Done
returns-in-Ok-Done g c =
    let lines = c.run_script-lines_ended in
    let left = lines.new.state in
    let before = g.W.Write.contents lines.new.writer in
    let after = g.W.Write.contents c.end_in_jobs.new.writer in
    run_ended g.A.App.next c.args.batch left _ _ _ before after lines.result c.end_in_jobs.result lines.ensures
    (subst (λ (e : Result WordsStatus RunFault). EndsAfterLines g.A.App.next left e before after c.end_in_jobs.result) (sym (c.in-Ok-Done.is ∙ ap (λ (s : WordsStatus). let r : Result WordsStatus RunFault = Ok s in r) c.in-Ok-Done.field-0-is))
    c.end_in_jobs.ensures)

pub returns-in-Ok-Refused : goal.returns-in-Ok-Refused
returns-in-Ok-Refused g c =
    let lines = c.run_script-lines_ended in
    let ended = c.end_in_jobs-in-Ok-Refused in
    let left = lines.new.state in
    let before = g.W.Write.contents lines.new.writer in
    let after = g.W.Write.contents ended.new.writer in
    run_ended g.A.App.next c.args.batch left _ _ _ before after lines.result ended.result lines.ensures
    (subst (λ (e : Result WordsStatus RunFault). EndsAfterLines g.A.App.next left e before after ended.result) (sym (c.in-Ok-Refused.is ∙ ap (λ (s : WordsStatus). let r : Result WordsStatus RunFault = Ok s in r) c.in-Ok-Refused.field-0-is))
    ended.ensures)

pub returns-in-Ok-Malformed : goal.returns-in-Ok-Malformed
returns-in-Ok-Malformed g c =
    let lines = c.run_script-lines_ended in
    let left = lines.new.state in
    let before = g.W.Write.contents lines.new.writer in
    let result : Result WordsStatus RunFault = Ok (Malformed c.in-Ok-Malformed.line) in
    run_ended g.A.App.next c.args.batch left _ _ _ before before lines.result result lines.ensures
    (subst (λ (e : Result WordsStatus RunFault). EndsAfterLines g.A.App.next left e before before result) (sym (c.in-Ok-Malformed.is ∙ ap (λ (s : WordsStatus). let r : Result WordsStatus RunFault = Ok s in r) c.in-Ok-Malformed.field-0-is))
    (Keeps-refl before, refl))

pub returns-in-Err : goal.returns-in-Err
returns-in-Err g c =
    let lines = c.run_script-lines_ended in
    let left = lines.new.state in
    let before = g.W.Write.contents lines.new.writer in
    let result : Result WordsStatus RunFault = Err c.in-Err.fault in
    run_ended g.A.App.next c.args.batch left _ _ _ before before lines.result result lines.ensures
    (subst (λ (e : Result WordsStatus RunFault). EndsAfterLines g.A.App.next left e before before result) (sym c.in-Err.is) (Keeps-refl before, refl))
