use Rattle.std.proofs.Common.{ℕ, List, ◌++◌, ap, ◌∙◌}
use Rattle.std.proofs.KnownBytes.{Keeps-refl}
use Rattle.txc_script_batch.specs.OutcomeTexts.{batch_text}
use Rattle.txc_script_batch.proofs.Closing.{ends_so}
use Rattle.txc_script_batch.proofs.Ending.{jobs_not_flushed}
use Rattle.txc_script_batch.proofs.script.end_in_jobs.Goals as goal

pub returns-in_default : goal.returns-in_default
returns-in_default g c = Keeps-refl _

pub returns : goal.returns
returns g c =
    let ran = c.run_jobs-results in
    let text = c.deref.ensures.value ∙ c.in-Ok.ensures.text ∙ ap (λ (xs : List ℕ). xs ++ batch_text ran.result) c.new-text.ensures.items in
    jobs_not_flushed g.A.App.next c.args.batch c.args.is_refused ran.result (g.W.Write.contents c.args.writer.now) (g.W.Write.contents c.write_text.new.writer) (g.W.Write.contents c.flush.new.self) c.deref.result.now
    (ends_so g.A.App.next c.args.batch ran.result ran.ensures.ran ran.ensures.named c.in-Ok.ensures.memory) text c.in_ok-write_text.ensures.after c.flush.ensures.bytes
