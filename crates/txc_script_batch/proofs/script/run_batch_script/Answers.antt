use Rattle.std.proofs.Common.{inr, subst}
use Rattle.txc_script_batch.specs.BatchRuns.{HasRunFrom}
use Rattle.txc_script_batch.specs.BatchStates.{BatchState}
use Rattle.txc_script_batch.proofs.script.run_batch_script.Goals as goal

pub returns : goal.returns
returns g c =
    let before = g.R.Read.remaining c.args.reader.now in
    let after = g.R.Read.remaining c.run_lines.new.reader in
    let old = g.W.Write.contents c.args.writer.now in
    let new = g.W.Write.contents c.run_lines.new.writer in
    inr (c.in-Ok.source, c.in-Ok.ensures, subst (λ (s : BatchState). HasRunFrom g.A.App.next s before after old new c.run_lines.result) c.new-batch.ensures c.run_lines.ensures)
