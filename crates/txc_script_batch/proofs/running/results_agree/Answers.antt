use Rattle.std.proofs.Common.{arith, All, subst}
use Rattle.std.proofs.lemmas.List.{take_all}
use Rattle.std.proofs.lemmas.List.Elements.{All-more}
use Rattle.txc_work.specs.declared.job.Receipted.{Receipted}
use Rattle.txc_script_batch.specs.JobResults.{AgreesWith}
use Rattle.txc_script_batch.proofs.running.results_agree.Goals as goal

pub loop-result-preserved : goal.loop-result-preserved
loop-result-preserved c =
    let agrees = λ (r : Receipted). AgreesWith c.args.told.now.history r.outcome in
    All-more agrees c.args.results.now c.loop-result.result-index c.result-item.result c.loop-result-test.true c.loop-result.invariant (subst agrees c.result-item.is c.outcome_agrees.ensures)

pub returns : goal.returns
returns c =
    let agrees = λ (r : Receipted). AgreesWith c.args.told.now.history r.outcome in
    subst (All agrees) (take_all c.loop-result.result-index c.args.results.now (omega arith)) c.loop-result.invariant
