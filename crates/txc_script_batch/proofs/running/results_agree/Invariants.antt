use Rattle.std.proofs.Common.{All, take}
use Rattle.txc_script_batch.specs.JobResults.{AgreesWith}
use Rattle.txc_script_batch.proofs.running.results_agree.Given as goal

abbrev pub invariant-loop-result : goal.invariant-loop-result
invariant-loop-result l = All (λ r. AgreesWith l.told.history r.outcome) (take l.result-index l.results)
