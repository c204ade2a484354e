use Rattle.std.proofs.Common.{◌∙◌, ◌++◌, ◌∷◌, [], List, ap}
use Rattle.txc_txn_ports.specs.declared.recorded.Recorded.{Recorded}
use Rattle.txc_caller.specs.CallerTxn.{recorded_as}
use Rattle.txc_uses_callers.specs.Labels.{label_call}
use Rattle.txc_uses_callers.proofs.Valued.{shows_label}
use Rattle.txc_uses_callers.proofs.reading.read.Goals as goal

pub returns : goal.returns
returns c = record {
  shown = shows_label _ c.args.id c.in-Ok.label c.in-Ok-commit.receipt c.in-Ok-commit.ensures.explained
      (c.in-Ok-commit.ensures.answers ∙ (c.in-Ok.ensures.recorded
      ∙ ap (λ (rs : List Recorded). rs ++ recorded_as (label_call c.args.id) c.in-Ok.label ∷ []) c.in_ok-txn.ensures.begun.recorded));
}
