use Rattle.std.proofs.Common.{◌≡◌, ◌∙◌, ◌++◌, ◌∷◌, [], ℕ, List, ap, subst}
use Rattle.txc_db.specs.History.{state_at}
use Rattle.txc_txn_rw.specs.declared.given.Given.{Given}
use Rattle.txc_txn_rw.specs.declared.given.Given.TheVariants as given
use Rattle.txc_uses_callers.specs.Labels.{label_call, label_in}
use Rattle.txc_uses_callers.proofs.Valued.{written_label}
use Rattle.txc_uses_callers.proofs.writing.committed.Goals as goal

pub returns-in-Ok-commit : goal.returns-in-Ok-commit
returns-in-Ok-commit c =
    let history = c.commit.new.caller.ports.database.history in
    record {
      copied = subst (λ (base : ℕ). c.in-Ok.label ≡ label_in (state_at history base) c.args.from) c.copied.ensures.base
          (written_label (state_at history c.copied.new.write.core.base) c.args.from c.in-Ok.label c.copied.new.write.core.answers c.in-Ok-commit.ensures.at_base
          (c.in-Ok.ensures.answers ∙ ap (λ (gs : List Given). gs ++ given.Value (label_call c.args.from) c.in-Ok.label ∷ []) c.requires.new));
    }
