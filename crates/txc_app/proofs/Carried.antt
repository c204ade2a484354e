-- An entry that goes over to another history.
use Rattle.std.proofs.Common.{◌≡◌, Some, true, ap, ◌∙◌, subst, arith}
use Rattle.txc_rows.specs.States.{State}
use Rattle.txc_db.specs.History.{state_at}
use Rattle.txc_app.specs.Eval.{eval, met}
use Rattle.txc_app.specs.Claims.{covers_all}
use Rattle.txc_app.specs.Laws.{CarriedIsTrue}

pub carried : CarriedIsTrue
carried next L M e n m same within at still is = record {
  within = within;
  holds = λ t h. let here : m ≡ t = omega (arith, h) in subst (λ (s : State). eval next e.key s ≡ Some e.value) (same ∙ ap (state_at M) here) (is.holds n at);
  covered = λ _ t h. let here : m ≡ t = omega (arith, h) in subst (λ (s : State). covers_all e.tags (met next e.key s) ≡ true) (same ∙ ap (state_at M) here) (is.covered still n at);
}
