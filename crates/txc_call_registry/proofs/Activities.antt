-- What an object asks, where its activity and its meaning are known.
use Rattle.std.proofs.Common.{◌≡◌, Some, refl, ap, ◌∙◌, subst}
use Rattle.txc_app.specs.declared.ask.Ask.{Ask}
use Rattle.txc_app.specs.declared.ask.Answer.{Answer}
use Rattle.txc_call_registry.specs.Activity.{Activation, Activity, Says, activation_in, answered, next_of, running, IsAsking, WantsAnswer}

module _ (says means : Says) (activity : Activity) (a : Activation) (here : activity ≡ running a) where
  -- the activation that is known asks
  pub asking : says ≡ means → WantsAnswer (next_of means a) → IsAsking says activity
  asking is wants = rw (here, is) (refl, wants)

  -- what is asked after one answer more
  pub asked : says ≡ means → (x : Answer) (ask : Ask) → next_of says (answered (activation_in activity) x) ≡ Some ask → next_of means (answered a x) ≡ Some ask
  asked is x ask h = subst (λ (s : Says). next_of s (answered a x) ≡ Some ask) is (subst (λ (t : Activity). next_of says (answered (activation_in t) x) ≡ Some ask) here h)

  -- what is done after it
  pub went_on : (x : Answer) (new : Activity) → new ≡ running (answered (activation_in activity) x) → new ≡ running (answered a x)
  went_on x new h = h ∙ ap (λ (t : Activity). running (answered (activation_in t) x)) here
