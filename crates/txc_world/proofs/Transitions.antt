-- What steps leave of a world, one after another.
use Rattle.std.proofs.Common.{◌≡◌, ℕ, ◌+◌, ◌<◌, ◌≤◌, List, [], ◌∷◌, ◌++◌, length, map, Option, Some, refl, ap, sym, subst, ◌∙◌, arith, take, get_or, add-one, length-take-le, slice_get, slice_set}
use Rattle.std.specs.Prelude.{MatchOption, Result}
use Rattle.std.specs.Option.{option_map}
use Rattle.std.proofs.Math.Seq.{take-length, take-suc}
use Rattle.std.proofs.lemmas.Option.{slice_get-map}
use Rattle.std.proofs.lemmas.List.{map-set}
use Rattle.txc_txn_ports.specs.declared.turn.Turn.{Turn}
use Rattle.txc_txn_ports.specs.declared.turn.Turn.TheVariants as turns
use Rattle.txc_app.specs.Eval.{Next}
use Rattle.txc_world.specs.declared.actor.OpenTxn.{OpenTxn}
use Rattle.txc_world.specs.declared.actor.Actor.{Actor}
use Rattle.txc_world.specs.declared.actor.Actor.TheVariants.{Reading}
use Rattle.txc_txn_ports.specs.declared.error.TxnError.{TxnError}
use Rattle.txc_world.specs.declared.reply.Reply.{Reply}
use Rattle.txc_world.specs.declared.settings.WorldSettings.{WorldSettings}
use Rattle.txc_world.specs.declared.step.ActorStep.{ActorStep}
use Rattle.txc_world.specs.declared.step.Step.{Step}
use Rattle.txc_world.specs.declared.step.Step.TheVariants as steps
use Rattle.txc_world.specs.Ports.{PortsValue}
use Rattle.txc_world.specs.ActorValues.{actor_at, actor_value, reading_value, reads, ReadingValue}
use Rattle.txc_world.specs.Actors.{IsNoted}
use Rattle.txc_world.specs.StepEffects.{ActTransition, AreAfterSteps, HasStepped, StepTransition}
use Rattle.txc_world.specs.Worlds.{value_of_world, WorldValue}
use Rattle.txc_world.proofs.Paired.{paired}

-- ---- a call, as it is kept and as it is seen

-- what is there is led so
pub some_there : {X : Type 0} (Absent : Type 0) (There : X → Type 0) (o : Option X) (x : X) → o ≡ Some x → There x → MatchOption o Absent There
some_there Absent There o x is h = rw is h

pub noted_seen : {R X Y : Type 0} (see : X → Y) (opened : Turn R (List ℕ) → X) (turn : Turn R (List ℕ)) (call : Option X) (end : Option (Result (List ℕ) TxnError)) → IsNoted opened turn call end
    → IsNoted (λ (t : Turn R (List ℕ)). see (opened t)) turn (option_map see call) end
noted_seen see opened (turns.Ask request) call end h = (ap (option_map see) h.0, h.1)
noted_seen see opened (turns.Ended result) call end h = (ap (option_map see) h.0, h.1)

-- ---- a step of an actor

module _ {A C : Type 0} (next : Next) (settings : WorldSettings) (old new : PortsValue) (floors floors' : List ℕ) (actors : List (Option (Actor A C))) (number : ℕ) (actor actor' : Actor A C)
    (is : slice_get actors number ≡ Some (Some actor)) where
  actor_there : slice_get (map actor_at actors) number ≡ Some (actor_value actor)
  actor_there = slice_get-map actor_at actors number ∙ ap (λ (o : Option (Option (Actor A C))). option_map actor_at o) is

  pub world_led : (actors' : List (Option (Actor A C))) (was now : WorldValue) (act : ActorStep) (reply : Reply)
      → actors' ≡ slice_set actors number (Some actor')
      → ActTransition next settings.renew_after number act old new (actor_value actor) (actor_value actor') reply
      → value_of_world settings old floors actors ≡ was → value_of_world settings new floors' actors' ≡ now → StepTransition next was (steps.Actor number act) reply now
  world_led actors' was now act reply put transition shows shows' =
      let led : StepTransition next (value_of_world settings old floors actors) (steps.Actor number act) reply (value_of_world settings new floors' actors') = rw actor_there (record {
        actor = actor_value actor';
        others = rw put (map-set actor_at actors number (Some actor'));
        transition = transition;
      })
      in subst (λ (w : WorldValue). StepTransition next was (steps.Actor number act) reply w) shows'
      (subst (λ (w : WorldValue). StepTransition next w (steps.Actor number act) reply (value_of_world settings new floors' actors')) shows led)

-- what is seen of an actor with a read-only transaction open
pub seen_there : {A C : Type 0} → (actors : List (Option (Actor A C))) (number : ℕ) (o : OpenTxn A C) (r : ReadingValue) → slice_get actors number ≡ Some (Some (Reading o))
    → slice_get (map actor_at actors) number ≡ Some (reads r) → r ≡ reading_value o
seen_there actors number o r is at =
    let both : Some (reads r) ≡ Some (reads (reading_value o)) =
    sym at ∙ slice_get-map actor_at actors number ∙ ap (λ slot. option_map actor_at slot) is in
    cc both

-- ---- one more step and its reply

pub led_more : (next : Next) (start now new : WorldValue) (steps : List Step) (replies : List Reply) (step : Step) (reply : Reply)
    → length replies ≡ length steps → AreAfterSteps next start steps replies now → HasStepped next now step reply new
    → AreAfterSteps next start (steps ++ step ∷ []) (replies ++ reply ∷ []) new
led_more next start now new steps replies step reply e = paired
    (λ (ss : List Step) (rs : List Reply). (start : WorldValue) → AreAfterSteps next start ss rs now → HasStepped next now step reply new → AreAfterSteps next start (ss ++ step ∷ []) (rs ++ reply ∷ []) new)
    (λ start h k. (new, subst (λ (w : WorldValue). HasStepped next w step reply new) h k, refl))
    (λ s ss r rs more start h k. (h.0, h.1, more h.0 h.2 k)) steps replies e start

-- ---- the loop over the steps

module _ (next : Next) (start : WorldValue) (steps : List Step) (i : ℕ) (replies : List Reply) where
  pub loop_led : (step : Step) (reply : Reply) → i < length steps → step ≡ get_or steps i step → length replies ≡ i
      → (now new : WorldValue) → AreAfterSteps next start (take i steps) replies now → HasStepped next now step reply new
      → AreAfterSteps next start (take (i + 1) steps) (replies ++ reply ∷ []) new
  loop_led step reply within is even now new h k =
      let less : i ≤ length steps = omega (arith, within) in
      let long = length-take-le i steps less in
      let one : take (i + 1) steps ≡ take i steps ++ step ∷ [] =
      ap (λ n. take n steps) (add-one i) ∙ take-suc steps i step within ∙ ap (λ s. take i steps ++ s ∷ []) (sym is) in
      rw one (led_more next start now new (take i steps) replies step reply (even ∙ sym long) h k)

  pub loop_led_end : length steps ≤ i → i ≤ length steps → (now : WorldValue) → AreAfterSteps next start (take i steps) replies now
      → AreAfterSteps next start steps replies now
  loop_led_end past within now h =
      let at : i ≡ length steps = omega (arith, past, within) in
      let all : take i steps ≡ steps = ap (λ n. take n steps) at ∙ take-length steps in
      subst (λ (ss : List Step). AreAfterSteps next start ss replies now) all h
