-- One step of a world.
use Rattle.std.proofs.Common.{◌≡◌, ℕ, zero, suc, List, [], ◌∷◌, length, Option, Some, None, map, refl, sym, ap, subst, ◌∙◌, slice_get, slice_set}
use Rattle.std.specs.Prelude.{All, option_map}
use Rattle.std.proofs.lemmas.Option.{slice_get-map}
use Rattle.std.proofs.lemmas.List.{map-set}
use Rattle.std.proofs.lemmas.List.Elements.{All-set, All-weaker}
use Rattle.txc_app.specs.Eval.{Next}
use Rattle.txc_txn_ports.specs.declared.request.PortRequest.{PortRequest}
use Rattle.txc_txn.specs.TxnCore.{CoreValue}
use Rattle.txc_txn.proofs.Offered.{adds_weaker}
use Rattle.txc_txn_rw.specs.Laws.{HoldsInLonger}
use Rattle.txc_world.specs.declared.actor.OpenCall.{OpenCall}
use Rattle.txc_world.specs.declared.actor.Actor.{Actor}
use Rattle.txc_world.specs.declared.actor.Actor.TheVariants.{Idle, Reading, Writing, Leaving}
use Rattle.txc_world.specs.declared.reply.Reply.{Reply}
use Rattle.txc_world.specs.declared.settings.WorldSettings.{WorldSettings}
use Rattle.txc_world.specs.declared.step.ActorStep.{ActorStep}
use Rattle.txc_world.specs.declared.step.KeeperStep.{KeeperStep}
use Rattle.txc_world.specs.declared.step.Step.TheVariants as steps
use Rattle.txc_world.specs.Observation.{Observation, act_in, after, floor_at, floor_by, keep_in, observed_after, spare_after, IsActDue, IsDue, IsExplainedIn, IsKeepDue, ReplyExplains}
use Rattle.txc_world.specs.Parts.{IsPartOf}
use Rattle.txc_world.specs.Ports.{PortsValue, whole_of, KeepsRow}
use Rattle.txc_world.specs.Actors.{observed_at, observed_of, HasCall, IsActor, IsActorThere}
use Rattle.txc_world.specs.KeeperAtPorts.{stamps_of_pins}
use Rattle.txc_world.specs.Worlds.{told_of, IsWorld}
use Rattle.txc_world.proofs.Whole.{part_kept}

-- ---- places of a list

module _ {X : Type 0} where
  pub set_length : (xs : List X) (i : ℕ) (a : X) → length (slice_set xs i a) ≡ length xs
  set_length [] i a = refl
  set_length (x ∷ xs) zero a = refl
  set_length (x ∷ xs) (suc i) a = ap suc (set_length xs i a)

-- ---- what an actor keeps while others step

module _ (old new : PortsValue) (keeps : KeepsRow old new) where
  call_later : (c : CoreValue) (call : Option (OpenCall PortRequest)) → HasCall (whole_of old) c call → HasCall (whole_of new) c call
  call_later c None h = h
  call_later c (Some call) h = record { turn = h.turn; no_value = h.no_value; key = h.key; adds = adds_weaker (IsPartOf (whole_of old)) (IsPartOf (whole_of new)) (λ front part. part_kept old new front keeps part) call.turn h.adds; not_lost = h.not_lost; drops = h.drops }

  module _ {A C : Type 0} (longer : HoldsInLonger) (next : Next) (count : ℕ) where
    actor_later : (actor : Actor A C) → IsActor next (whole_of old) count actor → IsActor next (whole_of new) count actor
    actor_later (Idle objects) h = h
    actor_later (Reading o) h = record {
      seen = part_kept old new o.txn.core.seen keeps h.seen;
      nodes = h.nodes;
      call = call_later o.txn.core o.call h.call;
    }
    actor_later (Writing o) h = record {
      fits = h.fits;
      holds = longer next old.database.history new.database.history o.registry o.core keeps.longer h.holds;
      call = h.call;
    }
    actor_later (Leaving objects stamp) h = h

    pub there_later : (slot : Option (Actor A C)) → IsActorThere next (whole_of old) count slot → IsActorThere next (whole_of new) count slot
    there_later None h = h
    there_later (Some actor) h = actor_later actor h

-- ---- a step

module _ {A C : Type 0} (longer : HoldsInLonger) (next : Next) (settings : WorldSettings) (ports new : PortsValue) (floors : List ℕ) (actors : List (Option (Actor A C))) where
  still_there : IsWorld next settings ports floors actors → KeepsRow ports new → All (IsActorThere next (whole_of new) settings.nodes) actors
  still_there h keeps =
      All-weaker (IsActorThere next (whole_of ports) settings.nodes) (IsActorThere next (whole_of new) settings.nodes) (there_later ports new keeps longer next settings.nodes) actors h.there

  -- the keeper steps
  pub world_keeps : IsWorld next settings ports floors actors → KeepsRow ports new → IsWorld next settings new floors actors
  world_keeps h keeps = record {
    nodes = keeps.count ∙ h.nodes;
    some = h.some;
    passes = h.passes ∙ sym keeps.actors;
    sessions = h.sessions;
    there = still_there h keeps;
  }

  -- an actor steps
  pub world_acts : (number floor : ℕ) (actor' : Actor A C) → IsWorld next settings ports floors actors → KeepsRow ports new → IsActor next (whole_of new) (length new.nodes) actor'
      → IsWorld next settings new (slice_set floors number floor) (slice_set actors number (Some actor'))
  world_acts number floor actor' h keeps kept =
      let same : length new.nodes ≡ settings.nodes = keeps.count ∙ h.nodes in
      record {
        nodes = same;
        some = h.some;
        passes = set_length actors number (Some actor') ∙ h.passes ∙ sym keeps.actors;
        sessions = set_length floors number floor ∙ h.sessions ∙ sym (set_length actors number (Some actor'));
        there = All-set (IsActorThere next (whole_of new) settings.nodes) actors number (Some actor') (subst (λ (n : ℕ). IsActor next (whole_of new) n actor') same kept)
            (still_there h keeps);
      }

-- ---- what is shown of an actor's step

module _ {A C : Type 0} (settings : WorldSettings) (ports : PortsValue) (floors : List ℕ) (actors : List (Option (Actor A C))) (number : ℕ) (actor : Actor A C)
    (is : slice_get actors number ≡ Some (Some actor)) where
  pub observed_there : slice_get (told_of settings ports floors actors).actors number ≡ Some (observed_of actor)
  observed_there = slice_get-map observed_at actors number ∙ ap (λ (o : Option (Option (Actor A C))). option_map observed_at o) is

  -- what is seen of the world after the step is what is shown
  pub told_act : (new : PortsValue) (floors' : List ℕ) (actors' : List (Option (Actor A C))) (actor' : Actor A C) (act : ActorStep) (reply : Reply) (now : Observation)
      → floors' ≡ slice_set floors number (floor_by reply (floor_at floors number))
      → actors' ≡ slice_set actors number (Some actor')
      → observed_of actor' ≡ observed_after act reply (observed_of actor)
      → new.database.history ≡ act_in act reply (observed_of actor) ports.database.history → new.spare ≡ ports.spare
      → told_of settings ports floors actors ≡ now → told_of settings new floors' actors' ≡ after now (steps.Actor number act) reply
  told_act new floors' actors' actor' act reply now noted put observed history spare shows =
      let told : told_of settings new floors' actors' ≡ after (told_of settings ports floors actors) (steps.Actor number act) reply =
      rw (noted, put, observed_there, history, spare, map-set observed_at actors number (Some actor'), observed) refl
      in told ∙ ap (λ (t : Observation). after t (steps.Actor number act) reply) shows

  pub due_act : (act : ActorStep) (reply : Reply) (now : Observation) → IsActDue (observed_of actor) act reply → told_of settings ports floors actors ≡ now
      → IsDue now (steps.Actor number act) reply
  due_act act reply now h shows =
      let due : IsDue (told_of settings ports floors actors) (steps.Actor number act) reply = rw observed_there h in
      subst (λ (t : Observation). IsDue t (steps.Actor number act) reply) shows due

  pub explained_act : (next : Next) (new : PortsValue) (act : ActorStep) (reply : Reply) (now : Observation)
      → ReplyExplains next new.database.history (length ports.database.history) (observed_of actor) reply
      → told_of settings ports floors actors ≡ now → IsExplainedIn next new.database.history now (steps.Actor number act) reply
  explained_act next new act reply now h shows =
      let explained : IsExplainedIn next new.database.history (told_of settings ports floors actors) (steps.Actor number act) reply = rw observed_there h in
      subst (λ (t : Observation). IsExplainedIn next new.database.history t (steps.Actor number act) reply) shows explained

-- ---- what is shown of the keeper's step

module _ {A C : Type 0} (settings : WorldSettings) (ports : PortsValue) (floors : List ℕ) (actors : List (Option (Actor A C))) where
  pub told_keep : (new : PortsValue) (keep : KeeperStep) (reply : Reply) (now : Observation) → new.database.history ≡ keep_in keep reply ports.database.history
      → stamps_of_pins new.spare ≡ spare_after keep reply (stamps_of_pins ports.spare) → told_of settings ports floors actors ≡ now
      → told_of settings new floors actors ≡ after now (steps.Keeper keep) reply
  told_keep new keep reply now history spare shows =
      let told : told_of settings new floors actors ≡ after (told_of settings ports floors actors) (steps.Keeper keep) reply =
      λ i. record { settings = settings; history = history i; spare = spare i; floors = floors; actors = map observed_at actors }
      in told ∙ ap (λ (t : Observation). after t (steps.Keeper keep) reply) shows

  pub due_keep : (keep : KeeperStep) (reply : Reply) (now : Observation) → length ports.nodes ≡ settings.nodes → IsKeepDue (length ports.nodes) (stamps_of_pins ports.spare) keep reply
      → told_of settings ports floors actors ≡ now → IsDue now (steps.Keeper keep) reply
  due_keep keep reply now nodes due shows =
      subst (λ (t : Observation). IsDue t (steps.Keeper keep) reply) shows (subst (λ (n : ℕ). IsKeepDue n (stamps_of_pins ports.spare) keep reply) nodes due)
