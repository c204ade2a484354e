-- What stays in balance over a world and over a list of steps.
use Rattle.std.proofs.Common.{◌≡◌, ◌∙◌, ℕ, ◌+◌, ◌<◌, ◌≤◌, List, [], ◌∷◌, ◌++◌, length, map, Option, Some, refl, ap, sym, subst, arith, slice_get, slice_set, take, get_or, add-one, length-take-le}
use Rattle.std.proofs.Math.Seq.{take-length, take-suc}
use Rattle.std.specs.Prelude.{sum_by}
use Rattle.std.proofs.lemmas.List.Sums.{sum_by-cons}
use Rattle.std.proofs.lemmas.Option.{slice_get-map}
use Rattle.std.proofs.lemmas.List.{map-set}
use Rattle.std.specs.Option.{option_map}
use Rattle.txc_cushion.specs.Entries.{stamps_of, times}
use Rattle.txc_world.specs.declared.actor.Actor.{Actor}
use Rattle.txc_world.specs.declared.reply.Reply.{Reply}
use Rattle.txc_world.specs.declared.settings.WorldSettings.{WorldSettings}
use Rattle.txc_world.specs.declared.step.Step.{Step}
use Rattle.txc_world.specs.Ports.{PortsValue}
use Rattle.txc_world.specs.KeeperAtPorts.{stamps_of_pins}
use Rattle.txc_world.specs.Holdings.{account_at, account_of, holdings_of, nothing, Account, ActCounts, CountRight, HasLost, TakesOnlyItsOwn}
use Rattle.txc_world.specs.Tidy.{nothing_in_hand, in_hand_after, in_hand_by, AreBalanced, AreTidy, IsTidy, LoseNoSnapshot, LosesNoSnapshot, LosesNothing, InHand}
use Rattle.txc_world.specs.Worlds.{value_of_world, IsBalanced, WorldValue}
use Rattle.txc_world.proofs.Losing.{reply_so}
use Rattle.txc_world.proofs.Paired.{paired}
use Rattle.txc_world.proofs.Times.{sum_at, sum_set}

-- ---- a new world

module _ {A C X : Type 0} (start : X → Option (Actor A C)) (starts : (x : X) → account_at (start x) ≡ nothing) where
  none_have : (count : Account → ℕ) → count nothing ≡ 0 → (xs : List X) → sum_by count (map account_at (map start xs)) ≡ 0
  none_have count none [] = refl
  none_have count none (x ∷ xs) =
      let all = sum_by-cons count (account_at (start x)) (map account_at (map start xs)) in
      let first = ap count (starts x) in
      let rest = none_have count none xs in
      omega (arith, all, first, rest, none)

  pub new_balanced : (settings : WorldSettings) (ports : PortsValue) (floors : List ℕ) (actors : List (Option (Actor A C))) (xs : List X)
      → ports.database.holds ≡ [] → ports.cushion.entries ≡ [] → ports.spare ≡ [] → actors ≡ map start xs → IsBalanced (value_of_world settings ports floors actors) nothing_in_hand
  new_balanced settings ports floors actors xs holds entries spare is = rw (holds, entries, spare, is) (record {
    held = λ t. let none = none_have (λ (a : Account). times t a.own) refl xs in omega (arith, none);
    used = λ t. let none = none_have (λ (a : Account). times t a.taken) refl xs in omega (arith, none);
  })

-- ---- an actor steps

module _ (old new : PortsValue) (accounts : List Account) (number : ℕ) (before after : Account) (there : slice_get accounts number ≡ Some before) (spare : List ℕ) (in_hand : InHand) where
  acts_balanced : TakesOnlyItsOwn old new before after → AreBalanced spare (holdings_of old accounts) in_hand → AreBalanced spare (holdings_of new (slice_set accounts number after)) in_hand
  acts_balanced own_only h = record {
    held = λ t.
        let a = h.held t in
        let b = own_only.holds t in
        let c = sum_set (λ (x : Account). times t x.own) accounts number before after there in
        omega (arith, a, b, c);
    used = λ t.
        let a = h.used t in
        let b = own_only.users t in
        let c = sum_set (λ (x : Account). times t x.taken) accounts number before after there in
        omega (arith, a, b, c);
  }

  -- what an actor has is held
  none_lost : CountRight old → AreBalanced spare (holdings_of old accounts) in_hand → HasLost old before → ⊥
  none_lost right h lost =
      let t = lost.stamp in
      let a = h.held t in
      let b = h.used t in
      let c = sum_at (λ (x : Account). times t x.own) accounts number before there in
      let d = sum_at (λ (x : Account). times t x.taken) accounts number before there in
      let e = lost.had in
      let gone = lost.lost in
      let once = right.once old.cushion t right.cushion in
      let pins : times t (stamps_of old.cushion.entries) ≡ 0 = omega (arith, a, gone) in
      let users = once.1 pins in
      omega (arith, a, b, c, d, e, gone, users)

  loses_nothing : (reply : Reply) → CountRight old → AreBalanced spare (holdings_of old accounts) in_hand → ActCounts old new before after reply → LosesNothing reply
  loses_nothing reply right h counts = reply_so (HasLost old before) ⊥ (none_lost right h) reply counts.loss

module _ {A C : Type 0} (settings : WorldSettings) (old new : PortsValue) (floors floors' : List ℕ) (actors : List (Option (Actor A C))) (number : ℕ) (actor actor' : Actor A C)
    (is : slice_get actors number ≡ Some (Some actor)) where
  account_there : slice_get (map account_at actors) number ≡ Some (account_of actor)
  account_there = slice_get-map account_at actors number ∙ ap (λ (o : Option (Option (Actor A C))). option_map account_at o) is

  pub world_balanced : (actors' : List (Option (Actor A C))) (was now : WorldValue) (reply : Reply) (in_hand : InHand)
      → actors' ≡ slice_set actors number (Some actor') → new.spare ≡ old.spare → CountRight old
      → ActCounts old new (account_of actor) (account_of actor') reply
      → value_of_world settings old floors actors ≡ was → value_of_world settings new floors' actors' ≡ now → IsBalanced was in_hand → IsBalanced now in_hand × LosesNothing reply
  world_balanced actors' was now reply in_hand put spare right counts shows shows' h =
      let h' = subst (λ (w : WorldValue). IsBalanced w in_hand) (sym shows) h in
      let b = acts_balanced old new (map account_at actors) number (account_of actor) (account_of actor') account_there (stamps_of_pins old.spare) in_hand counts.own_only h' in (
        subst (λ (w : WorldValue). IsBalanced w in_hand) shows' (rw (put, spare, map-set account_at actors number (Some actor')) b),
        loses_nothing old new (map account_at actors) number (account_of actor) (account_of actor') account_there (stamps_of_pins old.spare) in_hand reply right h' counts,
      )

-- ---- one more step and its reply

pub tidy_first : (in_hand : InHand) (steps : List Step) (replies : List Reply) (step : Step) (reply : Reply) → length replies ≡ length steps
    → AreTidy in_hand (steps ++ step ∷ []) (replies ++ reply ∷ []) → AreTidy in_hand steps replies × IsTidy step reply (in_hand_by in_hand steps replies)
tidy_first in_hand steps replies step reply e = paired
    (λ (ss : List Step) (rs : List Reply). (in_hand : InHand) → AreTidy in_hand (ss ++ step ∷ []) (rs ++ reply ∷ []) → AreTidy in_hand ss rs × IsTidy step reply (in_hand_by in_hand ss rs))
    (λ in_hand h. (tt, h.0))
    (λ s ss r rs more in_hand h. let rest = more (in_hand_after s r in_hand) h.1 in ((h.0, rest.0), rest.1)) steps replies e in_hand

pub in_hand_more : (in_hand : InHand) (steps : List Step) (replies : List Reply) (step : Step) (reply : Reply) → length replies ≡ length steps
    → in_hand_by in_hand (steps ++ step ∷ []) (replies ++ reply ∷ []) ≡ in_hand_after step reply (in_hand_by in_hand steps replies)
in_hand_more in_hand steps replies step reply e = paired
    (λ (ss : List Step) (rs : List Reply). (in_hand : InHand) → in_hand_by in_hand (ss ++ step ∷ []) (rs ++ reply ∷ []) ≡ in_hand_after step reply (in_hand_by in_hand ss rs))
    (λ in_hand. refl)
    (λ s ss r rs more in_hand. more (in_hand_after s r in_hand)) steps replies e in_hand

pub lose_more : (steps : List Step) (replies : List Reply) (step : Step) (reply : Reply) → length replies ≡ length steps
    → LoseNoSnapshot steps replies → LosesNoSnapshot step reply → LoseNoSnapshot (steps ++ step ∷ []) (replies ++ reply ∷ [])
lose_more steps replies step reply e = paired
    (λ (ss : List Step) (rs : List Reply). LoseNoSnapshot ss rs → LosesNoSnapshot step reply → LoseNoSnapshot (ss ++ step ∷ []) (rs ++ reply ∷ []))
    (λ h k. (k, tt))
    (λ s ss r rs more h k. (h.0, more h.1 k)) steps replies e

-- ---- the loop over the steps

-- each list that is tidy leaves each what is its own, and loses no snapshot
abbrev pub StaysBalanced : WorldValue → WorldValue → List Step → List Reply → Type 0
StaysBalanced start now steps replies = (in_hand : InHand) → IsBalanced start in_hand → AreTidy in_hand steps replies
    → IsBalanced now (in_hand_by in_hand steps replies) × LoseNoSnapshot steps replies

module _ (steps : List Step) (i : ℕ) (step : Step) (within : i < length steps) where
  one_more : step ≡ get_or steps i step → take (i + 1) steps ≡ take i steps ++ step ∷ []
  one_more is = ap (λ n. take n steps) (add-one i) ∙ take-suc steps i step within ∙ ap (λ s. take i steps ++ s ∷ []) (sym is)

  as_many : (replies : List Reply) → length replies ≡ i → length replies ≡ length (take i steps)
  as_many replies even = let less : i ≤ length steps = omega (arith, within) in let long = length-take-le i steps less in even ∙ sym long

  pub loop_tidy : (replies : List Reply) (reply : Reply) → step ≡ get_or steps i step → length replies ≡ i
      → (start now new : WorldValue) → StaysBalanced start now (take i steps) replies
      → ((in_hand : InHand) → IsBalanced now in_hand → IsTidy step reply in_hand → IsBalanced new (in_hand_after step reply in_hand) × LosesNoSnapshot step reply)
      → StaysBalanced start new (take (i + 1) steps) (replies ++ reply ∷ [])
  loop_tidy replies reply is even start now new h k = rw (one_more is) (λ in_hand b tidy.
      let long = as_many replies even in
      let parts = tidy_first in_hand (take i steps) replies step reply long tidy in
      let before = h in_hand b parts.0 in
      let last = k (in_hand_by in_hand (take i steps) replies) before.0 parts.1 in (
        subst (IsBalanced new) (sym (in_hand_more in_hand (take i steps) replies step reply long)) last.0,
        lose_more (take i steps) replies step reply long before.1 last.1,
      ))

pub loop_tidy_end : (steps : List Step) (i : ℕ) (replies : List Reply) → length steps ≤ i → i ≤ length steps
    → (start now : WorldValue) → StaysBalanced start now (take i steps) replies → StaysBalanced start now steps replies
loop_tidy_end steps i replies past within start now h =
    let at : i ≡ length steps = omega (arith, past, within) in
    let all : take i steps ≡ steps = ap (λ n. take n steps) at ∙ take-length steps in
    subst (λ (ss : List Step). StaysBalanced start now ss replies) all h
