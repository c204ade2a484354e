-- What is shown of steps one after another.
use Rattle.std.proofs.Common.{◌≡◌, ℕ, ◌+◌, ◌<◌, ◌≤◌, Bool, true, false, List, [], ◌∷◌, ◌++◌, length, Some, None, Option, refl, sym, subst, ap, ◌∙◌, take, get_or, add-one, arith, length-take, length-take-le, length-append, slice_get, ◌⊎◌, inl, inr}
use Rattle.std.proofs.Math.Seq.{take-suc, take-length}
use Rattle.std.specs.Prelude.{if◌then◌else◌, nat_lt, MatchOption}
use mathlib.Core.List.{IsPrefix}
use Rattle.txc_rows.specs.States.{State}
use Rattle.txc_rows.specs.declared.query.Change.{Change}
use Rattle.txc_txn_rw.specs.Answers.{AreRightIn}
use Rattle.txc_txn_rw.specs.Outcomes.{HasChanged, HasChangedNothing}
use Rattle.txc_db.specs.History.{History, commit_event, pin_event, state_at}
use Rattle.txc_cushion.specs.declared.pin.Pin.{Pin}
use Rattle.txc_app.specs.Eval.{Next}
use Rattle.txc_world.specs.declared.step.ActorStep.{ActorStep}
use Rattle.txc_world.specs.declared.step.ActorStep.TheVariants.{Request, Commit}
use Rattle.txc_world.specs.declared.step.KeeperStep.{KeeperStep}
use Rattle.txc_world.specs.declared.step.KeeperStep.TheVariants as keeps
use Rattle.txc_world.specs.declared.step.Step.{Step}
use Rattle.txc_world.specs.declared.step.Step.TheVariants.{Actor, BeginIn, Keeper}
use Rattle.txc_world.specs.declared.port_outcome.PortOutcome.{PortOutcome}
use Rattle.txc_world.specs.declared.port_outcome.PortOutcome.TheVariants as dids
use Rattle.txc_world.specs.declared.reply.Reply.{Reply}
use Rattle.txc_world.specs.declared.reply.Reply.TheVariants as replies
use Rattle.txc_world.specs.Observation.{Writing, ObservedActor, reading, writing, Observation, act_in, act_at, after, begin_at, commit_in, floor_at, did_in, keep_in, observed_from, AreDue, AreExplained, AreExplainedIn, CommitExplains, CommitMakes, IsCommitOf, IsDue, IsExplainedIn, IsNoCommit, IsReceiptOfActor, ReplyExplains}
use Rattle.txc_stream.proofs.Offered.{prefix_self, prefix_take, prefix_trans}
use Rattle.txc_world.proofs.Explaining.{explained_later, state_later}
use Rattle.txc_world.proofs.Paired.{paired}

-- ---- one more step and its reply

pub told_more : (told : Observation) (steps : List Step) (replies : List Reply) (step : Step) (reply : Reply) → length replies ≡ length steps
    → observed_from told (steps ++ step ∷ []) (replies ++ reply ∷ []) ≡ after (observed_from told steps replies) step reply
told_more told steps replies step reply e = paired
    (λ (ss : List Step) (rs : List Reply). (told : Observation) → observed_from told (ss ++ step ∷ []) (rs ++ reply ∷ []) ≡ after (observed_from told ss rs) step reply)
    (λ told. refl)
    (λ s ss r rs more told. more (after told s r)) steps replies e told

pub explained_more : (next : Next) (told : Observation) (steps : List Step) (replies : List Reply) (step : Step) (reply : Reply)
    → length replies ≡ length steps → AreExplained next told steps replies
    → IsExplainedIn next (after (observed_from told steps replies) step reply).history (observed_from told steps replies) step reply
    → AreExplained next told (steps ++ step ∷ []) (replies ++ reply ∷ [])
explained_more next told steps replies step reply e = paired
    (λ (ss : List Step) (rs : List Reply). (told : Observation) → AreExplained next told ss rs → IsExplainedIn next (after (observed_from told ss rs) step reply).history (observed_from told ss rs) step reply
    → AreExplained next told (ss ++ step ∷ []) (rs ++ reply ∷ []))
    (λ told h k. (k, tt))
    (λ s ss r rs more told h k. (h.0, more (after told s r) h.1 k)) steps replies e told

pub due_more : (told : Observation) (steps : List Step) (replies : List Reply) (step : Step) (reply : Reply) → length replies ≡ length steps
    → AreDue told steps replies → IsDue (observed_from told steps replies) step reply → AreDue told (steps ++ step ∷ []) (replies ++ reply ∷ [])
due_more told steps replies step reply e = paired
    (λ (ss : List Step) (rs : List Reply). (told : Observation) → AreDue told ss rs → IsDue (observed_from told ss rs) step reply → AreDue told (ss ++ step ∷ []) (rs ++ reply ∷ []))
    (λ told h k. (k, tt))
    (λ s ss r rs more told h k. (h.0, more (after told s r) h.1 k)) steps replies e told

-- ---- the history goes on

did_goes_on : (did : PortOutcome) (now : ℕ) (L : History) → IsPrefix L (did_in did now L)
did_goes_on (dids.Pinned stamp) now L = (pin_event now ∷ [], refl)
did_goes_on did now L = prefix_self L

request_goes_on : (reply : Reply) (observed : ObservedActor) (L : History) → IsPrefix L (act_in Request reply observed L)
request_goes_on (replies.Asked did end) (reading r) L = did_goes_on did r.bounds.now L
request_goes_on reply observed L = prefix_self L

if_goes_on : (L more : History) (b : Bool) → IsPrefix L (if b then L ++ more else L)
if_goes_on L more true = (more, refl)
if_goes_on L more false = prefix_self L

changes_go_on : (changes : List Change) (stamp : ℕ) (L : History) → IsPrefix L (commit_in changes stamp L)
changes_go_on changes stamp L = if_goes_on L (commit_event (state_at L (length L)) changes ∷ []) (nat_lt (length L) stamp)

commit_goes_on : (reply : Reply) (observed : ObservedActor) (L : History) → IsPrefix L (act_in Commit reply observed L)
commit_goes_on (replies.At stamp) (writing w) L = changes_go_on w.changes stamp L
commit_goes_on reply observed L = prefix_self L

act_goes_on : (act : ActorStep) (reply : Reply) (observed : ObservedActor) (L : History) → IsPrefix L (act_in act reply observed L)
act_goes_on Request reply observed L = request_goes_on reply observed L
act_goes_on Commit reply observed L = commit_goes_on reply observed L
act_goes_on act reply observed L = prefix_self L

keep_goes_on : (keep : KeeperStep) (reply : Reply) (L : History) → IsPrefix L (keep_in keep reply L)
keep_goes_on (keeps.Write change) (replies.At stamp) L = changes_go_on (change ∷ []) stamp L
keep_goes_on (keeps.Pin now) (replies.At stamp) L = (pin_event now ∷ [], refl)
keep_goes_on keep reply L = prefix_self L

act_at_goes_on : (number : ℕ) (act : ActorStep) (reply : Reply) (told : Observation) (observed : Option ObservedActor) → IsPrefix told.history (act_at number act reply told observed).history
act_at_goes_on number act reply told None = prefix_self told.history
act_at_goes_on number act reply told (Some observed) = act_goes_on act reply observed told.history

pub after_goes_on : (told : Observation) (step : Step) (reply : Reply) → IsPrefix told.history (after told step reply).history
after_goes_on told (Actor number act) reply = act_at_goes_on number act reply told (slice_get told.actors number)
after_goes_on told (BeginIn number now staleness) reply =
    act_at_goes_on number (begin_at (floor_at told.floors number) now staleness) reply told (slice_get told.actors number)
after_goes_on told (Keeper keep) reply = keep_goes_on keep reply told.history

pub told_goes_on : (told : Observation) (steps : List Step) (replies : List Reply) → IsPrefix told.history (observed_from told steps replies).history
told_goes_on told [] replies = prefix_self told.history
told_goes_on told (s ∷ steps) [] = prefix_self told.history
told_goes_on told (s ∷ steps) (r ∷ replies) =
    let now = after told s r in
    prefix_trans told.history now.history (observed_from now steps replies).history (after_goes_on told s r) (told_goes_on now steps replies)

-- ---- what is explained stays explained

module _ (next : Next) (L M : History) (on : IsPrefix L M) where
  receipt_later : (observed : ObservedActor) (pin : Option Pin) → IsReceiptOfActor next L observed pin → IsReceiptOfActor next M observed pin
  receipt_later (reading r) pin h = explained_later next L M r.bounds pin r.answers on h
  receipt_later observed pin h = h

  module _ (count : ℕ) where
    made_within : (w : Writing) (stamp : ℕ) → CommitMakes next L count w stamp → (stamp ≤ length L) × (count ≤ length L)
    made_within w stamp (inl quiet) =
        let is = quiet.0 in
        let newest = quiet.1.newest in
        let cut = length-take stamp L in
        let within : stamp ≤ length L = omega (arith, newest, cut) in
        (within, omega (arith, is, within))
    made_within w stamp (inr event) =
        let is = event.0 in
        let newest = event.1.newest in
        let cut = length-take stamp L in
        let within : stamp ≤ length L = omega (arith, newest, cut) in
        (within, omega (arith, is, within))

    commit_later : (w : Writing) (stamp : ℕ) → CommitExplains next L count w stamp → CommitExplains next M count w stamp
    commit_later w stamp h =
        let two = made_within w stamp h.made in
        let low = h.within in
        let high = two.1 in
        let known : w.base ≤ length L = omega (arith, low, high) in
        record {
          within = h.within;
          at_base = subst (λ (s : State). AreRightIn next s w.answers) (sym (state_later L M w.base on known)) h.at_base;
          made = subst (λ (K : History). ((stamp ≡ count) × HasChangedNothing next K w.changes w.answers stamp) ⊎ ((stamp ≡ count + 1) × HasChanged next K w.changes w.answers stamp))
              (sym (prefix_take L M stamp on two.0)) h.made;
        }

    stamp_later : (observed : ObservedActor) (stamp : ℕ) → IsCommitOf next L count observed stamp → IsCommitOf next M count observed stamp
    stamp_later (writing w) stamp h = commit_later w stamp h
    stamp_later observed stamp h = h

    reply_later : (observed : ObservedActor) (reply : Reply) → ReplyExplains next L count observed reply → ReplyExplains next M count observed reply
    reply_later observed (replies.Receipt pin) h = receipt_later observed pin h
    reply_later observed (replies.At stamp) h = stamp_later observed stamp h
    reply_later observed reply h = tt

    place_later : (reply : Reply) (observed : Option ObservedActor) → MatchOption observed (IsNoCommit reply) (λ s. ReplyExplains next L count s reply)
        → MatchOption observed (IsNoCommit reply) (λ s. ReplyExplains next M count s reply)
    place_later reply None h = h
    place_later reply (Some observed) h = reply_later observed reply h

  step_later : (told : Observation) (step : Step) (reply : Reply) → IsExplainedIn next L told step reply → IsExplainedIn next M told step reply
  step_later told (Actor number act) reply h = place_later (length told.history) reply (slice_get told.actors number) h
  step_later told (BeginIn number now staleness) reply h = place_later (length told.history) reply (slice_get told.actors number) h
  step_later told (Keeper keep) reply h = h

-- what is explained as it is shown is explained in the whole history
pub whole : (next : Next) (told : Observation) (steps : List Step) (replies : List Reply) → AreExplained next told steps replies
    → AreExplainedIn next (observed_from told steps replies).history told steps replies
whole next told [] replies h = tt
whole next told (s ∷ steps) [] h = tt
whole next told (s ∷ steps) (r ∷ replies) h =
    let now = after told s r in
    let end = (observed_from now steps replies).history in (
      step_later next now.history end (told_goes_on now steps replies) told s r h.0,
      whole next now steps replies h.1,
    )

-- ---- the loop over the steps

module _ (next : Next) (start : Observation) (steps : List Step) (i : ℕ) (replies : List Reply) (step : Step) (reply : Reply)
    (within : i < length steps) (is : step ≡ get_or steps i step) (even : length replies ≡ i) where
  as_long : length replies ≡ length (take i steps)
  as_long = let less : i ≤ length steps = omega (arith, within) in let long = length-take-le i steps less in even ∙ sym long

  next_steps : take (i + 1) steps ≡ take i steps ++ step ∷ []
  next_steps = ap (λ n. take n steps) (add-one i) ∙ take-suc steps i step within ∙ ap (λ s. take i steps ++ s ∷ []) (sym is)

  pub loop_told : (now new : Observation) → now ≡ observed_from start (take i steps) replies → new ≡ after now step reply
      → new ≡ observed_from start (take (i + 1) steps) (replies ++ reply ∷ [])
  loop_told now new h k = rw next_steps (k ∙ ap (λ (t : Observation). after t step reply) h ∙ sym (told_more start (take i steps) replies step reply as_long))

  pub loop_due : (now : Observation) → now ≡ observed_from start (take i steps) replies → AreDue start (take i steps) replies → IsDue now step reply
      → AreDue start (take (i + 1) steps) (replies ++ reply ∷ [])
  loop_due now h e k = rw next_steps (due_more start (take i steps) replies step reply as_long e (subst (λ (t : Observation). IsDue t step reply) h k))

  pub loop_explained : (now new : Observation) → now ≡ observed_from start (take i steps) replies → new ≡ after now step reply → AreExplained next start (take i steps) replies
      → IsExplainedIn next new.history now step reply → AreExplained next start (take (i + 1) steps) (replies ++ reply ∷ [])
  loop_explained now new h k e x =
      let now_after : IsExplainedIn next (after now step reply).history now step reply = subst (λ (t : Observation). IsExplainedIn next t.history now step reply) k x in
      rw next_steps (explained_more next start (take i steps) replies step reply as_long e
      (subst (λ (t : Observation). IsExplainedIn next (after t step reply).history t step reply) h now_after))

pub length_more : (replies : List Reply) (reply : Reply) (i : ℕ) → length replies ≡ i → length (replies ++ reply ∷ []) ≡ i + 1
length_more replies reply i e = length-append replies (reply ∷ []) ∙ ap (λ n. n + 1) e

-- at the end of the loop all are taken
pub steps_done : (steps : List Step) (i : ℕ) → length steps ≤ i → i ≤ length steps → take i steps ≡ steps
steps_done steps i past within =
    let at : i ≡ length steps = omega (arith, past, within) in
    ap (λ n. take n steps) at ∙ take-length steps

pub loop_whole : (next : Next) (start : Observation) (steps : List Step) (i : ℕ) (replies : List Reply) (now : Observation) → length steps ≤ i → i ≤ length steps
    → now ≡ observed_from start (take i steps) replies → AreExplained next start (take i steps) replies → AreExplainedIn next now.history start steps replies
loop_whole next start steps i replies now past within is e =
    let all = steps_done steps i past within in
    let e' = subst (λ (ss : List Step). AreExplained next start ss replies) all e in
    let is' : now ≡ observed_from start steps replies = is ∙ ap (λ (ss : List Step). observed_from start ss replies) all in
    rw is' (whole next start steps replies e')
