-- What the last request of an act leaves.
use Rattle.std.proofs.Common.{◌≡◌, ◌≢◌, ◌∙◌, ℕ, List, [], ◌∷◌, Option, Some, None, Ok, Err, inl, inr, refl, ap, sym, subst}
use Rattle.std.specs.Prelude.{IfSome, Result}
use Rattle.txc_tags.specs.Keys.{Call}
use Rattle.txc_cushion.specs.declared.pin.Pin.{Pin}
use Rattle.txc_db.specs.declared.answered.Answered.{Answered}
use Rattle.txc_node.specs.declared.hit.HitValue.{HitValue}
use Rattle.txc_pinset.specs.Members.{kept, PinSetValue}
use Rattle.txc_call_registry.specs.Objects.{numbers_of}
use Rattle.txc_shared.specs.Nodes.{NodeValue}
use Rattle.txc_call.specs.Needs.{ReplyFits}
use Rattle.txc_call.specs.CallSteps.{need_after, value_need, NeedsFunction}
use Rattle.txc_call.specs.MachineTurn.{outcome_of, rows_held, value_held}
use Rattle.txc_call.specs.declared.frame.Frame.{Frame}
use Rattle.txc_call.specs.declared.need.Need.{Need}
use Rattle.txc_call.specs.declared.need.Need.TheVariants as needs
use Rattle.txc_call.specs.declared.need.Outcome.{Outcome}
use Rattle.txc_call.specs.declared.reply.Reply.{Reply}
use Rattle.txc_call.specs.declared.reply.Reply.TheVariants as replies
use Rattle.txc_txn_ports.specs.Turns.{PortTurn, IsAsk}
use Rattle.txc_txn_ports.specs.declared.error.TxnError.{TxnError}
use Rattle.txc_txn_ports.specs.declared.request.PortRequest.{PortRequest}
use Rattle.txc_txn_ports.specs.declared.request.PortRequest.TheVariants as requests
use Rattle.txc_txn_ports.specs.declared.reply.PortReply.{PortReply}
use Rattle.txc_txn_ports.specs.declared.reply.PortReply.TheVariants as ports
use Rattle.txc_txn_ports.specs.declared.turn.Turn.TheVariants.{Ask, Ended}
use Rattle.txc_txn.specs.ByHand.{HandTurn, HasGoneOnByHand, HearTransition, HitByHand, IsHandTurn, ObjectsLeft, RestsAfter, TakeTransition}
use Rattle.txc_txn.specs.TxnCore.{CoreAsks, CoreValue, IsAnswered, PinsAfter}
use Rattle.txc_txn.specs.RunningTxn.{TxnValue}
use Rattle.txc_caller.specs.NodeLookup.{HasLookedUp, HasMissed, IsLookedUp, IsMiss}
use Rattle.txc_caller.specs.ActRequests.{pins_to_come, HasMadeRequest, IsHeldFor, NeedsAfter, WaitsForCall}
use Rattle.txc_caller.proofs.Requests.{both_pinning, keeps_heard, keeps_self, objects_heard, of_call_heard}

-- a request that is not about the pin is made while none is under way
pub not_pinning : (c : CoreValue) (request : PortRequest) → CoreAsks c request → pins_to_come (Some (Ask request)) ≡ 0 → c.pinning ≡ None
not_pinning c (requests.Pin now at_least) asks last = absurd (cc last)
not_pinning c (requests.AddPin pinned) asks last = absurd (cc last)
not_pinning c (requests.Unpin stamp) asks last = absurd (cc last)
not_pinning c (requests.Lookup node key lo hi) asks last = asks.0.0
not_pinning c (requests.Query query stamp) asks last = asks.0.0
not_pinning c (requests.Insert node entry) asks last = asks.0.0

module _ (old new : CoreValue) where
  take_none : (turn : HandTurn) (need : Need) (reply : Reply) → turn ≡ None → TakeTransition old need reply new turn
      → (new.call.frames ≡ old.call.frames) × (new.call.need ≡ Some (need_after old.call.frames need reply))
  take_none turn need reply none transition =
      let h = subst (λ (t : HandTurn). TakeTransition old need reply new t) none transition [] in (h.0, h.2)

  value_after : (frames : List Frame) (o : Outcome) (need : Option Need) → need ≡ Some (value_need frames o) → IsHeldFor old.call.need (value_held o) → NeedsAfter old need
  value_after [] o need is held = subst (NeedsAfter old) (sym is) tt
  value_after (frame ∷ frames) o need is held = subst (NeedsAfter old) (sym is) held

  needs_after : (need : Need) (reply : Reply) → old.call.need ≡ Some need → ReplyFits need reply
      → new.call.need ≡ Some (need_after old.call.frames need reply) → NeedsAfter old new.call.need
  needs_after (needs.Lookup k) replies.Miss was fits is = subst (NeedsAfter old) (sym is) (inl was)
  needs_after (needs.Lookup k) (replies.Hit hit) was fits is =
      let o = outcome_of k hit.value hit.reach hit.tags in
      value_after old.call.frames o new.call.need is (subst (λ (n : Option Need). IsHeldFor n (value_held o)) (sym was) tt)
  needs_after (needs.Query q) (replies.Found found) was fits is =
      subst (NeedsAfter old) (sym is) (subst (λ (n : Option Need). IsHeldFor n (rows_held found)) (sym was) tt)
  needs_after (needs.Insert e) replies.Inserted was fits is =
      let o = outcome_of e.key e.value e.reach e.tags in
      value_after old.call.frames o new.call.need is (subst (λ (n : Option Need). IsHeldFor n (value_held o)) (sym was) refl)
  needs_after need reply was fits is = absurd fits

-- a value is given to a function that continues, or to none
no_begin : (frames : List Frame) (o : Outcome) (k : Call) → value_need frames o ≢ needs.Begin k
no_begin [] o k is = absurd (cc is)
no_begin (frame ∷ frames) o k is = absurd (cc is)

-- ---- a request is made

module _ (old new : CoreValue) (turn : HandTurn) (none : turn ≡ None) where
  -- what is needed next, and among which frames
  abbrev GoesOn : Type 0
  GoesOn = (new.call.frames ≡ old.call.frames) × NeedsAfter old new.call.need

  taken : (need : Need) (reply : Reply) → old.call.need ≡ Some need → ReplyFits need reply → TakeTransition old need reply new turn → GoesOn
  taken need reply was fits transition = let h = take_none old new turn need reply none transition in (h.0, needs_after old new need reply was fits h.1)

  hit_taken : (k : Call) (hit : HitValue) (members : List Pin) → kept hit.reach old.pins.members ≡ members → old.call.need ≡ Some (needs.Lookup k) → HitByHand old k hit new turn → GoesOn
  hit_taken k hit [] is was by = taken (needs.Lookup k) replies.Miss was tt (by.none is)
  hit_taken k hit (m ∷ ms) is was by = taken (needs.Lookup k) (replies.Hit hit) was tt (by.held (λ no. let one : m ∷ ms ≡ [] = sym is ∙ no in absurd (cc one)))

  ended_none : {X : Type 0} (t : PortTurn) → turn ≡ Some t → X
  ended_none t is = let no : None ≡ Some t = sym none ∙ is in absurd (cc no)

  goes_on : (reply : PortReply) → old.pinning ≡ None → IsAnswered old reply → HearTransition old reply new turn → GoesOn
  goes_on (ports.Pin (Ok pinned)) free to transition = absurd (both_pinning old _ to.0 free)
  goes_on (ports.Pin (Err error)) free to transition = absurd (both_pinning old _ to free)
  goes_on (ports.AddPin pinned added) free to transition = absurd (both_pinning old _ to free)
  goes_on (ports.Unpin unpinned) free to transition = absurd (both_pinning old _ to.2 free)
  goes_on (ports.Lookup None) free to transition = taken (needs.Lookup to.0) replies.Miss to.1.1 tt (transition to.0 to.1.1)
  goes_on (ports.Lookup (Some hit)) free to transition = hit_taken to.0 hit.answer _ refl to.1.1 (transition to.0 to.1.1)
  goes_on (ports.Query (Ok found)) free to transition = taken (needs.Query to.0) (replies.Found found.answer) to.1.1 tt (transition to.0 to.1.1)
  goes_on (ports.Query (Err error)) free to transition = ended_none _ transition
  goes_on (ports.Insert stored) free to transition = taken (needs.Insert to.0) replies.Inserted to.1.1 tt (transition to.0 to.1.1)

  -- ---- a function begins

  module _ (k : Call) (begins : new.call.need ≡ Some (needs.Begin k)) (before after : NodeValue) where
    not_taken : {X : Type 0} (frames : List Frame) (o : Outcome) → new.call.need ≡ Some (value_need frames o) → X
    not_taken frames o is = absurd (no_begin frames o k (let one : Some (value_need frames o) ≡ Some (needs.Begin k) = sym is ∙ begins in cc one))

    missed_so : (j : Call) (hit : Option (Answered HitValue)) → HasLookedUp old.pins.members j before after hit → IsMiss old.pins.members hit → new.pins ≡ old.pins → new.call.need ≡ Some (needs.Begin j)
        → HasMissed new.pins.members k before after
    missed_so j hit looked_up miss pins is =
        let one : Some (needs.Begin j) ≡ Some (needs.Begin k) = sym is ∙ begins in
        let same : j ≡ k = cc one in
        subst (λ (i : Call). HasMissed new.pins.members i before after) same
        (subst (λ (p : PinSetValue). HasMissed p.members j before after) (sym pins) (record { hit = hit; looked_up = looked_up; none = miss }))

    hit_missed : (j : Call) (hit : Answered HitValue) (members : List Pin) → kept hit.answer.reach old.pins.members ≡ members → old.call.need ≡ Some (needs.Lookup j)
        → HasLookedUp old.pins.members j before after (Some hit) → PinsAfter old (ports.Lookup (Some hit)) new.pins → HitByHand old j hit.answer new turn
        → HasMissed new.pins.members k before after
    hit_missed j hit [] is was looked_up pins by =
        missed_so j (Some hit) looked_up is (pins.none is) (take_none old new turn (needs.Lookup j) replies.Miss none (by.none is)).1
    hit_missed j hit (m ∷ ms) is was looked_up pins by =
        not_taken old.call.frames (outcome_of j hit.answer.value hit.answer.reach hit.answer.tags)
        (take_none old new turn (needs.Lookup j) (replies.Hit hit.answer) none (by.held (λ no. let one : m ∷ ms ≡ [] = sym is ∙ no in absurd (cc one)))).1

    -- only after a miss
    missed : (reply : PortReply) → old.pinning ≡ None → IsAnswered old reply → HearTransition old reply new turn → PinsAfter old reply new.pins
        → IsLookedUp old before after reply → HasMissed new.pins.members k before after
    missed (ports.Pin (Ok pinned)) free to transition pins looked_up = absurd (both_pinning old _ to.0 free)
    missed (ports.Pin (Err error)) free to transition pins looked_up = absurd (both_pinning old _ to free)
    missed (ports.AddPin pinned added) free to transition pins looked_up = absurd (both_pinning old _ to free)
    missed (ports.Unpin unpinned) free to transition pins looked_up = absurd (both_pinning old _ to.2 free)
    missed (ports.Lookup None) free to transition pins looked_up =
        missed_so looked_up.0 None looked_up.2 tt pins (take_none old new turn (needs.Lookup looked_up.0) replies.Miss none (transition looked_up.0 looked_up.1)).1
    missed (ports.Lookup (Some hit)) free to transition pins looked_up =
        hit_missed looked_up.0 hit _ refl looked_up.1 looked_up.2 pins (transition looked_up.0 looked_up.1)
    missed (ports.Query (Ok found)) free to transition pins looked_up =
        let h = (take_none old new turn (needs.Query to.0) (replies.Found found.answer) none (transition to.0 to.1.1)).1 in
        let no : Some (needs.Resume (rows_held found.answer)) ≡ Some (needs.Begin k) = sym h ∙ begins in absurd (cc no)
    missed (ports.Query (Err error)) free to transition pins looked_up = ended_none _ transition
    missed (ports.Insert stored) free to transition pins looked_up =
        not_taken old.call.frames (outcome_of to.0.key to.0.value to.0.reach to.0.tags)
        (take_none old new turn (needs.Insert to.0) replies.Inserted none (transition to.0 to.1.1)).1

-- nothing is asked after it
rests_so : (c : CoreValue) (reply : PortReply) (turn : HandTurn) → c.pinning ≡ None → IsAnswered c reply → RestsAfter reply turn → IfSome turn (λ (t : PortTurn). ¬ (IsAsk t))
rests_so c (ports.Pin (Ok pinned)) turn free to rests = absurd (both_pinning c _ to.0 free)
rests_so c (ports.Pin (Err error)) turn free to rests = absurd (both_pinning c _ to free)
rests_so c (ports.AddPin pinned added) turn free to rests = absurd (both_pinning c _ to free)
rests_so c (ports.Unpin unpinned) turn free to rests = absurd (both_pinning c _ to.2 free)
rests_so c (ports.Lookup hit) turn free to rests = rests
rests_so c (ports.Query found) turn free to rests = rests
rests_so c (ports.Insert stored) turn free to rests = rests

-- the last request was made, and gone on with
pub made_heard : (old new : TxnValue) (request : PortRequest) (reply : PortReply) (turn : HandTurn) → HasGoneOnByHand old.core reply new.core turn
    → ObjectsLeft old.objects turn new.objects → numbers_of new.objects ≡ numbers_of old.objects → CoreAsks old.core request
    → pins_to_come (Some (Ask request)) ≡ 0 → IsAnswered old.core reply → HasMadeRequest old (Some (Ask request)) new turn
made_heard old new request reply turn gone left functions asks last to =
    let free = not_pinning old.core request asks last in
    record {
      fits = gone.turn_fits;
      rests = rests_so old.core reply turn free to gone.rests;
      of_call = λ before k h. of_call_heard old.core new.core reply turn gone before k (h.begins tt) h.recorded;
      keeps = keeps_heard old new reply turn functions gone;
      objects = objects_heard request turn old.objects new.objects left;
      unended = λ none. tt;
      frames = λ none. (goes_on old.core new.core turn none reply free to gone.transition).0;
      needs = λ none. (goes_on old.core new.core turn none reply free to gone.transition).1;
    }

pub missed_heard : (old new : TxnValue) (request : PortRequest) (reply : PortReply) (turn : HandTurn) → HasGoneOnByHand old.core reply new.core turn
    → CoreAsks old.core request → pins_to_come (Some (Ask request)) ≡ 0 → IsAnswered old.core reply → (before after : NodeValue)
    → IsLookedUp old.core before after reply → (k : Call) → turn ≡ None → new.core.call.need ≡ Some (needs.Begin k) → HasMissed new.core.pins.members k before after
missed_heard old new request reply turn gone asks last to before after looked_up k none begins =
    missed old.core new.core turn none k begins before after reply (not_pinning old.core request asks last) to gone.transition gone.pins looked_up

-- ---- nothing is asked

held_same : (c : CoreValue) (need : Option Need) → c.call.need ≡ need → ((k : Call) → need ≢ Some (needs.Begin k)) → NeedsAfter c need
held_same c None is other = tt
held_same c (Some (needs.Lookup k)) is other = tt
held_same c (Some (needs.Query q)) is other = tt
held_same c (Some (needs.Insert e)) is other = tt
held_same c (Some (needs.Value o)) is other = tt
held_same c (Some (needs.Begin k)) is other = absurd (other k refl)
held_same c (Some (needs.Resume x)) is other = subst (λ (n : Option Need). IsHeldFor n x) (sym is) refl

pub made_none : (t : TxnValue) → IsHandTurn t.core None → ((k : Call) → t.core.call.need ≢ Some (needs.Begin k)) → HasMadeRequest t None t None
made_none t fits other = record {
  fits = fits;
  rests = tt;
  of_call = λ before k of. of;
  keeps = keeps_self t;
  objects = λ was left. left;
  unended = λ none. tt;
  frames = λ none. refl;
  needs = λ none. held_same t.core t.core.call.need refl other;
}

pub made_ended : (t : TxnValue) (outcome : Result (List ℕ) TxnError) → IsHandTurn t.core (Some (Ended outcome)) → HasMadeRequest t (Some (Ended outcome)) t (Some (Ended outcome))
made_ended t outcome fits = record {
  fits = fits;
  rests = λ asks. asks;
  of_call = λ before k of. of;
  keeps = keeps_self t;
  objects = λ was left. left;
  unended = λ none. absurd (cc none);
  frames = λ none. absurd (cc none);
  needs = λ none. absurd (cc none);
}
