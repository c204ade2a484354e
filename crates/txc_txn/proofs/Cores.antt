-- What is true of a core, step by step.
use Rattle.std.proofs.Common.{◌≡◌, ◌≢◌, ℕ, zero, suc, ◌<◌, ◌≤◌, true, false, length, List, [], ◌∷◌, ◌++◌, Option, Some, None, Ok, Err, map, refl, sym, ap, subst, ◌∙◌, arith, All, Contains}
use Rattle.std.specs.List.{slice_index_or}
use Rattle.std.proofs.lemmas.List.Elements.{All-nil, All-cons, All-head, All-weaker, Contains-append_left, Contains-append_right, Contains-push, Contains-get_or}
use Rattle.txc_stamp.specs.Interval.{Interval, Holds}
use Rattle.txc_tags.specs.Keys.{Call}
use mathlib.Core.List.{IsPrefix}
use Rattle.txc_db.specs.History.{History, state_at}
use Rattle.txc_db.specs.Laws.{StatesStay}
use Rattle.txc_db.specs.FrontsAndFeeds.{FrontValue}
use Rattle.txc_cushion.specs.declared.pin.Pin.{Pin}
use Rattle.txc_cushion.specs.Pin.{PinsDescend}
use Rattle.txc_pinset.specs.Members.{PinSetValue, kept, narrowed, with_present}
use Rattle.txc_pinset.specs.Laws.{KeepsExactlyTheHeld, NeverIsEmpty}
use Rattle.txc_app.specs.declared.ask.Ask.TheVariants as asks
use Rattle.txc_app.specs.Eval.{Next}
use Rattle.txc_call_registry.specs.Objects.{Objects, AllIdle}
use Rattle.txc_call.specs.declared.frame.Frame.{Frame}
use Rattle.txc_call.specs.declared.need.Need.{Need}
use Rattle.txc_call.specs.declared.need.Need.TheVariants as needs
use Rattle.txc_call.specs.declared.need.Outcome.{Outcome}
use Rattle.txc_call.specs.Reaches.{InReach}
use Rattle.txc_call.specs.Frames.{FramesHold}
use Rattle.txc_call.specs.Needs.{NeedFits, NeedHolds, reach_of}
use Rattle.txc_call.specs.CallMachine.{Calling, CallHolds, CallIsUnreached, InCall, IsCalling}
use Rattle.txc_call.proofs.Offered.{value_fits}
use Rattle.txc_cushion.specs.declared.pins.Pins.{Pins}
use Rattle.txc_txn_ports.specs.declared.reply.PortReply.{PortReply}
use Rattle.txc_txn_ports.specs.declared.reply.PortReply.TheVariants as ports
use Rattle.txc_txn_ports.specs.Turns.{PortTurn}
use Rattle.txc_txn_ports.specs.declared.turn.Turn.TheVariants as turns
use Rattle.txc_txn_ports.specs.declared.bounds.Bounds.{Bounds}
use Rattle.txc_txn_ports.specs.declared.recorded.Recorded.{Recorded}
use Rattle.txc_txn.specs.declared.pinning.Pinning.{Pinning}
use Rattle.txc_txn.specs.declared.pinning.PinStep.TheVariants.{Asked, Adding, Dropping}
use Rattle.txc_txn.specs.declared.pinning.PinStep.{PinStep}
use Rattle.txc_txn_ports.specs.Answers.{IsFresh, AreConsistent}
use Rattle.txc_txn.specs.Meaning.{PinSetInvariant, LieWithin}
use Rattle.txc_txn.specs.TxnCore.{CoreValue, CoreHolds, IsCore, IsFreshPinning, IsFreshStep, IsRightPortReply, PinningFits, Explains, begun_core, first_call, least_present, receipt_pin}
use Rattle.txc_txn.specs.Transitions.{NeedTransition, PresentPinTransition, ReplyTransition, StandingTransition, StandsStill}
use Rattle.std.specs.Option.{ForSome}
use Rattle.std.specs.Prelude.{IsNone, IsSome}
use Rattle.txc_txn_ports.specs.Fronts.{front_of_reply}
use Rattle.txc_txn.proofs.Longer.{fresh_later, right_later}
use Rattle.txc_txn.proofs.Meanings.{meaning_stays, fewer_members_mean_the_same, in_unreached, kept_all, no_frames_unreached, no_frames_within, present_joins, value_is_recorded, call_begins, call_goes_on}

-- ---- the pin of the present

module _ (never : NeverIsEmpty) (next : Next) (objects : Objects) (c : CoreValue) (pin : Pin) (present : c.pins.has_present ≡ true) (newer : All (λ m. m.stamp < pin.stamp) c.pins.members) where
  pub core_joined : c.pinning ≡ None → IsCore next objects c → IsCore next objects (record c { pins = with_present pin c.pins; taken = c.taken ++ pin.stamp ∷ [] })
  core_joined none h =
      let unreached = h.unreached present in
      record {
        set = never.joins c.pins pin h.set newer;
        call = h.call;
        within = All-cons (λ (p : Pin). InCall p.stamp c.call) pin c.pins.members
            (subst (λ (r : Option Interval). InReach pin.stamp r) (sym unreached.0) tt, in_unreached pin.stamp c.call.frames unreached.1) h.within;
        unreached = λ again. cc again;
        pinning = rw none tt;
        member = λ calling empty. cc empty;
        answered = λ some empty. cc empty;
        taken = All-cons (λ (p : Pin). Contains (c.taken ++ pin.stamp ∷ []) p.stamp) pin c.pins.members (Contains-push c.taken pin.stamp)
            (All-weaker (λ (p : Pin). Contains c.taken p.stamp) (λ (p : Pin). Contains (c.taken ++ pin.stamp ∷ []) p.stamp) (λ p there. Contains-append_left c.taken (pin.stamp ∷ []) p.stamp there) c.pins.members h.taken);
        nodes = h.nodes;
      }

  pub holds_joined : (L : History) → IsFresh L c.bounds pin → CoreHolds next L objects c → CoreHolds next L objects (record c { pins = with_present pin c.pins; taken = c.taken ++ pin.stamp ∷ [] })
  holds_joined L fresh h = record {
    valid = present_joins never next L c.bounds c.pins c.recorded objects c.call pin h.valid present fresh newer;
    coming = h.coming;
  }

-- a pin that is late enough is newer than every member
newer_all : (bounds : Bounds) (members : List Pin) (stamp : ℕ) → PinsDescend members → least_present bounds members ≤ stamp → All (λ m. m.stamp < stamp) members
newer_all bounds [] stamp falls late = All-nil (λ (m : Pin). m.stamp < stamp)
newer_all bounds (m ∷ ms) stamp falls late = each
  where
    each : (k : ℕ) (d : Pin) → k < length (m ∷ ms) → (slice_index_or (m ∷ ms) k d).stamp < stamp
    each zero d below = omega (arith, late)
    each (suc k) d below = let older = falls 0 (suc k) d (omega arith) below in omega (arith, older, late)

-- the pin of the present is there, and is to be added
pub core_adding : (next : Next) (objects : Objects) (c : CoreValue) (p : Pinning) (pin : Pin) → c.pinning ≡ Some p → least_present c.bounds c.pins.members ≤ pin.stamp
    → IsCore next objects c → IsCore next objects (record c { pinning = Some (record { step = Adding pin; first = p.first }) })
core_adding next objects c p pin is late h =
    let was = subst (λ (o : Option Pinning). PinningFits o c.pins c.call.need) is h.pinning in
    record {
      set = h.set;
      call = h.call;
      within = h.within;
      unreached = h.unreached;
      pinning = (was.0, was.1, newer_all c.bounds c.pins.members pin.stamp h.set.falls late);
      member = h.member;
      answered = h.answered;
      taken = h.taken;
      nodes = h.nodes;
    }

-- ---- a narrowed pin set

pub all_held : KeepsExactlyTheHeld → (pins : PinSetValue) (reach : Interval) → All (λ m. InReach m.stamp (Some reach)) (narrowed reach pins).members
all_held keeps pins reach = kept_all keeps (λ (p : Pin). Unit {0}) (λ (p : Pin). Holds reach p.stamp) reach pins (λ p held u. held) (λ i d below. tt)

module _ (keeps : KeepsExactlyTheHeld) (never : NeverIsEmpty) (next : Next) (objects : Objects) (c : CoreValue) (reach : Interval) (some : kept reach c.pins.members ≢ []) where
  pub core_narrowed : c.pinning ≡ None → IsCore next objects c → IsCore next objects (record c { pins = narrowed reach c.pins })
  core_narrowed none h = record {
    set = never.narrows c.pins reach h.set some;
    call = h.call;
    within = kept_all keeps (λ (p : Pin). InCall p.stamp c.call) (λ (p : Pin). InCall p.stamp c.call) reach c.pins (λ p held inside. inside) h.within;
    unreached = λ present. cc present;
    pinning = rw none tt;
    member = λ calling. some;
    answered = λ recorded. some;
    taken = kept_all keeps (λ (p : Pin). Contains c.taken p.stamp) (λ (p : Pin). Contains c.taken p.stamp) reach c.pins (λ p held there. there) h.taken;
    nodes = h.nodes;
  }

  pub holds_narrowed : (L : History) → CoreHolds next L objects c → CoreHolds next L objects (record c { pins = narrowed reach c.pins })
  holds_narrowed L h = record {
    valid = fewer_members_mean_the_same next L c.bounds c.pins (narrowed reach c.pins) c.recorded objects c.call h.valid record {
      set = never.narrows c.pins reach h.valid.set some;
      members = λ i d below. ((keeps c.pins reach _).0 (Contains-get_or (kept reach c.pins.members) i d below)).0;
      present = λ present. cc present;
    };
    coming = h.coming;
  }

-- ---- the value of a call

module _ (next : Next) (objects : Objects) (c : CoreValue) (o : Outcome) (is : c.call.need ≡ Some (needs.Value o)) where
  pub holds_recorded : (L : History) → CoreHolds next L objects c → CoreHolds next L objects (record c { recorded = c.recorded ++ record { key = o.key; value = o.value } ∷ []; call = record c.call { need = None } })
  holds_recorded L h = record {
    valid = value_is_recorded next L c.bounds c.pins c.recorded objects c.call o h.valid is;
    coming = h.coming;
  }

  pub holds_dropped : (L : History) → CoreHolds next L objects c → CoreHolds next L objects (record c { call = record c.call { need = None } })
  holds_dropped L h =
      let right = subst (λ (need : Option Need). NeedHolds next L objects need c.call.frames) is h.valid.right in
      record {
        valid = call_goes_on next L c.bounds c.pins c.recorded objects objects c.call (record c.call { need = None }) h.valid right.1
            (All-weaker (λ (p : Pin). InCall p.stamp c.call) (λ (p : Pin). InCall p.stamp (record c.call { need = None })) (λ p inside. (tt, inside.1)) c.pins.members h.valid.within)
            (λ present. (refl, (h.valid.unreached present).1));
        coming = h.coming;
      }

-- what a call is done with is dropped
pub core_dropped : (next : Next) (objects : Objects) (c : CoreValue) (o : Outcome) → c.call.need ≡ Some (needs.Value o) → c.pinning ≡ None → IsCore next objects c
    → IsCore next objects (record c { call = record c.call { need = None } })
core_dropped next objects c o is none h =
    let three = value_fits next objects c.call.top c.call.need c.call.frames o is h.call in
    record {
      set = h.set;
      call = (three.0, three.1);
      within = All-weaker (λ (p : Pin). InCall p.stamp c.call) (λ (p : Pin). InCall p.stamp (record c.call { need = None })) (λ p inside. (tt, inside.1)) c.pins.members h.within;
      unreached = λ present. (refl, (h.unreached present).1);
      pinning = rw none tt;
      member = λ calling. absurd (calling refl);
      answered = h.answered;
      taken = h.taken;
      nodes = h.nodes;
    }

-- a call that is no more rests on no object
pub core_idle : (next : Next) (objects after : Objects) (c : CoreValue) → c.call.need ≡ None → AllIdle after → IsCore next objects c → IsCore next after c
core_idle next objects after c none idle h = record {
  set = h.set;
  call = subst (λ (n : Option Need). NeedFits next after c.call.top n c.call.frames) (sym none) ((subst (λ (n : Option Need). NeedFits next objects c.call.top n c.call.frames) none h.call).0, idle);
  within = h.within;
  unreached = h.unreached;
  pinning = h.pinning;
  member = h.member;
  answered = h.answered;
  taken = h.taken;
  nodes = h.nodes;
}

pub holds_idle : (next : Next) (objects after : Objects) (L : History) (c : CoreValue) → c.call.need ≡ None → IsCore next objects c → CoreHolds next L objects c → CoreHolds next L after c
holds_idle next objects after L c none h holds =
    let frames : c.call.frames ≡ [] = (subst (λ (n : Option Need). NeedFits next objects c.call.top n c.call.frames) none h.call).0 in
    let right : NeedHolds next L after c.call.need c.call.frames =
    subst (λ (n : Option Need). NeedHolds next L after n c.call.frames) (sym none) (subst (λ (fs : List Frame). FramesHold next L after fs) (sym frames) tt) in
    record {
      valid = record {
        set = holds.valid.set;
        fresh = holds.valid.fresh;
        consistent = holds.valid.consistent;
        right = right;
        within = holds.valid.within;
        unreached = holds.valid.unreached;
        everywhere = holds.valid.everywhere;
      };
      coming = holds.coming;
    }

-- ---- a call goes on

-- a member's stamp lies in the reach of a reply, and in each reach of the call
common_of : (call : Calling) (reach : Option Interval) (members : List Pin) → members ≢ [] → All (λ m. InReach m.stamp reach) members → All (λ m. InCall m.stamp call) members
    → (t : ℕ) × InReach t reach × InCall t call
common_of call reach [] some held within = absurd (some refl)
common_of call reach (p ∷ ps) some held within = (p.stamp, held 0 p (omega arith), within 0 p (omega arith))

needs_one : (need : Option Need) (n : Need) → need ≡ Some n → need ≢ None
needs_one need n is none = cc (sym is ∙ none)

module _ (next : Next) (objects : Objects) (c : CoreValue) (reach : Option Interval) (held : All (λ m. InReach m.stamp reach) c.pins.members) where
  pub common : (n : Need) → c.call.need ≡ Some n → IsCore next objects c → (t : ℕ) × InReach t reach × InCall t c.call
  common n is h = common_of c.call reach c.pins.members (h.member (needs_one c.call.need n is)) held h.within

  module _ (objects' : Objects) (call' : Calling) (within : (t : ℕ) → InReach t reach → InCall t c.call → InCall t call') (present : c.pins.has_present ≡ true → reach ≡ None)
      (unreached : reach ≡ None → CallIsUnreached c.call → CallIsUnreached call') where
    all_within : LieWithin c.pins c.call → LieWithin c.pins call'
    all_within inside = λ i d below. within _ (held i d below) (inside i d below)

    pub core_went_on : c.pinning ≡ None → (n : Need) → c.call.need ≡ Some n → IsCalling next objects' call' → IsCore next objects c → IsCore next objects' (record c { call = call' })
    core_went_on none n is calls h = record {
      set = h.set;
      call = calls;
      within = all_within h.within;
      unreached = λ there. unreached (present there) (h.unreached there);
      pinning = rw none tt;
      member = λ calling. h.member (needs_one c.call.need n is);
      answered = h.answered;
      taken = h.taken;
      nodes = h.nodes;
    }

    pub holds_went_on : (L : History) → CallHolds next L objects' call' → CoreHolds next L objects c → CoreHolds next L objects' (record c { call = call' })
    holds_went_on L right h = record {
      valid = call_goes_on next L c.bounds c.pins c.recorded objects objects' c.call call' h.valid right (all_within h.valid.within) (λ there. unreached (present there) (h.valid.unreached there));
      coming = h.coming;
    }

-- ---- a call begins

-- what is there is not absent
pub not_absent : {X : Type 0} (o : Option X) → IsSome o → IsNone o → ⊥
not_absent o some none = let no : true ≡ false = sym some ∙ none in cc no

pub holds_begun : (next : Next) (L : History) (objects : Objects) (c : CoreValue) (k : Call) (call' : Calling) → call' ≡ record { top = k; asked = 0; frames = []; need = Some (needs.Lookup k) }
    → CoreHolds next L objects c → CoreHolds next L objects (record c { call = call' })
holds_begun next L objects c k call' is h = record {
  valid = subst (λ (call : Calling). PinSetInvariant next L c.bounds c.pins c.recorded objects call) (sym is) (call_begins next L c.bounds c.pins c.recorded objects objects c.call k h.valid);
  coming = h.coming;
}

-- ---- what was seen of the history

pub core_seen : (next : Next) (objects : Objects) (c : CoreValue) (seen : FrontValue) → IsCore next objects c → IsCore next objects (record c { seen = seen })
core_seen next objects c seen h = record {
  set = h.set;
  call = h.call;
  within = h.within;
  unreached = h.unreached;
  pinning = h.pinning;
  member = h.member;
  answered = h.answered;
  taken = h.taken;
  nodes = h.nodes;
}

module _ (stay : StatesStay) (next : Next) (L M : History) (begins : IsPrefix L M) where
  pinning_later : (bounds : Bounds) (pinning : Option Pinning) → IsFreshPinning L bounds pinning → IsFreshPinning M bounds pinning
  pinning_later bounds None h = tt
  pinning_later bounds (Some p) h = step_later bounds p.step h
    where
      step_later : (bounds : Bounds) (step : PinStep) → IsFreshStep L bounds step → IsFreshStep M bounds step
      step_later bounds Asked h = tt
      step_later bounds (Adding pin) h = fresh_later stay L M begins bounds pin h
      step_later bounds (Dropping stamp error) h = tt

  -- in a longer history, of which more was seen
  pub holds_seen : (objects : Objects) (c : CoreValue) (seen : FrontValue) → CoreHolds next L objects c → CoreHolds next M objects (record c { seen = seen })
  holds_seen objects c seen h = record {
    valid = meaning_stays stay next L M c.bounds c.pins c.recorded objects c.call begins h.valid;
    coming = pinning_later c.bounds c.pinning h.coming;
  }

-- ---- the end

pub core_explains : (next : Next) (L : History) (objects : Objects) (c : CoreValue) → (c.recorded ≢ [] → c.pins.members ≢ []) → CoreHolds next L objects c
    → Explains next L c.bounds (receipt_pin c.recorded c.pins.members) c.recorded
core_explains next L objects c some h = go c.recorded c.pins.members some h.valid.fresh h.valid.consistent
  where
    go : (recorded : List Recorded) (members : List Pin) → (recorded ≢ [] → members ≢ []) → All (IsFresh L c.bounds) members → All (λ p. AreConsistent next recorded (state_at L p.stamp)) members
        → Explains next L c.bounds (receipt_pin recorded members) recorded
    go [] members some fresh right = refl
    go (r ∷ rs) [] some fresh right = absurd (some (λ none. cc none) refl)
    go (r ∷ rs) (newest ∷ older) some fresh right = (
      λ none. cc none,
      All-head (IsFresh L c.bounds) newest older fresh,
      All-head (λ (p : Pin). AreConsistent next (r ∷ rs) (state_at L p.stamp)) newest older right,
    )

-- ---- the beginning

stamps_there : (pins : List Pin) → All (λ m. Contains (map (λ (p : Pin). p.stamp) pins) m.stamp) pins
stamps_there [] = All-nil (λ (m : Pin). Contains [] m.stamp)
stamps_there (p ∷ pins) =
    All-cons (λ (m : Pin). Contains (map (λ (q : Pin). q.stamp) (p ∷ pins)) m.stamp) p pins (0, omega arith, refl)
    (All-weaker (λ (m : Pin). Contains (map (λ (q : Pin). q.stamp) pins) m.stamp) (λ (m : Pin). Contains (map (λ (q : Pin). q.stamp) (p ∷ pins)) m.stamp)
    (λ m there. Contains-append_right (p.stamp ∷ []) (map (λ (q : Pin). q.stamp) pins) m.stamp there) pins (stamps_there pins))

pub core_begun : (next : Next) (objects : Objects) (nodes renew_after : ℕ) (bounds : Bounds) (pins : Pins) (call : Calling) → AllIdle objects → call.frames ≡ [] → call.need ≡ None → 1 ≤ nodes
    → IsCore next objects (begun_core nodes renew_after bounds pins call)
core_begun next objects nodes renew_after bounds pins call idle empty none some = record {
  set = record { falls = pins.falls; some = λ _. refl };
  call = rw none (empty, idle);
  within = λ i d below. no_frames_within next [] objects call empty (ap reach_of none) _;
  unreached = λ present. no_frames_unreached next [] objects call empty (ap reach_of none);
  pinning = tt;
  member = λ calling. absurd (calling none);
  answered = λ recorded. absurd (recorded refl);
  taken = stamps_there pins.pins.items;
  nodes = some;
}

-- ---- how the call stands

-- what the core does with how its call stands
pub need_stands : (old new : CoreValue) (objects objects' : Objects) (turn : PortTurn) → NeedTransition old objects new objects' turn
    → StandingTransition (Ok (record { frames = old.call.frames; asked = old.call.asked; need = old.call.need; objects = objects })) new objects' turn
need_stands old new objects objects' (turns.Ask request) h = (ap (λ (call : Calling). call.frames) h.0, ap (λ (call : Calling). call.asked) h.0, ap (λ (call : Calling). call.need) h.0, h.1)
need_stands old new objects objects' (turns.Ended (Ok value)) h = h
need_stands old new objects objects' (turns.Ended (Err error)) h = h

-- what comes of a pin does not depend on what was seen of the history
still_seen : (c : CoreValue) (seen : FrontValue) (objects : Objects) (new : CoreValue) (objects' : Objects)
    → StandsStill (record c { seen = seen }) objects new objects' → StandsStill c objects new objects'
still_seen c seen objects new objects' h = record { same_call = h.same_call; same_objects = h.same_objects; none = h.none }

pub pin_seen : (c : CoreValue) (seen : FrontValue) (objects : Objects) (first : Option Call) (new : CoreValue) (objects' : Objects) (turn : PortTurn)
    → PresentPinTransition first (record c { seen = seen }) objects new objects' turn → PresentPinTransition first c objects new objects' turn
pin_seen c seen objects None new objects' turn h = (still_seen c seen objects new objects' h.0, h.1)
pin_seen c seen objects (Some k) new objects' turn h = record {
  there = h.there;
  absent = λ none. (still_seen c seen objects new objects' (h.absent none).0, (h.absent none).1);
}

-- nor does what comes of any reply
pub leads_seen : (next : Next) (c : CoreValue) (seen : FrontValue) (objects : Objects) (reply : PortReply) (new : CoreValue) (objects' : Objects) (turn : PortTurn)
    → ReplyTransition next (record c { seen = seen }) objects reply new objects' turn → ReplyTransition next c objects reply new objects' turn
leads_seen next c seen objects (ports.Pin (Ok pinned)) new objects' turn h = h
leads_seen next c seen objects (ports.Pin (Err error)) new objects' turn h = h
leads_seen next c seen objects (ports.AddPin pinned (Ok added)) new objects' turn h = pin_seen c seen objects (first_call c.pinning) new objects' turn h
leads_seen next c seen objects (ports.AddPin pinned (Err error)) new objects' turn h = h
leads_seen next c seen objects (ports.Unpin unpinned) new objects' turn h = h
leads_seen next c seen objects (ports.Lookup None) new objects' turn h = h
leads_seen next c seen objects (ports.Lookup (Some hit)) new objects' turn h = λ k is. record { held = (h k is).held; none = (h k is).none }
leads_seen next c seen objects (ports.Query (Ok found)) new objects' turn h = h
leads_seen next c seen objects (ports.Query (Err error)) new objects' turn h = h
leads_seen next c seen objects (ports.Insert kept) new objects' turn h = h

-- ---- with a registry

-- a reply that shows nothing of the history says nothing of it
no_front : (next : Next) (need : Option Need) (reply : PortReply) (M : History) → front_of_reply reply ≡ None → IsRightPortReply next M need reply
no_front next need (ports.Pin (Ok pinned)) M none = cc none
no_front next need (ports.Pin (Err error)) M none = tt
no_front next need (ports.AddPin pinned added) M none = tt
no_front next need (ports.Unpin unpinned) M none = tt
no_front next need (ports.Lookup None) M none = tt
no_front next need (ports.Lookup (Some hit)) M none = cc none
no_front next need (ports.Query (Ok found)) M none = cc none
no_front next need (ports.Query (Err error)) M none = tt
no_front next need (ports.Insert kept) M none = tt

-- a reply that is right in the history that it shows is right in what is seen after it
pub right_seen : StatesStay → (next : Next) (need : Option Need) (reply : PortReply) (M : History) → ForSome (front_of_reply reply) (λ front. IsPrefix front.history M)
    → ForSome (front_of_reply reply) (λ front. IsRightPortReply next front.history need reply) → IsRightPortReply next M need reply
right_seen stay next need reply M shown right = go (front_of_reply reply) refl
  where
    go : (o : Option FrontValue) → front_of_reply reply ≡ o → IsRightPortReply next M need reply
    go None none = no_front next need reply M none
    go (Some front) some = right_later stay front.history M (shown front some) next need reply (right front some)
