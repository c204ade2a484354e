-- What one request of an act leaves, and several.
use Rattle.std.proofs.Common.{◌≡◌, ◌≢◌, ◌∙◌, ℕ, ◌≤◌, ◌-◌, Bool, true, false, List, [], ◌∷◌, Option, Some, None, Ok, Err, inl, inr, refl, ap, sym, subst, arith}
use Rattle.std.specs.Prelude.{IfSome, Result}
use Rattle.std.specs.Option.{ForSome}
use mathlib.Core.List.{IsPrefix}
use Rattle.txc_stream.specs.Names.{Name}
use Rattle.txc_stream.proofs.Offered.{prefix_self, prefix_trans}
use Rattle.txc_tags.specs.Keys.{Call}
use Rattle.txc_db.specs.History.{History}
use Rattle.txc_db.specs.FrontsAndFeeds.{FrontValue}
use Rattle.txc_app.specs.declared.app.Limits.{Limits}
use Rattle.txc_app.specs.Eval.{Next}
use Rattle.txc_app.specs.declared.ask.Ask.{Ask as FunctionAsk}
use Rattle.txc_call_registry.specs.Objects.{numbers_of, Objects}
use Rattle.txc_call.specs.CallMachine.{started, Calling}
use Rattle.txc_call.specs.Needs.{NeedFits}
use Rattle.txc_call.specs.declared.frame.Frame.{Frame}
use Rattle.txc_call.specs.declared.need.HeldAnswer.{HeldAnswer}
use Rattle.txc_call.specs.declared.need.Need.{Need}
use Rattle.txc_call.specs.declared.need.Need.TheVariants as needs
use Rattle.txc_txn_ports.specs.PortRequests.{TurnAddsSuch}
use Rattle.txc_txn_ports.specs.Fronts.{front_of_reply}
use Rattle.txc_txn_ports.specs.Turns.{PortTurn, IsAsk}
use Rattle.txc_txn_ports.specs.declared.error.TxnError.{TxnError}
use Rattle.txc_txn_ports.specs.declared.recorded.Recorded.{Recorded}
use Rattle.txc_txn_ports.specs.declared.request.PortRequest.{PortRequest}
use Rattle.txc_txn_ports.specs.declared.request.PortRequest.TheVariants as requests
use Rattle.txc_txn_ports.specs.declared.reply.PortReply.{PortReply}
use Rattle.txc_txn_ports.specs.declared.reply.PortReply.TheVariants as ports
use Rattle.txc_txn_ports.specs.declared.turn.Turn.TheVariants.{Ask, Ended}
use Rattle.txc_txn.specs.declared.pinning.Pinning.{Pinning}
use Rattle.txc_txn.specs.declared.pinning.PinStep.{PinStep}
use Rattle.txc_txn.specs.declared.pinning.PinStep.TheVariants.{Asked, Adding, Dropping}
use Rattle.txc_txn.specs.ByHand.{FirstExists, HandTurn, HasAskedByHand, HasGoneOnByHand, HasSameCall, HearTransition, IsHandTurn, IsUnended, ObjectsLeft, recorded_by_hand}
use Rattle.txc_txn.specs.TxnCore.{first_call, open_call, AddsOnly, CoreAsks, CoreValue, IsAnswered, IsCore, IsNoAdding, IsPinningAt, IsTurn, PinningFits, WaitsForPin}
use Rattle.txc_txn.specs.RunningTxn.{HasBegunCall, TxnValue}
use Rattle.txc_txn.specs.Transitions.{PresentPinTransition}
use Rattle.txc_txn.proofs.Offered.{adds_none, none_recorded}
use Rattle.txc_caller.specs.Ports.{is_of_pin}
use Rattle.txc_caller.specs.CallerTxn.{KeepsTxn}
use Rattle.txc_caller.specs.ActRequests.{pins_to_come, HasPassed, IsGoing, IsHeldFor, IsTurnOf, WaitsForCall}

-- ---- what is kept

pub keeps_self : (t : TxnValue) → KeepsTxn t t
keeps_self t = record {
  settings = record { bounds = refl; renew_after = refl; nodes = refl };
  functions = refl;
  longer = prefix_self t.core.seen.history;
  events = refl;
}

pub keeps_then : (a b c : TxnValue) → KeepsTxn a b → KeepsTxn b c → KeepsTxn a c
keeps_then a b c one two = record {
  settings = record {
    bounds = two.settings.bounds ∙ one.settings.bounds;
    renew_after = two.settings.renew_after ∙ one.settings.renew_after;
    nodes = two.settings.nodes ∙ one.settings.nodes;
  };
  functions = two.functions ∙ one.functions;
  longer = prefix_trans a.core.seen.history b.core.seen.history c.core.seen.history one.longer two.longer;
  events = two.events ∙ one.events;
}

-- by a step that leaves what was seen
pub keeps_seen : (old new : TxnValue) → numbers_of new.objects ≡ numbers_of old.objects
    → new.core ≡ record old.core { recorded = new.core.recorded; call = new.core.call; pinning = new.core.pinning } → KeepsTxn old new
keeps_seen old new functions same = record {
  settings = record {
    bounds = ap (λ (c : CoreValue). c.bounds) same;
    renew_after = ap (λ (c : CoreValue). c.renew_after) same;
    nodes = ap (λ (c : CoreValue). c.nodes) same;
  };
  functions = functions;
  longer = subst (λ (L : History). IsPrefix old.core.seen.history L) (sym (ap (λ (c : CoreValue). c.seen.history) same)) (prefix_self old.core.seen.history);
  events = ap (λ (c : CoreValue). c.seen.events) same;
}

-- by a step that leaves all but the call
pub keeps_call : (old new : TxnValue) → numbers_of new.objects ≡ numbers_of old.objects → new.core ≡ record old.core { call = new.core.call } → KeepsTxn old new
keeps_call old new functions same = record {
  settings = record {
    bounds = ap (λ (c : CoreValue). c.bounds) same;
    renew_after = ap (λ (c : CoreValue). c.renew_after) same;
    nodes = ap (λ (c : CoreValue). c.nodes) same;
  };
  functions = functions;
  longer = subst (λ (L : History). IsPrefix old.core.seen.history L) (sym (ap (λ (c : CoreValue). c.seen.history) same)) (prefix_self old.core.seen.history);
  events = ap (λ (c : CoreValue). c.seen.events) same;
}

-- by a reply that was heard
pub keeps_heard : (old new : TxnValue) (reply : PortReply) (turn : HandTurn) → numbers_of new.objects ≡ numbers_of old.objects
    → HasGoneOnByHand old.core reply new.core turn → KeepsTxn old new
keeps_heard old new reply turn functions gone = record { settings = gone.settings; functions = functions; longer = gone.longer; events = gone.events }

-- ---- turns

if_some : {X : Type 0} (P Q : X → Type 0) (o : Option X) → ((x : X) → P x → Q x) → IfSome o P → IfSome o Q
if_some P Q None weaker h = tt
if_some P Q (Some x) weaker h = weaker x h

-- no pin is to be added
pub adds_no_such : (P : FrontValue → Type 0) (turn : HandTurn) → IfSome turn (TurnAddsSuch (λ (front : FrontValue). ⊥)) → IfSome turn (TurnAddsSuch P)
adds_no_such P turn none = if_some (TurnAddsSuch (λ (front : FrontValue). ⊥)) (TurnAddsSuch P) turn (adds_none P) none

module _ (P : FrontValue → Type 0) (old new : CoreValue) (turn : HandTurn) where
  no_such : (reply : PortReply) → ((t : PortTurn) → AddsOnly reply t → TurnAddsSuch (λ (front : FrontValue). ⊥) t) → IfSome turn (AddsOnly reply)
      → IfSome turn (TurnAddsSuch P)
  no_such reply none only = if_some (AddsOnly reply) (TurnAddsSuch P) turn (λ (t : PortTurn) (h : AddsOnly reply t). adds_none P t (none t h)) only

  -- a pin that is to be added is that of the reply
  adds_heard : (reply : PortReply) → ForSome (front_of_reply reply) P → IfSome turn (AddsOnly reply) → HearTransition old reply new turn
      → IfSome turn (TurnAddsSuch P)
  adds_heard (ports.Pin (Ok pinned)) of only transition = subst (λ (t : HandTurn). IfSome t (TurnAddsSuch P)) (sym transition.0) (of pinned.front refl)
  adds_heard (ports.Pin (Err error)) of only transition = no_such (ports.Pin (Err error)) (λ t h. h) only
  adds_heard (ports.AddPin pinned added) of only transition = no_such (ports.AddPin pinned added) (λ t h. h) only
  adds_heard (ports.Unpin unpinned) of only transition = no_such (ports.Unpin unpinned) (λ t h. h) only
  adds_heard (ports.Lookup hit) of only transition = no_such (ports.Lookup hit) (λ t h. h) only
  adds_heard (ports.Query found) of only transition = no_such (ports.Query found) (λ t h. h) only
  adds_heard (ports.Insert kept) of only transition = no_such (ports.Insert kept) (λ t h. h) only

pub going_heard : (row : Name) (old new : CoreValue) (reply : PortReply) (turn : HandTurn) → HasGoneOnByHand old reply new turn
    → ForSome (front_of_reply reply) (λ (front : FrontValue). front.events ≡ row) → old.seen.events ≡ row → old.nodes ≡ 1 → IsGoing row new turn
going_heard row old new reply turn gone of events nodes = record {
  fits = gone.turn_fits;
  adds = adds_heard (λ (front : FrontValue). front.events ≡ row) old new turn reply of gone.adds gone.transition;
  events = gone.events ∙ events;
  nodes = gone.settings.nodes ∙ nodes;
}

-- the turn after a reply is of the same call
pub of_call_heard : (old new : CoreValue) (reply : PortReply) (turn : HandTurn) → HasGoneOnByHand old reply new turn
    → (before : List Recorded) (k : Call) → open_call old ≡ Some k → old.recorded ≡ before → IsTurnOf before k new turn
of_call_heard old new reply turn gone before k called same = record {
  begins = λ on. gone.goes_on on ∙ called;
  recorded = gone.recorded ∙ (ap (λ (rs : List Recorded). recorded_by_hand rs turn (open_call old)) same ∙ ap (recorded_by_hand before turn) called);
}

-- an object that a request left, and a reply to it
pub objects_heard : (request : PortRequest) (turn : HandTurn) (old new : Objects) → ObjectsLeft old turn new
    → (was : Objects) → ObjectsLeft was (Some (Ask request)) old → ObjectsLeft was turn new
objects_heard request turn old new left was is = subst (λ (os : Objects). ObjectsLeft os turn new) is left

-- ---- a request about the pin of the present

-- a pin that is under way, and none, exclude each other
pub both_pinning : (c : CoreValue) (step : PinStep) → IsPinningAt c step → c.pinning ≢ None
both_pinning c step at none = let no : Some (record { step = step; first = at.0 }) ≡ None = sym at.1 ∙ none in absurd (cc no)

-- with no pin under way, a turn is about none
pub no_pins : (c : CoreValue) (turn : PortTurn) → IsTurn c turn → c.pinning ≡ None → pins_to_come (Some turn) ≡ 0
no_pins c (Ask (requests.Pin now at_least)) fits none = absurd (both_pinning c _ fits.0 none)
no_pins c (Ask (requests.AddPin pinned)) fits none = absurd (both_pinning c _ fits none)
no_pins c (Ask (requests.Unpin stamp)) fits none = absurd (both_pinning c _ fits.1 none)
no_pins c (Ask (requests.Lookup node key lo hi)) fits none = refl
no_pins c (Ask (requests.Query query stamp)) fits none = refl
no_pins c (Ask (requests.Insert node entry)) fits none = refl
no_pins c (Ended outcome) fits none = refl

waits_same : (old new : CoreValue) (k : Call) → new.call.need ≡ old.call.need → first_call new.pinning ≡ first_call old.pinning
    → WaitsForCall new k → WaitsForCall old k
waits_same old new k need first (inl is) = inl (sym need ∙ is)
waits_same old new k need first (inr is) = inr (sym first ∙ is)

-- what such a request leaves of the call
pub record PinLeaves (old new : CoreValue) (request : PortRequest) (turn : HandTurn) : Type 0 where
  pub fewer : pins_to_come turn ≤ pins_to_come (Some (Ask request)) - 1
  pub some : turn ≢ None
  pub waits : IsUnended turn → (k : Call) → WaitsForCall new k → WaitsForCall old k
  pub frames : IsUnended turn → new.call.frames ≡ old.call.frames
  pub held : IsUnended turn → (x : HeldAnswer) → IsHeldFor new.call.need x → IsHeldFor old.call.need x

module _ (old new : CoreValue) (request : PortRequest) where
  -- the call ended
  ended_leaves : (outcome : Result (List ℕ) TxnError) (turn : HandTurn) → turn ≡ Some (Ended outcome) → PinLeaves old new request turn
  ended_leaves outcome turn is = record {
    fewer = subst (λ (t : HandTurn). pins_to_come t ≤ pins_to_come (Some (Ask request)) - 1) (sym is) (omega arith);
    some = λ none. let no : None ≡ Some (Ended outcome) = sym none ∙ is in absurd (cc no);
    waits = λ on. absurd (subst IsUnended is on);
    frames = λ on. absurd (subst IsUnended is on);
    held = λ on. absurd (subst IsUnended is on);
  }

  -- the call stays
  same_leaves : (turn : HandTurn) (t : PortTurn) → turn ≡ Some t → pins_to_come (Some t) ≤ pins_to_come (Some (Ask request)) - 1 → new.call ≡ old.call
      → first_call new.pinning ≡ first_call old.pinning → PinLeaves old new request turn
  same_leaves turn t is few call first = record {
    fewer = subst (λ (u : HandTurn). pins_to_come u ≤ pins_to_come (Some (Ask request)) - 1) (sym is) few;
    some = λ none. let no : None ≡ Some t = sym none ∙ is in absurd (cc no);
    waits = λ on k. waits_same old new k (ap (λ (m : Calling). m.need) call) first;
    frames = λ on. ap (λ (m : Calling). m.frames) call;
    held = λ on x. subst (λ (n : Option Need). IsHeldFor n x) (ap (λ (m : Calling). m.need) call);
  }

  module _ (next : Next) (objects : Objects) (core : IsCore next objects old) where
    idle_frames : old.call.need ≡ None → old.call.frames ≡ []
    idle_frames none = (subst (λ (n : Option Need). NeedFits next objects old.call.top n old.call.frames) none core.call).0

    -- the pin was added, and the call begins, or goes on
    present_leaves : (first : Option Call) (turn : HandTurn) (t : PortTurn) → first_call old.pinning ≡ first → WaitsForPin first old.call.need old.pins.members
        → FirstExists objects first → IsHandTurn new turn → turn ≡ Some t → PresentPinTransition first old objects new objects t → PinLeaves old new request turn
    present_leaves None turn t is waits there fits at transition =
        let fits' : IsTurn new t = subst (IsHandTurn new) at fits in
        let few : pins_to_come (Some t) ≤ pins_to_come (Some (Ask request)) - 1 = omega (arith, no_pins new t fits' transition.0.none) in
        same_leaves turn t at few transition.0.same_call (ap first_call transition.0.none ∙ sym is)
    present_leaves (Some k) turn t is waits there fits at transition =
        let fits' : IsTurn new t = subst (IsHandTurn new) at fits in
        let start = (transition.there (there k refl)).0 in
        record {
          fewer = subst (λ (u : HandTurn). pins_to_come u ≤ pins_to_come (Some (Ask request)) - 1) (sym at) (omega (arith, no_pins new t fits' start.none));
          some = λ none. let no : None ≡ Some t = sym none ∙ at in absurd (cc no);
          waits = λ on j w. inr (is ∙ begins j start.call start.none w);
          frames = λ on. ap (λ (m : Calling). m.frames) start.call ∙ sym (idle_frames waits.0);
          held = λ on x h. subst (λ (n : Option Need). IsHeldFor n x) (sym waits.0) tt;
        }
      where
        begins : (j : Call) → new.call ≡ started k → new.pinning ≡ None → WaitsForCall new j → Some k ≡ Some j
        begins j call none (inl need) = let one : Some (needs.Lookup k) ≡ Some (needs.Lookup j) = sym (ap (λ (m : Calling). m.need) call) ∙ need in cc one
        begins j call none (inr first) = let no : None ≡ Some j = sym (ap first_call none) ∙ first in absurd (cc no)

    -- the pin that waits for its addition
    added_leaves : (step : PinStep) → IsPinningAt old step → FirstExists objects (first_call old.pinning) → (turn : HandTurn) → IsHandTurn new turn
        → (t : PortTurn) × (turn ≡ Some t) × PresentPinTransition (first_call old.pinning) old objects new objects t → PinLeaves old new request turn
    added_leaves step at there turn fits t =
        let waits = (subst (λ (o : Option Pinning). PinningFits o old.pins old.call.need) at.1 core.pinning).1 in
        present_leaves (first_call old.pinning) turn t.0 refl
        (subst (λ (o : Option Pinning). WaitsForPin (first_call o) old.call.need old.pins.members) (sym at.1) waits) there fits t.1 t.2

-- how many requests may come at a step of the pin, with that of the step
abbrev requests_at : PinStep → ℕ
requests_at Asked = 3
requests_at (Adding pin) = 2
requests_at (Dropping stamp error) = 1

-- the step that a request about the pin is made at
step_of : (c : CoreValue) (request : PortRequest) → CoreAsks c request → is_of_pin request ≡ true
    → (step : PinStep) × IsPinningAt c step × (pins_to_come (Some (Ask request)) ≡ requests_at step)
step_of c (requests.Pin now at_least) asks of = (Asked, asks.0, refl)
step_of c (requests.AddPin pinned) asks of = (_, asks, refl)
step_of c (requests.Unpin stamp) asks of = (_, asks.1, refl)
step_of c (requests.Lookup node key lo hi) asks of = absurd (cc of)
step_of c (requests.Query query stamp) asks of = absurd (cc of)
step_of c (requests.Insert node entry) asks of = absurd (cc of)

pub one_step : (c : CoreValue) (a b : PinStep) → IsPinningAt c a → IsPinningAt c b → a ≡ b
one_step c a b x y =
    let one : Some (record { step = a; first = x.0 }) ≡ Some (record { step = b; first = y.0 }) = sym x.1 ∙ y.1 in
    let two : record { step = a; first = x.0 } ≡ record { step = b; first = y.0 } = cc one in
    ap (λ (p : Pinning). p.step) two

module _ (next : Next) (objects : Objects) (old new : CoreValue) (request : PortRequest) (turn : HandTurn) (core : IsCore next objects old)
    (there : FirstExists objects (first_call old.pinning)) (fits : IsHandTurn new turn) (step : PinStep) (at : IsPinningAt old step)
    (count : pins_to_come (Some (Ask request)) ≡ requests_at step) where
  few : (s : PinStep) → IsPinningAt old s → pins_to_come (Some (Ask request)) ≡ requests_at s
  few s here = count ∙ ap requests_at (one_step old step s at here)

  heard_leaves : (reply : PortReply) → IsAnswered old reply → HearTransition old reply new turn → PinLeaves old new request turn
  heard_leaves (ports.Pin (Ok pinned)) to transition =
      let n : pins_to_come (Some (Ask request)) ≡ 3 = few Asked to.0 in
      same_leaves old new request turn (Ask (requests.AddPin pinned)) transition.0 (omega (arith, n)) transition.1.call transition.1.first
  heard_leaves (ports.Pin (Err error)) to transition = ended_leaves old new request _ turn transition
  heard_leaves (ports.AddPin pinned (Ok added)) to transition = added_leaves old new request next objects core step at there turn fits (transition objects there)
  heard_leaves (ports.AddPin pinned (Err error)) to transition =
      let n : pins_to_come (Some (Ask request)) ≡ 2 = few _ to in
      same_leaves old new request turn (Ask (requests.Unpin pinned.stamp)) transition.0 (omega (arith, n)) transition.2.call transition.2.first
  heard_leaves (ports.Unpin unpinned) to transition = ended_leaves old new request _ turn (transition to.0 to.1 to.2)
  heard_leaves (ports.Lookup hit) to transition = absurd (both_pinning old step at to.1.0)
  heard_leaves (ports.Query (Ok found)) to transition = absurd (both_pinning old step at to.1.0)
  heard_leaves (ports.Query (Err error)) to transition = absurd (both_pinning old step at to.1.0)
  heard_leaves (ports.Insert kept) to transition = absurd (both_pinning old step at to.1.0)

-- such a request was made, and gone on with
pub passed_heard : (next : Next) (row : Name) (old new : TxnValue) (request : PortRequest) (reply : PortReply) (turn : HandTurn)
    → HasGoneOnByHand old.core reply new.core turn → ObjectsLeft old.objects turn new.objects → numbers_of new.objects ≡ numbers_of old.objects
    → IsCore next old.objects old.core → FirstExists old.objects (first_call old.core.pinning) → CoreAsks old.core request → is_of_pin request ≡ true
    → IsAnswered old.core reply → ForSome (front_of_reply reply) (λ (front : FrontValue). front.events ≡ row) → old.core.seen.events ≡ row → old.core.nodes ≡ 1
    → HasPassed row old (Some (Ask request)) new turn
passed_heard next row old new request reply turn gone left functions core there asks of to front events nodes =
    let s = step_of old.core request asks of in
    let leaves = heard_leaves next old.objects old.core new.core request turn core there gone.turn_fits s.0 s.1 s.2 reply to gone.transition in
    record {
      going = going_heard row old.core new.core reply turn gone front events nodes;
      of_call = λ before k h. of_call_heard old.core new.core reply turn gone before k (h.begins tt) h.recorded;
      keeps = keeps_heard old new reply turn functions gone;
      objects = objects_heard request turn old.objects new.objects left;
      fewer = leaves.fewer;
      none = λ none. absurd (leaves.some none);
      unended = λ on. tt;
      waits = leaves.waits;
      frames = leaves.frames;
      held = leaves.held;
    }

-- a turn that is about none stays
pub passed_self : (row : Name) (t : TxnValue) (turn : HandTurn) → pins_to_come turn ≡ 0 → IsGoing row t.core turn → HasPassed row t turn t turn
passed_self row t turn last going = record {
  going = going;
  of_call = λ before k of. of;
  keeps = keeps_self t;
  objects = λ was left. left;
  fewer = omega (arith, last);
  none = λ none. (none, refl);
  unended = λ on. on;
  waits = λ on k waits. waits;
  frames = λ on. refl;
  held = λ on x held. held;
}

pub passed_then : (row : Name) (a b c : TxnValue) (x y z : HandTurn) → HasPassed row a x b y → HasPassed row b y c z → HasPassed row a x c z
passed_then row a b c x y z one two = record {
  going = two.going;
  of_call = λ before k of. two.of_call before k (one.of_call before k of);
  keeps = keeps_then a b c one.keeps two.keeps;
  objects = λ was left. two.objects was (one.objects was left);
  fewer = omega (arith, one.fewer, two.fewer);
  none = λ none. let mid = two.none none in let first = one.none mid.0 in (first.0, mid.1 ∙ first.1);
  unended = λ on. one.unended (two.unended on);
  waits = λ on k waits. one.waits (two.unended on) k (two.waits on k waits);
  frames = λ on. two.frames on ∙ one.frames (two.unended on);
  held = λ on y held. one.held (two.unended on) y (two.held on y held);
}

-- not more than three come
pub three_at_most : (turn : HandTurn) → pins_to_come turn ≤ 3
three_at_most (Some (Ask (requests.Pin now at_least))) = omega arith
three_at_most (Some (Ask (requests.AddPin pinned))) = omega arith
three_at_most (Some (Ask (requests.Unpin stamp))) = omega arith
three_at_most (Some (Ask (requests.Lookup node key lo hi))) = omega arith
three_at_most (Some (Ask (requests.Query query stamp))) = omega arith
three_at_most (Some (Ask (requests.Insert node entry))) = omega arith
three_at_most (Some (Ended outcome)) = omega arith
three_at_most None = omega arith

-- a request that is not about the pin is counted as none
pub no_pin_to_come : (request : PortRequest) → is_of_pin request ≡ false → pins_to_come (Some (Ask request)) ≡ 0
no_pin_to_come (requests.Pin now at_least) of = absurd (cc of)
no_pin_to_come (requests.AddPin pinned) of = absurd (cc of)
no_pin_to_come (requests.Unpin stamp) of = absurd (cc of)
no_pin_to_come (requests.Lookup node key lo hi) of = refl
no_pin_to_come (requests.Query query stamp) of = refl
no_pin_to_come (requests.Insert node entry) of = refl

-- ---- an ask was taken

module _ (limits : Limits) (old mid : TxnValue) (ask : FunctionAsk) (turn : HandTurn) (asked : HasAskedByHand limits old.core ask mid.core turn) where
  pub going_ran : (row : Name) → old.core.seen.events ≡ row → old.core.nodes ≡ 1 → IsGoing row mid.core turn
  going_ran row events nodes = record {
    fits = asked.turn_fits;
    adds = if_some IsNoAdding (TurnAddsSuch (λ (front : FrontValue). front.events ≡ row)) turn (adds_none (λ (front : FrontValue). front.events ≡ row)) asked.adds;
    events = ap (λ (c : CoreValue). c.seen.events) asked.same ∙ events;
    nodes = ap (λ (c : CoreValue). c.nodes) asked.same ∙ nodes;
  }

  pub of_call_ran : (k : Call) → k ≡ old.core.call.top → IsTurnOf old.core.recorded k mid.core turn
  of_call_ran k same = record {
    begins = λ on. asked.goes_on on ∙ ap Some (sym same);
    recorded = asked.recorded ∙ ap (λ (t : Call). recorded_by_hand old.core.recorded turn (Some t)) (sym same);
  }

-- ---- a call begins

module _ (old mid : TxnValue) (k : Call) (turn : PortTurn) (begun : HasBegunCall old k mid turn) where
  pub going_begun : (row : Name) → old.core.seen.events ≡ row → old.core.nodes ≡ 1 → IsGoing row mid.core (Some turn)
  going_begun row events nodes = record {
    fits = begun.turn_fits;
    adds = adds_none (λ (front : FrontValue). front.events ≡ row) turn begun.no_add;
    events = ap (λ (c : CoreValue). c.seen.events) begun.same ∙ events;
    nodes = ap (λ (c : CoreValue). c.nodes) begun.same ∙ nodes;
  }

  pub of_call_begun : IsTurnOf old.core.recorded k mid.core (Some turn)
  of_call_begun = record {
    begins = begun.begins;
    recorded = ap (λ (c : CoreValue). c.recorded) begun.same ∙ sym (none_recorded old.core.recorded turn (Some k) begun.no_value);
  }

  pub keeps_begun : KeepsTxn old mid
  keeps_begun = record {
    settings = record {
      bounds = ap (λ (c : CoreValue). c.bounds) begun.same;
      renew_after = ap (λ (c : CoreValue). c.renew_after) begun.same;
      nodes = ap (λ (c : CoreValue). c.nodes) begun.same;
    };
    functions = begun.functions;
    longer = subst (λ (L : History). IsPrefix old.core.seen.history L) (sym (ap (λ (c : CoreValue). c.seen.history) begun.same)) (prefix_self old.core.seen.history);
    events = ap (λ (c : CoreValue). c.seen.events) begun.same;
  }
