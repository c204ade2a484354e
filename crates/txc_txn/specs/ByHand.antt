-- A read-only transaction whose caller runs the functions of its calls, so that no registry has objects for
-- them. Each definition is about any objects: those that a registry would have.
use Rattle.std.specs.Prelude.{◌≡◌, ◌≢◌, ℕ, List, [], Option, Some, None, IfSome, Ok, Err}
use Rattle.std.specs.Option.{ForSome}
use mathlib.Core.List.{IsPrefix}
use Rattle.txc_tags.specs.Keys.{Call}
use Rattle.txc_rows.specs.declared.query.Query.{Query}
use Rattle.txc_node.specs.declared.entry.Entry.{Entry}
use Rattle.txc_node.specs.declared.hit.HitValue.{HitValue}
use Rattle.txc_db.specs.History.{History}
use Rattle.txc_pinset.specs.Members.{kept}
use Rattle.txc_app.specs.declared.app.Limits.{Limits}
use Rattle.txc_app.specs.declared.ask.Ask.{Ask as FunctionAsk}
use Rattle.txc_app.specs.declared.ask.Ask.TheVariants as asks
use Rattle.txc_app.specs.Eval.{Next}
use Rattle.txc_call_registry.specs.Objects.{Objects, AllIdle}
use Rattle.txc_call.specs.declared.need.Need.{Need}
use Rattle.txc_call.specs.declared.need.Need.TheVariants as needs
use Rattle.txc_call.specs.declared.reply.Reply.{Reply}
use Rattle.txc_call.specs.declared.reply.Reply.TheVariants as replies
use Rattle.txc_call.specs.CallMachine.{Calling}
use Rattle.txc_call.specs.CallSteps.{need_after, AfterRan, FunctionExists, NeedsFunction}
use Rattle.txc_call.specs.MachineTurn.{Turn as CallTurn, needing}
use Rattle.txc_txn_ports.specs.declared.error.TxnError.{TxnError}
use Rattle.txc_txn_ports.specs.declared.request.PortRequest.TheVariants as requests
use Rattle.txc_txn_ports.specs.declared.reply.PortReply.{PortReply}
use Rattle.txc_txn_ports.specs.declared.reply.PortReply.TheVariants as ports
use Rattle.txc_txn_ports.specs.declared.turn.Turn.TheVariants.{Ask, Ended}
use Rattle.txc_txn_ports.specs.Fronts.{front_of_reply}
use Rattle.txc_txn_ports.specs.Refusals.{refused_call, refused_pin, refused_request}
use Rattle.txc_txn_ports.specs.Turns.{PortTurn, IsAsk}
use Rattle.txc_txn_ports.specs.declared.recorded.Recorded.{Recorded}
use Rattle.txc_txn.specs.declared.pinning.PinStep.TheVariants.{Dropping}
use Rattle.txc_txn.specs.TxnCore.{CoreValue, CoreHolds, IsCore, IsPinningAt, IsRightPortReply, IsTurn, KeepsSettings, PinsAfter}
use Rattle.txc_txn.specs.TxnCore.{first_call, left_after, left_pin, open_call, recorded_after, taken_after, AddsOnly, IsNoAdding, IsOneOf}
use Rattle.txc_txn.specs.Transitions.{PresentPinTransition, StandingTransition}

-- the result of a step by hand: a turn, or none if a function must begin or continue first
abbrev pub HandTurn : Type 0
HandTurn = Option PortTurn

-- the call needs a function; or the core asks, or its call has ended
abbrev pub IsHandTurn : CoreValue → HandTurn → Type 0
IsHandTurn c None = (c.pinning ≡ None) × NeedsFunction c.call.need
IsHandTurn c (Some turn) = IsTurn c turn

-- the call continues
abbrev pub IsUnended : HandTurn → Type 0
IsUnended None = Unit {0}
IsUnended (Some turn) = IsAsk turn

-- a step leaves the objects as they are, unless its call ended without a value: then none runs
abbrev pub ObjectsLeft : Objects → HandTurn → Objects → Type 0
ObjectsLeft objects (Some (Ended (Err error))) after = AllIdle after
ObjectsLeft objects (Some (Ended (Ok value))) after = after ≡ objects
ObjectsLeft objects (Some (Ask request)) after = after ≡ objects
ObjectsLeft objects None after = after ≡ objects

-- a value of the open call is recorded
abbrev pub recorded_by_hand : List Recorded → HandTurn → Option Call → List Recorded
recorded_by_hand recorded None k = recorded
recorded_by_hand recorded (Some turn) k = recorded_after recorded turn k

-- there is an object for the function of the call that begins after the pin, if one does
abbrev pub FirstExists : Objects → Option Call → Type 0
FirstExists objects first = ForSome first (λ k. FunctionExists objects (asks.Call k))

-- after a reply to a lookup, a query or an insertion the core asks nothing before a function has run
abbrev pub RestsAfter : PortReply → HandTurn → Type 0
RestsAfter (ports.Pin pinned) turn = Unit {0}
RestsAfter (ports.AddPin pinned added) turn = Unit {0}
RestsAfter (ports.Unpin unpinned) turn = Unit {0}
RestsAfter (ports.Lookup hit) turn = IfSome turn (λ t. ¬ (IsAsk t))
RestsAfter (ports.Query found) turn = IfSome turn (λ t. ¬ (IsAsk t))
RestsAfter (ports.Insert kept) turn = IfSome turn (λ t. ¬ (IsAsk t))

-- ---- the effect of a step

-- the call's state, with the state of the objects
abbrev pub standing_of : Calling → Objects → CallTurn
standing_of call objects =
    Ok (record { frames = call.frames; asked = call.asked; need = call.need; objects = objects })

-- The core's step after its call got into this state, or failed. If the call needs a function, there is no
-- turn, and the call stays in this state; otherwise the turn is one as over a registry.
abbrev pub HandTransition : CallTurn → CoreValue → HandTurn → Type 0
HandTransition (Ok standing) new None =
    (new.call.frames ≡ standing.frames) × (new.call.asked ≡ standing.asked) × (new.call.need ≡ standing.need)
HandTransition (Ok standing) new (Some turn) =
    (¬ (NeedsFunction standing.need)) × StandingTransition (Ok standing) new standing.objects turn
HandTransition (Err error) new turn = turn ≡ Some (Ended (Err (refused_call error)))

-- the effect of a reply to this need of the call
abbrev pub TakeTransition : CoreValue → Need → Reply → CoreValue → HandTurn → Type 0
TakeTransition old need reply new turn = (objects : Objects)
    → HandTransition (needing old.call.frames old.call.asked (need_after old.call.frames need reply) objects) new turn

-- the effect of an ask of the function that the call needs, within these limits
abbrev pub HandAskTransition : Limits → CoreValue → Need → FunctionAsk → CoreValue → HandTurn → Type 0
HandAskTransition limits old need ask new turn = (objects : Objects)
    → (stands : CallTurn) × AfterRan limits old.call.frames old.call.asked objects need ask stands
    × HandTransition stands new turn

-- a hit counts if a member is in its reach; anything else is a miss
pub record HitByHand (old : CoreValue) (k : Call) (hit : HitValue) (new : CoreValue) (turn : HandTurn) : Type 0 where
  pub held : kept hit.reach old.pins.members ≢ []
      → TakeTransition old (needs.Lookup k) (replies.Hit hit) new turn
  pub none : kept hit.reach old.pins.members ≡ [] → TakeTransition old (needs.Lookup k) replies.Miss new turn

-- the effect of a pin of the present that was added: as over a registry that has the function
abbrev pub PresentByHand : CoreValue → CoreValue → HandTurn → Type 0
PresentByHand old new turn = (objects : Objects) → FirstExists objects (first_call old.pinning)
    → (t : PortTurn) × (turn ≡ Some t) × PresentPinTransition (first_call old.pinning) old objects new objects t

-- the call is as it was, and so is the one that begins after the pin
pub record HasSameCall (old new : CoreValue) : Type 0 where
  pub call : new.call ≡ old.call
  pub first : first_call new.pinning ≡ first_call old.pinning

-- The effect of a reply. A pin must be added; one that is not added loses its hold, and then the call fails for
-- that reason. The call takes a hit, and the database's answer; it fails with the database's error.
abbrev pub HearTransition : CoreValue → PortReply → CoreValue → HandTurn → Type 0
HearTransition old (ports.Pin (Ok pinned)) new turn =
    (turn ≡ Some (Ask (requests.AddPin pinned))) × HasSameCall old new
HearTransition old (ports.Pin (Err error)) new turn = turn ≡ Some (Ended (Err (refused_request error)))
HearTransition old (ports.AddPin pinned (Ok added)) new turn = PresentByHand old new turn
HearTransition old (ports.AddPin pinned (Err error)) new turn = (turn ≡ Some (Ask (requests.Unpin pinned.stamp)))
    × IsPinningAt new (Dropping pinned.stamp (refused_pin error)) × HasSameCall old new
HearTransition old (ports.Unpin unpinned) new turn = (stamp : ℕ) (error : TxnError)
    → IsPinningAt old (Dropping stamp error) → turn ≡ Some (Ended (Err error))
HearTransition old (ports.Lookup None) new turn = (k : Call) → old.call.need ≡ Some (needs.Lookup k)
    → TakeTransition old (needs.Lookup k) replies.Miss new turn
HearTransition old (ports.Lookup (Some hit)) new turn = (k : Call) → old.call.need ≡ Some (needs.Lookup k)
    → HitByHand old k hit.answer new turn
HearTransition old (ports.Query (Ok found)) new turn = (query : Query) → old.call.need ≡ Some (needs.Query query)
    → TakeTransition old (needs.Query query) (replies.Found found.answer) new turn
HearTransition old (ports.Query (Err error)) new turn = turn ≡ Some (Ended (Err (refused_request error)))
HearTransition old (ports.Insert kept) new turn = (entry : Entry) → old.call.need ≡ Some (needs.Insert entry)
    → TakeTransition old (needs.Insert entry) replies.Inserted new turn

-- ---- invariants of a step, and its results

-- The core still fits any objects that it fitted, as the step left them, if they have the function of the call
-- that begins after the pin.
abbrev pub FitsByHand : CoreValue → CoreValue → HandTurn → Type 0
FitsByHand old new turn = (next : Next) (objects after : Objects) → FirstExists objects (first_call old.pinning)
    → ObjectsLeft objects turn after → IsCore next objects old → IsCore next after new

-- The effect of a reply by hand, once its history was taken over.
pub record HasHeard (old : CoreValue) (reply : PortReply) (new : CoreValue) (turn : HandTurn) : Type 0 where
  pub fits : FitsByHand old new turn
  pub holds : (next : Next) (objects after : Objects) (L : History) → ObjectsLeft objects turn after
      → IsRightPortReply next L old.call.need reply → IsCore next objects old → CoreHolds next L objects old
      → CoreHolds next L after new
  pub turn_fits : IsHandTurn new turn
  pub transition : HearTransition old reply new turn
  pub rests : RestsAfter reply turn
  pub adds : IfSome turn (AddsOnly reply)
  pub pins : PinsAfter old reply new.pins
  pub taken : new.taken ≡ taken_after old.taken reply
  pub left : left_pin new.pinning ≡ left_after reply
  pub recorded : new.recorded ≡ recorded_by_hand old.recorded turn (open_call old)
  pub goes_on : IsUnended turn → open_call new ≡ open_call old
  pub same : new ≡ record old {
    pins = new.pins;
    taken = new.taken;
    recorded = new.recorded;
    call = new.call;
    pinning = new.pinning;
  }

-- The effect of a reply by hand: a turn or none, and the core after it; more of the history was seen, including
-- what the reply shows of it.
pub record HasGoneOnByHand (old : CoreValue) (reply : PortReply) (new : CoreValue) (turn : HandTurn) : Type 0 where
  pub turn_fits : IsHandTurn new turn
  pub transition : HearTransition old reply new turn
  pub rests : RestsAfter reply turn
  pub adds : IfSome turn (AddsOnly reply)
  pub pins : PinsAfter old reply new.pins
  pub taken : new.taken ≡ taken_after old.taken reply
  pub left : left_pin new.pinning ≡ left_after reply
  pub recorded : new.recorded ≡ recorded_by_hand old.recorded turn (open_call old)
  pub goes_on : IsUnended turn → open_call new ≡ open_call old
  pub settings : KeepsSettings old new
  pub events : new.seen.events ≡ old.seen.events
  pub longer : IsPrefix old.seen.history new.seen.history
  pub shown : ForSome (front_of_reply reply) (λ front. IsPrefix front.history new.seen.history)
  pub one : IsOneOf old.seen (front_of_reply reply) new.seen

-- The effect of a step of the function that the call needs, within these limits: a turn or none. No pin is to
-- be added, and none was left over; everything else stays except the results, the call, and its pin of the
-- present.
pub record HasAskedByHand (limits : Limits) (old : CoreValue) (ask : FunctionAsk) (new : CoreValue) (turn : HandTurn)
    : Type 0 where
  pub turn_fits : IsHandTurn new turn
  pub transition : (need : Need) → old.call.need ≡ Some need → HandAskTransition limits old need ask new turn
  pub adds : IfSome turn IsNoAdding
  pub left : left_pin new.pinning ≡ None
  pub recorded : new.recorded ≡ recorded_by_hand old.recorded turn (Some old.call.top)
  pub goes_on : IsUnended turn → open_call new ≡ Some old.call.top
  pub same : new ≡ record old { recorded = new.recorded; call = new.call; pinning = new.pinning }
