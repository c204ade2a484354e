-- A read-only transaction: its pending request, and its invariant.
use Rattle.std.specs.Prelude.{◌≡◌, ◌≢◌, ◌⊎◌, ℕ, ◌+◌, ◌<◌, ◌≤◌, true, List, [], ◌∷◌, ◌++◌, All, Contains}
use Rattle.std.specs.Prelude.{Option, Some, None, Ok, Err, map, max}
use Rattle.txc_stamp.specs.Interval.{Interval, Holds}
use Rattle.txc_tags.specs.Keys.{Call, node_of}
use Rattle.txc_rows.specs.declared.query.Query.{Query}
use Rattle.txc_node.specs.declared.entry.Entry.{Entry}
use Rattle.txc_db.specs.History.{History, moment_at, state_at}
use Rattle.txc_db.specs.FrontsAndFeeds.{FrontValue}
use Rattle.txc_cushion.specs.declared.pin.Pin.{Pin}
use Rattle.txc_cushion.specs.declared.pins.Pins.{Pins}
use Rattle.txc_cushion.specs.Pin.{pin_of}
use Rattle.txc_pinset.specs.declared.choice.Choice.TheVariants.{Present, At}
use Rattle.txc_pinset.specs.Members.{PinSetValue, IsPinSet, AreBounds, begun_pin_set, choice_of, kept, narrowed}
use Rattle.txc_pinset.specs.Members.{with_present}
use Rattle.txc_app.specs.Eval.{Next}
use Rattle.txc_call_registry.specs.Objects.{Objects}
use Rattle.txc_call.specs.declared.need.Need.{Need}
use Rattle.txc_call.specs.declared.need.Need.TheVariants as needs
use Rattle.txc_call.specs.declared.reply.Reply.TheVariants as replies
use Rattle.txc_call.specs.Needs.{ReplyHolds}
use Rattle.txc_call.specs.CallMachine.{Calling, CallIsUnreached, IsCalling}
use Rattle.txc_txn_ports.specs.declared.bounds.Bounds.{Bounds}
use Rattle.txc_txn_ports.specs.declared.recorded.Recorded.{Recorded}
use Rattle.txc_txn_ports.specs.declared.error.TxnError.{TxnError}
use Rattle.txc_txn_ports.specs.declared.request.PortRequest.{PortRequest}
use Rattle.txc_txn_ports.specs.declared.request.PortRequest.TheVariants as requests
use Rattle.txc_txn_ports.specs.declared.reply.PortReply.{PortReply}
use Rattle.txc_txn_ports.specs.declared.reply.PortReply.TheVariants as ports
use Rattle.txc_txn_ports.specs.declared.turn.Turn.TheVariants.{Ask, Ended}
use Rattle.txc_txn_ports.specs.Turns.{PortTurn}
use Rattle.txc_txn_ports.specs.Answers.{IsFresh, AreConsistent}
use Rattle.txc_txn_ports.specs.PortRequests.{TurnAddsSuch}
use Rattle.txc_txn.specs.declared.pinning.Pinning.{Pinning}
use Rattle.txc_txn.specs.declared.pinning.PinStep.{PinStep}
use Rattle.txc_txn.specs.declared.pinning.PinStep.TheVariants.{Asked, Adding, Dropping}
use Rattle.txc_txn.specs.declared.txn_core.TxnCore.{TxnCore}
use Rattle.txc_txn.specs.Meaning.{PinSetInvariant, LieWithin}

-- The value of a core in contracts: its bounds, the age beyond which it renews its newest pin, and the number
-- of nodes. Then its pin set, the stamps that were issued to it or added by it, and the results that it
-- recorded. Then its call, the pin of the present that is being made, if one is, and the history that it has
-- seen.
pub record CoreValue : Type 0 where
  pub bounds : Bounds
  pub renew_after : ℕ
  pub nodes : ℕ
  pub pins : PinSetValue
  pub taken : List ℕ
  pub recorded : List Recorded
  pub call : Calling
  pub pinning : Option Pinning
  pub seen : FrontValue

abbrev pub value_of : TxnCore → CoreValue
value_of c = record {
  bounds = c.bounds;
  renew_after = c.renew_after;
  nodes = c.nodes;
  pins = c.pins;
  taken = c.taken.items;
  recorded = c.recorded.items;
  call = c.machine;
  pinning = c.pinning;
  seen = c.seen;
}

-- a core with these issued pins, before its first call
abbrev pub begun_core : ℕ → ℕ → Bounds → Pins → Calling → CoreValue
begun_core nodes renew_after bounds pins call = record {
  bounds = bounds;
  renew_after = renew_after;
  nodes = nodes;
  pins = begun_pin_set pins.pins.items;
  taken = map (λ p. p.stamp) pins.pins.items;
  recorded = [];
  call = call;
  pinning = None;
  seen = pins.front;
}

-- no call is open
abbrev pub IsIdle : CoreValue → Type 0
IsIdle c = (c.call.need ≡ None) × (c.pinning ≡ None)

-- ---- the pin of the present

-- the least stamp that the pin of the present may have: one beyond the newest member, and within the bounds
abbrev pub least_present : Bounds → List Pin → ℕ
least_present bounds [] = bounds.at_least
least_present bounds (newest ∷ older) = max (newest.stamp + 1) bounds.at_least

-- a call that has not begun waits for the pin if there is no member; otherwise the open call's query does
abbrev pub WaitsForPin : Option Call → Option Need → List Pin → Type 0
WaitsForPin (Some k) need members = (need ≡ None) × (members ≡ [])
WaitsForPin None need members = (query : Query) × (need ≡ Some (needs.Query query))

-- the pin to be added is newer than every member
abbrev pub IsNewer : PinStep → List Pin → Type 0
IsNewer Asked members = Unit {0}
IsNewer (Adding pin) members = All (λ m. m.stamp < pin.stamp) members
IsNewer (Dropping stamp error) members = Unit {0}

-- the present is pinned while the set has it
abbrev pub PinningFits : Option Pinning → PinSetValue → Option Need → Type 0
PinningFits None pins need = Unit {0}
PinningFits (Some p) pins need = (pins.has_present ≡ true) × WaitsForPin p.first need pins.members
    × IsNewer p.step pins.members

-- the pin to be added is one that the bounds allow
abbrev pub IsFreshStep : History → Bounds → PinStep → Type 0
IsFreshStep L bounds Asked = Unit {0}
IsFreshStep L bounds (Adding pin) = IsFresh L bounds pin
IsFreshStep L bounds (Dropping stamp error) = Unit {0}

abbrev pub IsFreshPinning : History → Bounds → Option Pinning → Type 0
IsFreshPinning L bounds None = Unit {0}
IsFreshPinning L bounds (Some p) = IsFreshStep L bounds p.step

-- ---- the invariant of a core

-- In any history: its pin set is valid, and its call waits for its need. All its members are in each reach of
-- the call, which has none while the set has the present, and were issued to it or added by it. It has a member
-- while its call continues, and once a call was completed.
pub record IsCore (next : Next) (objects : Objects) (c : CoreValue) : Type 0 where
  pub set : IsPinSet c.pins
  pub call : IsCalling next objects c.call
  pub within : LieWithin c.pins c.call
  pub unreached : c.pins.has_present ≡ true → CallIsUnreached c.call
  pub pinning : PinningFits c.pinning c.pins c.call.need
  pub member : c.call.need ≢ None → c.pins.members ≢ []
  pub answered : c.recorded ≢ [] → c.pins.members ≢ []
  pub taken : All (λ m. Contains c.taken m.stamp) c.pins.members
  pub nodes : 1 ≤ c.nodes

-- in a history: its pin set is correct, and so is the pin to be added
pub record CoreHolds (next : Next) (L : History) (objects : Objects) (c : CoreValue) : Type 0 where
  pub valid : PinSetInvariant next L c.bounds c.pins c.recorded objects c.call
  pub coming : IsFreshPinning L c.bounds c.pinning

-- ---- requests

-- the present is being pinned, and this is the current step
abbrev pub IsPinningAt : CoreValue → PinStep → Type 0
IsPinningAt c step = (first : Option Call) × (c.pinning ≡ Some (record { step = step; first = first }))

-- no pin is under way, and the call needs this
abbrev pub IsNeeding : CoreValue → Need → Type 0
IsNeeding c need = (c.pinning ≡ None) × (c.call.need ≡ Some need)

-- The core makes this request: a pin if it is due, later than every member; or the addition of it, or the
-- removal of its hold. Or it requests a lookup of the call at its node at the stamps from the least to the
-- greatest member; a query at the newest member; or an insertion of an entry at its call's node.
abbrev pub CoreAsks : CoreValue → PortRequest → Type 0
CoreAsks c (requests.Pin now at_least) = IsPinningAt c Asked
    × (choice_of c.bounds.now c.renew_after c.pins ≡ Present)
    × (now ≡ c.bounds.now) × (at_least ≡ least_present c.bounds c.pins.members)
CoreAsks c (requests.AddPin pinned) = IsPinningAt c (Adding (pin_of pinned))
CoreAsks c (requests.Unpin stamp) = (error : TxnError) × IsPinningAt c (Dropping stamp error)
CoreAsks c (requests.Lookup node key lo hi) = IsNeeding c (needs.Lookup key) × (node ≡ node_of c.nodes key)
    × AreBounds c.pins.members (lo, hi)
CoreAsks c (requests.Query query stamp) = IsNeeding c (needs.Query query)
    × (choice_of c.bounds.now c.renew_after c.pins ≡ At stamp)
CoreAsks c (requests.Insert node entry) = IsNeeding c (needs.Insert entry)
    × (node ≡ node_of c.nodes entry.key)

-- the core asks, or its call has ended
abbrev pub IsTurn : CoreValue → PortTurn → Type 0
IsTurn c (Ask request) = CoreAsks c request
IsTurn c (Ended result) = IsIdle c

-- ---- replies

-- the reach holds the newest member
abbrev pub HoldsNewest : Interval → List Pin → Type 0
HoldsNewest reach [] = ⊥
HoldsNewest reach (newest ∷ older) = Holds reach newest.stamp

-- the reply is one to what the core asks: a pin of its moment that is late enough, the pin that was to be
-- added, or what was found at the newest member
abbrev pub IsAnswered : CoreValue → PortReply → Type 0
IsAnswered c (ports.Pin (Ok pinned)) = IsPinningAt c Asked × (pinned.moment ≡ c.bounds.now)
    × (least_present c.bounds c.pins.members ≤ pinned.stamp)
IsAnswered c (ports.Pin (Err error)) = IsPinningAt c Asked
IsAnswered c (ports.AddPin pinned added) = IsPinningAt c (Adding (pin_of pinned))
IsAnswered c (ports.Unpin unpinned) = (stamp : ℕ) × (error : TxnError) × IsPinningAt c (Dropping stamp error)
IsAnswered c (ports.Lookup hit) = (k : Call) × IsNeeding c (needs.Lookup k)
IsAnswered c (ports.Query (Ok found)) = (query : Query) × IsNeeding c (needs.Query query)
    × HoldsNewest found.answer.reach c.pins.members
IsAnswered c (ports.Query (Err error)) = (query : Query) × IsNeeding c (needs.Query query)
IsAnswered c (ports.Insert kept) = (entry : Entry) × IsNeeding c (needs.Insert entry)

-- the reply to what the call needs is right in the history
abbrev pub IsRightPortReply : Next → History → Option Need → PortReply → Type 0
IsRightPortReply next L need (ports.Pin (Ok pinned)) = moment_at L pinned.stamp ≡ Some pinned.moment
IsRightPortReply next L need (ports.Lookup (Some hit)) = (n : Need) → need ≡ Some n
    → ReplyHolds next L n (replies.Hit hit.answer)
IsRightPortReply next L need (ports.Query (Ok found)) = (n : Need) → need ≡ Some n
    → ReplyHolds next L n (replies.Found found.answer)
IsRightPortReply next L need reply = Unit {0}

-- ---- the effect of a reply

-- the history seen is the old one, or that of the reply
abbrev pub IsOneOf : FrontValue → Option FrontValue → FrontValue → Type 0
IsOneOf old shown new = (new ≡ old) ⊎ (shown ≡ Some new)

-- narrowed by the reach if that holds a member; otherwise as before
pub record IsNarrowed (reach : Interval) (old new : PinSetValue) : Type 0 where
  pub held : kept reach old.members ≢ [] → new ≡ narrowed reach old
  pub none : kept reach old.members ≡ [] → new ≡ old

-- the pin set after a reply: narrowed by the answer, or with the present replaced by its pin
abbrev pub PinsAfter : CoreValue → PortReply → PinSetValue → Type 0
PinsAfter c (ports.AddPin pinned (Ok added)) new = new ≡ with_present (pin_of pinned) c.pins
PinsAfter c (ports.Lookup (Some hit)) new = IsNarrowed hit.answer.reach c.pins new
PinsAfter c (ports.Query (Ok found)) new = new ≡ narrowed found.answer.reach c.pins
PinsAfter c reply new = new ≡ c.pins

-- the stamps that were issued to the core or added by it: an added pin is one more
abbrev pub taken_after : List ℕ → PortReply → List ℕ
taken_after taken (ports.AddPin pinned (Ok added)) = taken ++ pinned.stamp ∷ []
taken_after taken reply = taken

-- the call that begins after the pin, if there is one
abbrev pub first_call : Option Pinning → Option Call
first_call None = None
first_call (Some p) = p.first

-- the call that the machine runs, if it runs one
abbrev pub running_call : Option Need → Call → Option Call
running_call None top = None
running_call (Some need) top = Some top

abbrev pub either_call : Option Call → Option Call → Option Call
either_call (Some k) other = Some k
either_call None other = other

-- the call that is open, if one is
abbrev pub open_call : CoreValue → Option Call
open_call c = either_call (first_call c.pinning) (running_call c.call.need c.call.top)

-- a value of the open call is recorded
abbrev pub recorded_after : List Recorded → PortTurn → Option Call → List Recorded
recorded_after recorded (Ended (Ok value)) (Some k) = recorded ++ record { key = k; value = value } ∷ []
recorded_after recorded turn k = recorded

-- the turn does not ask the pincushion to add a pin
abbrev pub IsNoAdding : PortTurn → Type 0
IsNoAdding turn = TurnAddsSuch (λ front. ⊥) turn

-- a pin is added only right after the database has made it
abbrev pub AddsOnly : PortReply → PortTurn → Type 0
AddsOnly (ports.Pin (Ok pinned)) turn = Unit {0}
AddsOnly reply turn = IsNoAdding turn

-- the turn is no value
abbrev pub IsNoValue : PortTurn → Type 0
IsNoValue (Ended (Ok value)) = ⊥
IsNoValue turn = Unit {0}

-- the bounds, after how long the newest pin is renewed, and the number of nodes stay
pub record KeepsSettings (old new : CoreValue) : Type 0 where
  pub bounds : new.bounds ≡ old.bounds
  pub renew_after : new.renew_after ≡ old.renew_after
  pub nodes : new.nodes ≡ old.nodes

-- ---- the end

-- the newest member, if a call was completed
abbrev pub receipt_pin : List Recorded → List Pin → Option Pin
receipt_pin [] members = None
receipt_pin (r ∷ rs) [] = None
receipt_pin (r ∷ rs) (newest ∷ older) = Some newest

-- A receipt is explained. It has no pin and no value; or its pin is one that the bounds allow, and there each
-- value is the uncached one of its call.
abbrev pub Explains : Next → History → Bounds → Option Pin → List Recorded → Type 0
Explains next L bounds None answers = answers ≡ []
Explains next L bounds (Some pin) answers = (answers ≢ []) × IsFresh L bounds pin
    × AreConsistent next answers (state_at L pin.stamp)

-- the stamp that was pinned, and was not added
abbrev pub left_stamp : PinStep → Option ℕ
left_stamp Asked = None
left_stamp (Adding pin) = Some pin.stamp
left_stamp (Dropping stamp error) = Some stamp

abbrev pub left_pin : Option Pinning → Option ℕ
left_pin None = None
left_pin (Some p) = left_stamp p.step

-- the pin that must still be added or unpinned after a reply: the one that the database has just made, or that
-- the pincushion has just not added
abbrev pub left_after : PortReply → Option ℕ
left_after (ports.Pin (Ok pinned)) = Some pinned.stamp
left_after (ports.AddPin pinned (Err error)) = Some pinned.stamp
left_after reply = None
