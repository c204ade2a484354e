-- The effects of beginning a call, and of each reply.
use Rattle.std.specs.Prelude.{◌≡◌, ◌≢◌, ◌⊎◌, ℕ, ◌<◌, [], Option, Some, None, IsNone, IsSome, Ok, Err}
use Rattle.txc_stamp.specs.declared.stamp.TheConstants.{MOST_STAMP}
use Rattle.txc_tags.specs.Keys.{Call}
use Rattle.txc_rows.specs.declared.query.Query.{Query}
use Rattle.txc_node.specs.declared.entry.Entry.{Entry}
use Rattle.txc_node.specs.declared.hit.HitValue.{HitValue}
use Rattle.txc_db.specs.declared.error.DbError.TheVariants.{Full}
use Rattle.txc_pinset.specs.declared.choice.Choice.TheVariants.{Present}
use Rattle.txc_pinset.specs.Members.{choice_of, kept}
use Rattle.txc_app.specs.Eval.{Next}
use Rattle.txc_call_registry.specs.Objects.{Objects, activity_of}
use Rattle.txc_call.specs.declared.error.CallError.TheVariants.{NoFunction}
use Rattle.txc_call.specs.declared.need.Need.{Need}
use Rattle.txc_call.specs.declared.need.Need.TheVariants as needs
use Rattle.txc_call.specs.declared.need.Outcome.{Outcome}
use Rattle.txc_call.specs.declared.reply.Reply.{Reply}
use Rattle.txc_call.specs.declared.reply.Reply.TheVariants as replies
use Rattle.txc_call.specs.CallMachine.{started}
use Rattle.txc_call.specs.MachineTurn.{Turn as CallTurn, AfterReply}
use Rattle.txc_txn_ports.specs.declared.error.TxnError.{TxnError}
use Rattle.txc_txn_ports.specs.declared.error.TxnError.TheVariants as errors
use Rattle.txc_txn_ports.specs.declared.request.PortRequest.TheVariants as requests
use Rattle.txc_txn_ports.specs.declared.reply.PortReply.{PortReply}
use Rattle.txc_txn_ports.specs.declared.reply.PortReply.TheVariants as ports
use Rattle.txc_txn_ports.specs.declared.turn.Turn.TheVariants.{Ask, Ended}
use Rattle.txc_txn_ports.specs.Refusals.{refused_call, refused_request, refused_pin}
use Rattle.txc_txn.specs.declared.pinning.PinStep.TheVariants.{Asked, Dropping}
use Rattle.txc_txn.specs.TxnCore.{CoreValue, IsPinningAt, first_call, least_present}
use Rattle.txc_txn_ports.specs.Turns.{PortTurn, IsAsk}

-- ---- the call continues

-- the present must be pinned, but its pin would have to be beyond the last stamp
pub record IsBeyond (c : CoreValue) : Type 0 where
  pub due : choice_of c.bounds.now c.renew_after c.pins ≡ Present
  pub beyond : MOST_STAMP < least_present c.bounds c.pins.members

-- no memory, or no pin of the present can be made for a query
abbrev pub IsWanting : Option Need → CoreValue → TxnError → Type 0
IsWanting need c error = (error ≡ errors.Memory)
    ⊎ ((query : Query) × (need ≡ Some (needs.Query query)) × IsBeyond c × (error ≡ errors.Database Full))

-- the core's step once its call is in this state: it makes the request that the call needs, and the call stays
-- in this state; or the call's value is that of the turn
abbrev pub NeedTransition : CoreValue → Objects → CoreValue → Objects → PortTurn → Type 0
NeedTransition old objects new objects' (Ask request) = (new.call ≡ old.call) × (objects' ≡ objects)
NeedTransition old objects new objects' (Ended (Ok value)) = (o : Outcome) × (old.call.need ≡ Some (needs.Value o))
    × (value ≡ o.value)
NeedTransition old objects new objects' (Ended (Err error)) = IsWanting old.call.need new error

-- the core's step once its call is in this state after a step of the machine, or has failed
abbrev pub StandingTransition : CallTurn → CoreValue → Objects → PortTurn → Type 0
StandingTransition (Ok standing) new objects (Ask request) =
    (new.call.frames ≡ standing.frames) × (new.call.asked ≡ standing.asked) × (new.call.need ≡ standing.need)
    × (objects ≡ standing.objects)
StandingTransition (Ok standing) new objects (Ended (Ok value)) = (o : Outcome) × (standing.need ≡ Some (needs.Value o))
    × (value ≡ o.value)
StandingTransition (Ok standing) new objects (Ended (Err error)) = IsWanting standing.need new error
StandingTransition (Err error) new objects turn = turn ≡ Ended (Err (refused_call error))

-- the effect of a reply to this need of the call
abbrev pub CallTransition : Next → CoreValue → Objects → Need → Reply → CoreValue → Objects → PortTurn → Type 0
CallTransition next old objects need reply new objects' turn =
    (stands : CallTurn) × AfterReply next old.call.frames old.call.asked objects need reply stands
    × StandingTransition stands new objects' turn

-- ---- a call begins

-- the turn asks what a node has of the call
abbrev pub AsksLookup : Call → PortTurn → Type 0
AsksLookup k (Ask (requests.Lookup node key lo hi)) = key ≡ k
AsksLookup k turn = ⊥

-- the turn asks for a pin of the present
abbrev pub AsksPin : PortTurn → Type 0
AsksPin (Ask (requests.Pin now at_least)) = Unit {0}
AsksPin turn = ⊥

-- the call of the machine and the objects are unchanged, and no pin is being made
pub record StandsStill (old : CoreValue) (objects : Objects) (new : CoreValue) (objects' : Objects) : Type 0 where
  pub same_call : new.call ≡ old.call
  pub same_objects : objects' ≡ objects
  pub none : new.pinning ≡ None

-- the call is at its start, the objects are unchanged, and no pin is being made
pub record StandsAtStart (objects : Objects) (k : Call) (new : CoreValue) (objects' : Objects) : Type 0 where
  pub call : new.call ≡ started k
  pub same_objects : objects' ≡ objects
  pub none : new.pinning ≡ None

-- if its function exists, the call is at its start, and is looked up first; otherwise it fails, and nothing
-- changes
pub record BeginTransition (old : CoreValue) (objects : Objects) (k : Call) (new : CoreValue) (objects' : Objects)
    (turn : PortTurn) : Type 0 where
  pub there : IsSome (activity_of objects k.function) → StandsAtStart objects k new objects' × AsksLookup k turn
  pub absent : IsNone (activity_of objects k.function) → StandsStill old objects new objects'
      × (turn ≡ Ended (Err (errors.Call (NoFunction k.function))))

-- the effect of the pin of the present: the call that waited for it begins; or the open one is unchanged, and
-- makes its query
abbrev pub PresentPinTransition : Option Call → CoreValue → Objects → CoreValue → Objects → PortTurn → Type 0
PresentPinTransition (Some k) old objects new objects' turn = BeginTransition old objects k new objects' turn
PresentPinTransition None old objects new objects' turn = StandsStill old objects new objects' × IsAsk turn

-- ---- replies

-- a hit counts if a member is in its reach; anything else is a miss
pub record HitTransition (next : Next) (old : CoreValue) (objects : Objects) (k : Call) (hit : HitValue)
    (new : CoreValue) (objects' : Objects) (turn : PortTurn) : Type 0 where
  pub held : kept hit.reach old.pins.members ≢ []
      → CallTransition next old objects (needs.Lookup k) (replies.Hit hit) new objects' turn
  pub none : kept hit.reach old.pins.members ≡ []
      → CallTransition next old objects (needs.Lookup k) replies.Miss new objects' turn

-- The effect of a reply. A pin must be added, and one that is not added has its hold removed, after which the
-- call fails for that reason. A node's hit or the database's answer goes to the call. An error of the database
-- ends the call.
abbrev pub ReplyTransition : Next → CoreValue → Objects → PortReply → CoreValue → Objects → PortTurn → Type 0
ReplyTransition next old objects (ports.Pin (Ok pinned)) new objects' turn = turn ≡ Ask (requests.AddPin pinned)
ReplyTransition next old objects (ports.Pin (Err error)) new objects' turn = turn ≡ Ended (Err (refused_request error))
ReplyTransition next old objects (ports.AddPin pinned (Ok added)) new objects' turn =
    PresentPinTransition (first_call old.pinning) old objects new objects' turn
ReplyTransition next old objects (ports.AddPin pinned (Err error)) new objects' turn =
    (turn ≡ Ask (requests.Unpin pinned.stamp)) × IsPinningAt new (Dropping pinned.stamp (refused_pin error))
ReplyTransition next old objects (ports.Unpin unpinned) new objects' turn =
    (stamp : ℕ) (error : TxnError) → IsPinningAt old (Dropping stamp error) → turn ≡ Ended (Err error)
ReplyTransition next old objects (ports.Lookup None) new objects' turn =
    (k : Call) → old.call.need ≡ Some (needs.Lookup k)
    → CallTransition next old objects (needs.Lookup k) replies.Miss new objects' turn
ReplyTransition next old objects (ports.Lookup (Some hit)) new objects' turn =
    (k : Call) → old.call.need ≡ Some (needs.Lookup k)
    → HitTransition next old objects k hit.answer new objects' turn
ReplyTransition next old objects (ports.Query (Ok found)) new objects' turn =
    (query : Query) → old.call.need ≡ Some (needs.Query query)
    → CallTransition next old objects (needs.Query query) (replies.Found found.answer) new objects' turn
ReplyTransition next old objects (ports.Query (Err error)) new objects' turn = turn
    ≡ Ended (Err (refused_request error))
ReplyTransition next old objects (ports.Insert kept) new objects' turn =
    (entry : Entry) → old.call.need ≡ Some (needs.Insert entry)
    → CallTransition next old objects (needs.Insert entry) replies.Inserted new objects' turn

-- a pin of the present is requested, after which the call begins; the machine and the objects are unchanged
pub record WaitsForPresent (old : CoreValue) (objects : Objects) (k : Call) (new : CoreValue) (objects' : Objects)
    (turn : PortTurn) : Type 0 where
  pub asks : AsksPin turn
  pub waits : new.pinning ≡ Some (record { step = Asked; first = Some k })
  pub same_call : new.call ≡ old.call
  pub same_objects : objects' ≡ objects

-- the effect of the beginning of a call: if there is no member, a pin of the present is requested first
pub record StartTransition (old : CoreValue) (objects : Objects) (k : Call) (new : CoreValue) (objects' : Objects)
    (turn : PortTurn) : Type 0 where
  pub pins : old.pins.members ≡ [] → WaitsForPresent old objects k new objects' turn
  pub begins : old.pins.members ≢ [] → BeginTransition old objects k new objects' turn
