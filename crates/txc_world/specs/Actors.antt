-- Invariants of actors, and the reports of them.
use Rattle.std.specs.Prelude.{◌≡◌, ℕ, ◌-◌, Bool, List, Option, Some, None, Result, Ok, Err, length, take, option_map, if◌then◌else◌}
use Rattle.std.specs.Prelude.{Vec}
use Rattle.std.specs.List.{list_any}
use Rattle.std.specs.declared.alloc.Global.{Global}
use Rattle.txc_stamp.specs.Interval.{Interval}
use Rattle.txc_tags.specs.Keys.{Call}
use Rattle.txc_rows.specs.declared.query.Query.{Query}
use Rattle.txc_rows.specs.States.{RowValue}
use Rattle.txc_db.specs.History.{History}
use Rattle.txc_db.specs.FrontsAndFeeds.{FrontValue}
use Rattle.txc_cushion.specs.declared.pin.Pin.{Pin}
use Rattle.txc_call_registry.specs.Objects.{numbers_of, AllIdle, Objects}
use Rattle.txc_txn_ports.specs.declared.bounds.Bounds.{Bounds}
use Rattle.txc_cushion.specs.declared.error.UnknownPin.{UnknownPin}
use Rattle.txc_app.specs.Eval.{Next}
use Rattle.txc_txn_ports.specs.declared.error.TxnError.{TxnError}
use Rattle.txc_txn_ports.specs.declared.reply.PortReply.{PortReply}
use Rattle.txc_txn_ports.specs.declared.request.PortRequest.{PortRequest}
use Rattle.txc_cushion.specs.declared.pins.Pins.{Pins}
use Rattle.txc_txn.specs.Transitions.{StartTransition}
use Rattle.txc_txn.specs.RunningTxn.{HasGoneOn, TxnValue}
use Rattle.txc_txn_ports.specs.declared.turn.Turn.{Turn}
use Rattle.txc_txn_ports.specs.declared.turn.Turn.TheVariants as turns
use Rattle.txc_txn_ports.specs.Turns.{PortTurn}
use Rattle.txc_pinset.specs.Members.{is_held_by}
use Rattle.txc_world.specs.declared.port_outcome.PortOutcome.{PortOutcome}
use Rattle.txc_world.specs.declared.port_outcome.PortOutcome.TheVariants.{Hit, Miss}
use Rattle.txc_txn.specs.declared.pinning.PinStep.TheVariants.{Dropping}
use Rattle.txc_txn.specs.TxnCore.{CoreValue, begun_core, open_call, IsPinningAt, IsIdle, IsNoValue, IsTurn}
use Rattle.txc_txn_rw.specs.declared.given.Given.{Given}
use Rattle.txc_txn_rw.specs.RwCore.{answers_after, QueryTurn, RwHolds, RwValue}
use Rattle.txc_txn_rw.specs.RwCore.{IsRw, IsRwIdle, IsRwTurn}
use Rattle.txc_txn_ports.specs.Turns.{IsAsk}
use Rattle.txc_world.specs.declared.actor.OpenCall.{OpenCall}
use Rattle.txc_world.specs.declared.actor.OpenTxn.{OpenTxn}
use Rattle.txc_world.specs.declared.actor.OpenRw.{OpenRw}
use Rattle.txc_world.specs.declared.actor.Actor.{Actor}
use Rattle.txc_world.specs.declared.actor.Actor.TheVariants.{Idle, Reading, Writing, Leaving}
use Rattle.txc_world.specs.declared.reply.Reply.{Reply}
use Rattle.txc_world.specs.declared.reply.Reply.TheVariants as replies
use Rattle.txc_world.specs.declared.reply.Reply.TheVariants.{Asked, Begun, Ended}
use Rattle.txc_world.specs.declared.reply.Refusal.TheVariants.{Memory, Transaction}
use Rattle.txc_world.specs.Parts.{IsPartOf}
use Rattle.txc_world.specs.Ports.{PortsValue}
use Rattle.txc_txn_ports.specs.PortRequests.{TurnAddsSuch, IsReplyTo}
use Rattle.txc_world.specs.PortRequests.{DoesTell, FreshTransition, PortRequestTransition}
use Rattle.txc_world.specs.ActorValues.{call_at_turn, ActorValue, CallValue, reads, resting, leaves}
use Rattle.txc_world.specs.KeeperAtPorts.{GiveBackTransition}
use Rattle.txc_world.specs.LostSnapshot.{IfLost, IfTurnLost}
use Rattle.txc_world.specs.Observation.{ObservedActor, idle, reading, writing, leaving}

-- a pin to be added is of the whole history
abbrev pub AddsPart : FrontValue → PortTurn → Type 0
AddsPart whole turn = TurnAddsSuch (IsPartOf whole) turn

-- the error that waits for the hold of a pin to be removed is not about a lost snapshot
abbrev pub DropsNone : CoreValue → Type 0
DropsNone c = (stamp : ℕ) (error : TxnError) → IsPinningAt c (Dropping stamp error) → IfLost error ⊥

-- the call's next turn is one of the core's, which has it open under its key while it makes requests; it has no
-- value, requests only additions that the whole history shows, and has lost no snapshot
pub record IsOpenCall (whole : FrontValue) (c : CoreValue) (call : OpenCall PortRequest) : Type 0 where
  pub turn : IsTurn c call.turn
  pub no_value : IsNoValue call.turn
  pub key : IsAsk call.turn → open_call c ≡ Some call.key
  pub adds : AddsPart whole call.turn
  pub not_lost : IfTurnLost call.turn ⊥
  pub drops : DropsNone c

abbrev pub HasCall : FrontValue → CoreValue → Option (OpenCall PortRequest) → Type 0
HasCall whole c None = IsIdle c
HasCall whole c (Some call) = IsOpenCall whole c call

-- Invariant of an open transaction over `count` nodes, in addition to that of its type: the history that it has
-- seen is a prefix of the whole, and its open call waits for its next turn.
pub record IsOpenTxn {A C : Type 0} (whole : FrontValue) (count : ℕ) (o : OpenTxn A C) : Type 0 where
  pub seen : IsPartOf whole o.txn.core.seen
  pub nodes : o.txn.core.nodes ≡ count
  pub call : HasCall whole o.txn.core o.call

-- ---- read-write transactions

-- the results without the last one, if that is the value of a call that has ended and was not reported yet
abbrev pub told_by_turn : QueryTurn → List Given → List Given
told_by_turn (turns.Ended (Ok value)) answers = take (length answers - 1) answers
told_by_turn turn answers = answers

abbrev pub told_answers : Option (OpenCall Query) → List Given → List Given
told_answers None answers = answers
told_answers (Some call) answers = told_by_turn call.turn answers

-- The call's next turn is one of the core's, which has it open under its key while it asks. Its value comes
-- after all answers that were shown; and it has lost no snapshot.
pub record IsRwCall (c : RwValue) (call : OpenCall Query) : Type 0 where
  pub turn : IsRwTurn c call.turn
  pub key : IsAsk call.turn → c.call.top ≡ call.key
  pub answers : c.answers ≡ answers_after (told_by_turn call.turn c.answers) call.key call.turn
  pub not_lost : IfTurnLost call.turn ⊥

abbrev pub HasRwCall : RwValue → Option (OpenCall Query) → Type 0
HasRwCall c None = IsRwIdle c
HasRwCall c (Some call) = IsRwCall c call

-- Invariant of an open read-write transaction: its core is correct in the whole history, and its open call
-- waits for its next turn.
pub record IsOpenRw {A C : Type 0} (next : Next) (L : History) (o : OpenRw A C) : Type 0 where
  pub fits : IsRw next o.registry o.core
  pub holds : RwHolds next L o.registry o.core
  pub call : HasRwCall o.core o.call

-- ---- actors

abbrev pub IsActor : {A C : Type 0} → Next → FrontValue → ℕ → Actor A C → Type 0
IsActor next whole count (Idle objects) = AllIdle objects
IsActor next whole count (Reading o) = IsOpenTxn whole count o
IsActor next whole count (Writing o) = IsOpenRw next whole.history o
IsActor next whole count (Leaving objects stamp) = AllIdle objects

-- no actor is in the middle of a step
abbrev pub IsActorThere : {A C : Type 0} → Next → FrontValue → ℕ → Option (Actor A C) → Type 0
IsActorThere next whole count None = ⊥
IsActorThere next whole count (Some actor) = IsActor next whole count actor

-- ---- turns of a call

-- the report of a query of a read-write transaction itself
abbrev pub IsToldQuery : Result (Vec RowValue Global) TxnError → Reply → Type 0
IsToldQuery (Ok rows) reply = reply ≡ replies.Answered rows
IsToldQuery (Err error) reply = reply ≡ replies.Refused (Transaction error)

-- a call that asks is open with its turn; else it has ended so
abbrev pub IsNoted : {R X : Type 0} → (Turn R (List ℕ) → X) → Turn R (List ℕ) → Option X
    → Option (Result (List ℕ) TxnError) → Type 0
IsNoted opened (turns.Ask request) call end = (call ≡ Some (opened (turns.Ask request))) × (end ≡ None)
IsNoted opened (turns.Ended result) call end = (call ≡ None) × (end ≡ Some result)

-- the reach holds one of the members
abbrev pub holds_any : Interval → List Pin → Bool
holds_any reach members = list_any (is_held_by reach) members

-- the action of a node, with a hit in whose reach no member is as a miss
abbrev pub counted : List Pin → PortOutcome → PortOutcome
counted members (Hit reach) = if holds_any reach members then Hit reach else Miss
counted members did = did

-- ---- the effect of a step

-- a core began with the pins that the pincushion issued for the bounds
pub record CoreHasBegun (renew_after : ℕ) (bounds : Bounds) (old new : PortsValue) (c : CoreValue) : Type 0 where
  pub pins : Pins
  pub fresh : FreshTransition {A = Unit {0}} bounds.now bounds.staleness bounds.at_least old new (Ok pins)
  pub core : c ≡ begun_core (length old.nodes) renew_after bounds pins c.call

-- a transaction began, with no call and with the functions as they are; or the actor has nothing open, and all
-- is as it was
abbrev pub TxnBeginTransition : ℕ → Bounds → PortsValue → PortsValue → Objects → ActorValue → Reply → Type 0
TxnBeginTransition renew_after bounds old new objects (reads r) reply =
    CoreHasBegun renew_after bounds old new r.txn.core × (r.txn.objects ≡ objects) × (r.call ≡ None)
    × (reply ≡ Begun)
TxnBeginTransition renew_after bounds old new objects (resting left) reply = (reply ≡ replies.Refused Memory)
    × (new ≡ old) × (left ≡ objects)
TxnBeginTransition renew_after bounds old new objects actor reply = ⊥

-- a call is open, with the turn that its start gave
pub record HasStarted (key : Call) (before : TxnValue) (actor : ActorValue) : Type 0 where
  pub txn : TxnValue
  pub turn : PortTurn
  pub actor_is : actor ≡ reads (record { txn = txn; call = Some (call_at_turn key turn) })
  pub transition : StartTransition before.core before.objects key txn.core txn.objects turn
  pub same : txn.core ≡ record before.core { call = txn.core.call; pinning = txn.core.pinning }

-- One request of a transaction, as a step of the pass: the port that was asked did this, and the transaction
-- went on with its reply.
pub record HasAsked (next : Next) (pass : ℕ) (request : PortRequest) (old new : PortsValue)
    (before after : TxnValue) (did : PortOutcome) (turn : PortTurn) : Type 0 where
  pub reply : PortReply
  pub port : PortOutcome
  pub right : IsReplyTo next request reply
  pub tells : DoesTell reply port
  pub transition : PortRequestTransition pass before.core.seen request old new reply
  pub counts : did ≡ counted before.core.pins.members port
  pub went : HasGoneOn next before reply after turn

-- the open call made the request, and is open still or has ended at the turn that came of it
pub record HasRequested (next : Next) (pass : ℕ) (key : Call) (request : PortRequest) (old new : PortsValue)
    (before : TxnValue) (actor : ActorValue) (reply : Reply) : Type 0 where
  pub txn : TxnValue
  pub call : Option (CallValue PortRequest)
  pub did : PortOutcome
  pub end : Option (Result (List ℕ) TxnError)
  pub turn : PortTurn
  pub actor_is : actor ≡ reads (record { txn = txn; call = call })
  pub reply_is : reply ≡ Asked did end
  pub asks : HasAsked next pass request old new before txn did turn
  pub noted : IsNoted (call_at_turn key) turn call end

-- a request at a turn of the open call: it is made; or the call had ended, which is shown, and no port was
-- asked
abbrev pub RequestTransition : Next → ℕ → Call → PortTurn → PortsValue → PortsValue → TxnValue → ActorValue → Reply
    → Type 0
RequestTransition next pass key (turns.Ask request) old new before actor reply =
    HasRequested next pass key request old new before actor reply
RequestTransition next pass key (turns.Ended result) old new before actor reply = (new ≡ old)
    × (actor ≡ reads (record { txn = before; call = None })) × (reply ≡ Ended result)

-- cancelled: every function still exists and is idle, and the hold of the stamp, if there is one, is left
abbrev pub IsGivenUp : Option ℕ → Objects → ActorValue → Type 0
IsGivenUp None objects (resting left) = AllIdle left × (numbers_of left ≡ numbers_of objects)
IsGivenUp (Some stamp) objects (leaves left held) =
    AllIdle left × (numbers_of left ≡ numbers_of objects) × (held ≡ stamp)
IsGivenUp held objects actor = ⊥

-- users of these stamps were removed at the pincushion, or it failed, and nothing has changed
abbrev pub HasGivenBack : List ℕ → PortsValue → PortsValue → Type 0
HasGivenBack stamps old new = (given : Result (Unit {0}) UnknownPin) × GiveBackTransition stamps old new given

-- ---- the observation of an actor

abbrev pub observed_of : {A C : Type 0} → Actor A C → ObservedActor
observed_of (Idle objects) = idle
observed_of (Reading o) = reading (record {
  bounds = o.txn.core.bounds;
  call = option_map (λ c. c.key) o.call;
  answers = o.txn.core.recorded;
})
observed_of (Writing o) = writing (record {
  base = o.core.base;
  call = option_map (λ c. c.key) o.call;
  answers = told_answers o.call o.core.answers;
  changes = o.core.changes;
})
observed_of (Leaving objects stamp) = leaving stamp

abbrev pub observed_at : {A C : Type 0} → Option (Actor A C) → ObservedActor
observed_at None = idle
observed_at (Some actor) = observed_of actor
