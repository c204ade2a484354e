-- A read-only transaction with the registry of its functions.
use Rattle.std.specs.Prelude.{◌≡◌, None, Some}
use Rattle.std.specs.Option.{ForSome}
use mathlib.Core.List.{IsPrefix}
use Rattle.txc_tags.specs.Keys.{Call}
use Rattle.txc_db.specs.History.{History}
use Rattle.txc_app.specs.Eval.{Next}
use Rattle.txc_call_registry.specs.Objects.{Objects, numbers_of}
use Rattle.txc_txn_ports.specs.declared.reply.PortReply.{PortReply}
use Rattle.txc_txn_ports.specs.Fronts.{front_of_reply}
use Rattle.txc_txn.specs.TxnCore.{CoreValue, CoreHolds, IsCore, IsRightPortReply, IsTurn, KeepsSettings, PinsAfter}
use Rattle.txc_txn_ports.specs.Turns.{PortTurn, IsAsk}
use Rattle.txc_txn.specs.TxnCore.{left_after, left_pin, open_call, recorded_after, taken_after, AddsOnly, IsNoAdding, IsNoValue, IsOneOf}
use Rattle.txc_txn.specs.Transitions.{ReplyTransition, StartTransition}

-- the value of it in contracts: its core, and the state of its objects
pub record TxnValue : Type 0 where
  pub core : CoreValue
  pub objects : Objects

-- a core with the state of its objects
abbrev pub txn_value : CoreValue → Objects → TxnValue
txn_value core objects = record { core = core; objects = objects }

-- it is valid in any history, and its pin set is correct in the history that it has seen
pub record IsTxn (next : Next) (t : TxnValue) : Type 0 where
  pub fits : IsCore next t.objects t.core
  pub holds : CoreHolds next t.core.seen.history t.objects t.core

-- the reply is right in the history that it shows
abbrev pub IsShownRight : Next → TxnValue → PortReply → Type 0
IsShownRight next t reply =
    ForSome (front_of_reply reply) (λ front. IsRightPortReply next front.history t.core.call.need reply)

-- The effect of beginning a call: a turn that makes a request for it, or an error. No pin must be added, and
-- none was left over; the functions stay, and so does everything except the call and its pin of the present.
pub record HasBegunCall (old : TxnValue) (key : Call) (new : TxnValue) (turn : PortTurn) : Type 0 where
  pub turn_fits : IsTurn new.core turn
  pub begins : IsAsk turn → open_call new.core ≡ Some key
  pub no_value : IsNoValue turn
  pub no_add : IsNoAdding turn
  pub left : left_pin new.core.pinning ≡ None
  pub transition : StartTransition old.core old.objects key new.core new.objects turn
  pub functions : numbers_of new.objects ≡ numbers_of old.objects
  pub same : new.core ≡ record old.core { call = new.core.call; pinning = new.core.pinning }

-- the effect of a reply: a turn, and the transaction after it; the functions stay; more of the history was
-- seen, including what the reply shows of it
pub record HasGoneOn (next : Next) (old : TxnValue) (reply : PortReply) (new : TxnValue)
    (turn : PortTurn) : Type 0 where
  pub turn_fits : IsTurn new.core turn
  pub transition : ReplyTransition next old.core old.objects reply new.core new.objects turn
  pub adds : AddsOnly reply turn
  pub pins : PinsAfter old.core reply new.core.pins
  pub taken : new.core.taken ≡ taken_after old.core.taken reply
  pub left : left_pin new.core.pinning ≡ left_after reply
  pub recorded : new.core.recorded ≡ recorded_after old.core.recorded turn (open_call old.core)
  pub goes_on : IsAsk turn → open_call new.core ≡ open_call old.core
  pub settings : KeepsSettings old.core new.core
  pub functions : numbers_of new.objects ≡ numbers_of old.objects
  pub events : new.core.seen.events ≡ old.core.seen.events
  pub longer : IsPrefix old.core.seen.history new.core.seen.history
  pub shown : ForSome (front_of_reply reply) (λ front. IsPrefix front.history new.core.seen.history)
  pub one : IsOneOf old.core.seen (front_of_reply reply) new.core.seen

-- The result of a step of a core between two requests: it fits its functions, which stay, and the turn is one
-- of its own. No pin must be added, and none was left over.
pub record HasTurned (next : Next) (was : Objects) (new : CoreValue) (is : Objects) (turn : PortTurn) : Type 0 where
  pub fits : IsCore next is new
  pub turn_fits : IsTurn new turn
  pub no_add : IsNoAdding turn
  pub left : left_pin new.pinning ≡ None
  pub functions : numbers_of is ≡ numbers_of was

-- The effect of a reply, once its history was taken over. The core still fits its functions, and is correct in
-- each history in which the reply is correct. The turn is as after the whole reply.
pub record HasAnswered (next : Next) (old : CoreValue) (was : Objects) (reply : PortReply) (new : CoreValue)
    (is : Objects) (turn : PortTurn) : Type 0 where
  pub fits : IsCore next is new
  pub holds : (L : History) → IsRightPortReply next L old.call.need reply → CoreHolds next L was old
      → CoreHolds next L is new
  pub turn_fits : IsTurn new turn
  pub transition : ReplyTransition next old was reply new is turn
  pub adds : AddsOnly reply turn
  pub pins : PinsAfter old reply new.pins
  pub taken : new.taken ≡ taken_after old.taken reply
  pub left : left_pin new.pinning ≡ left_after reply
  pub recorded : new.recorded ≡ recorded_after old.recorded turn (open_call old)
  pub goes_on : IsAsk turn → open_call new ≡ open_call old
  pub functions : numbers_of is ≡ numbers_of was
  pub same : new ≡ record old {
    pins = new.pins;
    taken = new.taken;
    recorded = new.recorded;
    call = new.call;
    pinning = new.pinning;
  }
