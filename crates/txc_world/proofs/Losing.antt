-- What is refused for a snapshot that is gone, from a port to the end of a call.
use Rattle.std.proofs.Common.{◌≡◌, ◌∙◌, ◌⊎◌, ℕ, List, [], ◌∷◌, Ok, Err, Option, Some, None, inl, inr, refl, ap, sym, subst}
use Rattle.std.specs.Prelude.{IsNone, IsSome, Result, Vec}
use Rattle.std.specs.declared.alloc.Global.{Global}
use Rattle.txc_tags.specs.Keys.{Call}
use Rattle.txc_db.specs.declared.error.DbError.{DbError}
use Rattle.txc_db.specs.declared.error.DbError.TheVariants as errors
use Rattle.txc_cushion.specs.declared.error.AddError.{AddError}
use Rattle.txc_cushion.specs.declared.error.AddError.TheVariants as adds
use Rattle.txc_cushion.specs.declared.pin.Pin.{Pin}
use Rattle.txc_cushion.specs.Pin.{pin_of}
use Rattle.txc_pinset.specs.Members.{kept}
use Rattle.txc_app.specs.Eval.{Next}
use Rattle.txc_node.specs.declared.hit.HitValue.{HitValue}
use Rattle.txc_rows.specs.States.{RowValue, State}
use Rattle.txc_call_registry.specs.Objects.{activity_of, Objects}
use Rattle.txc_call.specs.declared.error.CallError.{CallError}
use Rattle.txc_call.specs.declared.error.CallError.TheVariants as calls
use Rattle.txc_call.specs.declared.error.CallError.TheVariants.{NoFunction}
use Rattle.txc_call.specs.declared.need.Need.{Need}
use Rattle.txc_call.specs.declared.need.Need.TheVariants as needs
use Rattle.txc_call.specs.declared.reply.Reply.{Reply as CallReply}
use Rattle.txc_call.specs.declared.reply.Reply.TheVariants as calls_replies
use Rattle.txc_call.specs.CallMachine.{started}
use Rattle.txc_call.specs.MachineTurn.{Turn as CallTurn}
use Rattle.txc_txn_ports.specs.declared.error.TxnError.{TxnError}
use Rattle.txc_txn_ports.specs.declared.error.TxnError.TheVariants as txns
use Rattle.txc_txn_ports.specs.declared.kept.Kept.TheVariants as kepts
use Rattle.txc_txn_ports.specs.declared.reply.PortReply.{PortReply}
use Rattle.txc_txn_ports.specs.declared.reply.PortReply.TheVariants as ports
use Rattle.txc_txn_ports.specs.declared.turn.Turn.{Turn}
use Rattle.txc_txn_ports.specs.declared.turn.Turn.TheVariants as turns
use Rattle.txc_txn_ports.specs.Turns.{PortTurn}
use Rattle.txc_txn_ports.specs.Refusals.{refused_call, refused_pin, refused_request}
use Rattle.txc_txn.specs.declared.pinning.Pinning.{Pinning}
use Rattle.txc_txn.specs.declared.pinning.PinStep.{PinStep}
use Rattle.txc_txn.specs.declared.pinning.PinStep.TheVariants.{Adding, Dropping}
use Rattle.txc_txn.specs.TxnCore.{first_call, left_after, left_pin, CoreValue, IsAnswered, IsPinningAt, IsTurn}
use Rattle.txc_txn_ports.specs.Turns.{IsAsk}
use Rattle.txc_txn.specs.RunningTxn.{TxnValue}
use Rattle.txc_txn.specs.Transitions.{AsksLookup, AsksPin, BeginTransition, CallTransition, HitTransition, IsWanting, PresentPinTransition, ReplyTransition, StandingTransition, StartTransition}
use Rattle.txc_txn_rw.specs.RwCore.{QueryTurn, RwValue}
use Rattle.txc_txn_rw.specs.Transitions.{standing_of, RwCallTransition, RwStandingTransition}
use Rattle.txc_world.specs.declared.port_outcome.PortOutcome.{PortOutcome}
use Rattle.txc_world.specs.declared.port_outcome.PortOutcome.TheVariants as dids
use Rattle.txc_world.specs.declared.reply.Reply.{Reply}
use Rattle.txc_world.specs.declared.reply.Reply.TheVariants as replies
use Rattle.txc_world.specs.declared.reply.Refusal.TheVariants as refusals
use Rattle.txc_world.specs.Actors.{DropsNone, IsNoted, IsToldQuery}
use Rattle.txc_world.specs.PortRequests.{DoesTell}
use Rattle.txc_world.specs.LostSnapshot.{IfDidLose, IfEndLost, IfGone, IfLost, IfPortLoses, IfReplyLost, IfResultLost, IfTurnLost}

-- there is something, or nothing
there_or_not : {X : Type 0} (o : Option X) → IsNone o ⊎ IsSome o
there_or_not None = inl search
there_or_not (Some x) = inr search

-- ---- what follows of it

module _ (P Q : Type 0) (transition : P → Q) where
  pub gone_so : (error : DbError) → IfGone error P → IfGone error Q
  gone_so (errors.SnapshotGone horizon) h = transition h
  gone_so error h = tt

  pub lost_so : (error : TxnError) → IfLost error P → IfLost error Q
  lost_so (txns.SnapshotLost horizon) h = transition h
  lost_so error h = tt

  pub did_so : (did : PortOutcome) → IfDidLose did P → IfDidLose did Q
  did_so (dids.Refused error) h = gone_so error h
  did_so did h = tt

  pub port_so : (reply : PortReply) → IfPortLoses reply P → IfPortLoses reply Q
  port_so (ports.Pin (Err error)) h = gone_so error h
  port_so (ports.Unpin (Err error)) h = gone_so error h
  port_so (ports.Query (Err error)) h = gone_so error h
  port_so reply h = tt

  result_so : {T : Type 0} → (result : Result T TxnError) → IfResultLost result P → IfResultLost result Q
  result_so (Err error) h = lost_so error h
  result_so (Ok value) h = tt

  end_so : (end : Option (Result (List ℕ) TxnError)) → IfEndLost end P → IfEndLost end Q
  end_so None h = tt
  end_so (Some result) h = result_so result h

  pub reply_so : (reply : Reply) → IfReplyLost reply P → IfReplyLost reply Q
  reply_so (replies.Asked did end) h = (did_so did h.0, end_so end h.1)
  reply_so (replies.Ended result) h = result_so result h
  reply_so (replies.Refused (refusals.Transaction error)) h = lost_so error h
  reply_so (replies.Refused (refusals.Database error)) h = gone_so error h
  reply_so reply h = tt

-- what never comes loses nothing
pub never_lost : {T : Type 0} → (P : Type 0) (result : Result T TxnError) → IfResultLost result ⊥ → IfResultLost result P
never_lost P result h = result_so ⊥ P (λ no. absurd no) result h

-- what is shown of a port shows what it lost
pub told_lost : (P : Type 0) (reply : PortReply) (did : PortOutcome) → DoesTell reply did → IfPortLoses reply P → IfDidLose did P
told_lost P (ports.Pin (Ok pinned)) did told lost = rw told tt
told_lost P (ports.Pin (Err e)) did told lost = rw told lost
told_lost P (ports.AddPin pinned (Ok added)) did told lost = rw told tt
told_lost P (ports.AddPin pinned (Err e)) did told lost = rw told tt
told_lost P (ports.Unpin (Ok unpinned)) did told lost = rw told tt
told_lost P (ports.Unpin (Err e)) did told lost = rw told lost
told_lost P (ports.Lookup (Some hit)) did told lost = rw told tt
told_lost P (ports.Lookup None) did told lost = rw told tt
told_lost P (ports.Query (Ok found)) did told lost = rw told.1 tt
told_lost P (ports.Query (Err e)) did told lost = rw told lost
told_lost P (ports.Insert (Some (kepts.Stored reach))) did told lost = rw told tt
told_lost P (ports.Insert (Some kepts.Earlier)) did told lost = rw told tt
told_lost P (ports.Insert None) did told lost = rw told tt

module _ (P : Type 0) where
  -- what the database refuses, the transaction is refused
  pub request_lost : (error : DbError) → IfGone error P → IfLost (refused_request error) P
  request_lost (errors.SnapshotGone horizon) h = h
  request_lost error h = tt

  -- no call of its own is refused so, and no pin that is to be added
  call_not_lost : (error : CallError) → IfLost (refused_call error) P
  call_not_lost calls.Memory = tt
  call_not_lost error = tt

  pin_not_lost : (error : AddError) → IfLost (refused_pin error) P
  pin_not_lost adds.Full = tt
  pin_not_lost error = tt

  -- ---- turns

  ask_not_lost : (turn : PortTurn) → IsAsk turn → IfTurnLost turn P
  ask_not_lost (turns.Ask request) asks = tt
  ask_not_lost (turns.Ended result) asks = absurd asks

  lookup_not_lost : (k : Call) (turn : PortTurn) → AsksLookup k turn → IfTurnLost turn P
  lookup_not_lost k (turns.Ask request) asks = tt
  lookup_not_lost k (turns.Ended result) asks = absurd asks

  present_not_lost : (turn : PortTurn) → AsksPin turn → IfTurnLost turn P
  present_not_lost (turns.Ask request) asks = tt
  present_not_lost (turns.Ended result) asks = absurd asks

  -- the end of a call is that of the turn
  pub noted_lost : {R X : Type 0} → (opened : Turn R (List ℕ) → X) (turn : Turn R (List ℕ)) (call : Option X) (end : Option (Result (List ℕ) TxnError)) → IsNoted opened turn call end
      → IfTurnLost turn P → IfEndLost end P
  noted_lost opened (turns.Ask request) call end noted h = rw noted.1 tt
  noted_lost opened (turns.Ended result) call end noted h = rw noted.1 h

  pub rows_lost : (result : Result (Vec RowValue Global) TxnError) (reply : Reply) → IsToldQuery result reply → IfResultLost result P → IfReplyLost reply P
  rows_lost (Ok rows) reply told h = rw told tt
  rows_lost (Err error) reply told h = rw told h

  -- ---- a call of a read-only transaction

  module _ (new : CoreValue) (objects : Objects) (turn : PortTurn) where
    wanting_not_lost : (need : Option Need) (error : TxnError) → IsWanting need new error → IfLost error P
    wanting_not_lost need error (inl is) = rw is tt
    wanting_not_lost need error (inr is) = rw is.3 tt

    begin_not_lost : (old : CoreValue) (before : Objects) (k : Call) → BeginTransition old before k new objects turn → IfTurnLost turn P
    begin_not_lost old before k transition = elim (there_or_not (activity_of before k.function)) [
      | inl none ↦ rw (transition.absent none).1 tt
      | inr some ↦ lookup_not_lost k turn (transition.there some).1
    ]

    pub start_not_lost : (old : CoreValue) (before : Objects) (k : Call) → StartTransition old before k new objects turn → IfTurnLost turn P
    start_not_lost old before k transition = go old.pins.members refl
      where
        go : (ms : List Pin) → old.pins.members ≡ ms → IfTurnLost turn P
        go [] none = present_not_lost turn (transition.pins none).asks
        go (m ∷ ms) some = begin_not_lost old before k (transition.begins (λ none. let no : m ∷ ms ≡ [] = sym some ∙ none in cc no))

    standing_not_lost : (stands : CallTurn) → StandingTransition stands new objects turn → IfTurnLost turn P
    standing_not_lost stands transition = standing_turn stands turn transition
      where
        standing_turn : (c : CallTurn) (t : PortTurn) → StandingTransition c new objects t → IfTurnLost t P
        standing_turn (Ok standing) (turns.Ended (Err error)) l = wanting_not_lost standing.need error l
        standing_turn (Ok standing) (turns.Ended (Ok value)) l = tt
        standing_turn (Ok standing) (turns.Ask request) l = tt
        standing_turn (Err error) t l = rw l (call_not_lost error)

    called_not_lost : (next : Next) (old : CoreValue) (before : Objects) (need : Need) (reply : CallReply) → CallTransition next old before need reply new objects turn
        → IfTurnLost turn P
    called_not_lost next old before need reply transition = standing_not_lost transition.0 transition.2

    hit_not_lost : (next : Next) (old : CoreValue) (before : Objects) (k : Call) (hit : HitValue) → HitTransition next old before k hit new objects turn → IfTurnLost turn P
    hit_not_lost next old before k hit transition = go (kept hit.reach old.pins.members) refl
      where
        go : (ms : List Pin) → kept hit.reach old.pins.members ≡ ms → IfTurnLost turn P
        go [] none = called_not_lost next old before (needs.Lookup k) calls_replies.Miss (transition.none none)
        go (m ∷ ms) some =
            called_not_lost next old before (needs.Lookup k) (calls_replies.Hit hit) (transition.held (λ none. let no : m ∷ ms ≡ [] = sym some ∙ none in cc no))

    pinned_not_lost : (first : Option Call) (old : CoreValue) (before : Objects) → PresentPinTransition first old before new objects turn → IfTurnLost turn P
    pinned_not_lost (Some k) old before transition = begin_not_lost old before k transition
    pinned_not_lost None old before transition = ask_not_lost turn transition.1

    -- a turn that comes of a reply loses what the port has lost
    pub reply_lost : (next : Next) (old : CoreValue) (before : Objects) (reply : PortReply) → IsAnswered old reply → DropsNone old
        → IfPortLoses reply P → ReplyTransition next old before reply new objects turn → IfTurnLost turn P
    reply_lost next old before (ports.Pin (Ok pinned)) to drops lost transition = rw transition tt
    reply_lost next old before (ports.Pin (Err e)) to drops lost transition = rw transition (request_lost e lost)
    reply_lost next old before (ports.AddPin pinned (Ok added)) to drops lost transition = pinned_not_lost (first_call old.pinning) old before transition
    reply_lost next old before (ports.AddPin pinned (Err e)) to drops lost transition = rw transition.0 tt
    reply_lost next old before (ports.Unpin unpinned) to drops lost transition =
        rw (transition to.0 to.1 to.2) (lost_so ⊥ P (λ no. absurd no) to.1 (drops to.0 to.1 to.2))
    reply_lost next old before (ports.Lookup None) to drops lost transition = called_not_lost next old before (needs.Lookup to.0) calls_replies.Miss (transition to.0 to.1.1)
    reply_lost next old before (ports.Lookup (Some hit)) to drops lost transition = hit_not_lost next old before to.0 hit.answer (transition to.0 to.1.1)
    reply_lost next old before (ports.Query (Ok found)) to drops lost transition =
        called_not_lost next old before (needs.Query to.0) (calls_replies.Found found.answer) (transition to.0 to.1.1)
    reply_lost next old before (ports.Query (Err e)) to drops lost transition = rw transition (request_lost e lost)
    reply_lost next old before (ports.Insert kept) to drops lost transition = called_not_lost next old before (needs.Insert to.0) calls_replies.Inserted (transition to.0 to.1.1)

  -- ---- a call of a read-write transaction

  pub rw_not_lost : (stands : CallTurn) (new : RwValue) (objects : Objects) (turn : QueryTurn) → RwStandingTransition stands new objects turn → IfTurnLost turn P
  rw_not_lost (Ok standing) new objects (turns.Ended (Err error)) transition = rw transition tt
  rw_not_lost (Ok standing) new objects (turns.Ended (Ok value)) transition = tt
  rw_not_lost (Ok standing) new objects (turns.Ask query) transition = tt
  rw_not_lost (Err error) new objects turn transition = rw transition (call_not_lost error)

  pub rw_start_not_lost : (next : Next) (s : State) (k : Call) (before : Objects) (new : RwValue) (objects : Objects) (turn : QueryTurn)
      → (IsSome (activity_of before k.function) → RwCallTransition next s (standing_of (started k) before) [] new objects turn)
      → (IsNone (activity_of before k.function) → turn ≡ turns.Ended (Err (txns.Call (NoFunction k.function)))) → IfTurnLost turn P
  rw_start_not_lost next s k before new objects turn transition missing = elim (there_or_not (activity_of before k.function)) [
    | inl none ↦ rw (missing none) tt
    | inr some ↦ let on = transition some in rw_not_lost on.0 new objects turn on.2
  ]

-- ---- the pin of the present

-- why the hold of a pin is to be taken away, where it is
abbrev pub reason_in : PinStep → Option TxnError
reason_in (Dropping stamp error) = Some error
reason_in step = None

abbrev pub reason_of : Option Pinning → Option TxnError
reason_of None = None
reason_of (Some p) = reason_in p.step

-- no pin is left to be added or unpinned
pub none_left : (c : CoreValue) → left_pin c.pinning ≡ None → DropsNone c
none_left c none = λ stamp error at. let some : Some stamp ≡ None = sym (ap left_pin at.1) ∙ none in cc some

adding_drops_none : (c : CoreValue) (pin : Pin) → IsPinningAt c (Adding pin) → DropsNone c
adding_drops_none c pin adding = λ stamp error at. let no : None ≡ Some error = ap reason_of (sym adding.1 ∙ at.1) in cc no

dropping_drops_none : (c : CoreValue) (stamp : ℕ) (error : AddError) → IsPinningAt c (Dropping stamp (refused_pin error)) → DropsNone c
dropping_drops_none c stamp error dropping = λ at_stamp why at.
    let both : Some (refused_pin error) ≡ Some why = ap reason_of (sym dropping.1 ∙ at.1) in
    let same : refused_pin error ≡ why = cc both in
    subst (λ (e : TxnError). IfLost e ⊥) same (pin_not_lost ⊥ error)

pub drops_next : (next : Next) (old new : TxnValue) (reply : PortReply) (turn : PortTurn) → IsTurn new.core turn → left_pin new.core.pinning ≡ left_after reply
    → ReplyTransition next old.core old.objects reply new.core new.objects turn → DropsNone new.core
drops_next next old new (ports.Pin (Ok pinned)) turn is left transition =
    adding_drops_none new.core (pin_of pinned) (subst (λ (t : PortTurn). IsTurn new.core t) transition is)
drops_next next old new (ports.AddPin pinned (Err e)) turn is left transition = dropping_drops_none new.core pinned.stamp e transition.1
drops_next next old new reply turn is left transition = none_left new.core left
