-- The effects of the requests of an act.
use Rattle.std.specs.Prelude.{◌≡◌, ◌⊎◌, ◌≤◌, ◌-◌, ℕ, List, [], ◌∷◌, ◌++◌, Option, Some, None, IfSome, Result, Ok, Err}
use Rattle.std.specs.Option.{ForSome}
use Rattle.txc_tags.specs.Keys.{Call}
use Rattle.txc_stream.specs.Names.{Name}
use Rattle.txc_app.specs.Eval.{Next}
use Rattle.txc_app.specs.declared.ask.Answer.TheVariants as answers
use Rattle.txc_call_registry.specs.Objects.{AllIdle, Objects}
use Rattle.txc_call.specs.CallMachine.{Calling}
use Rattle.txc_call.specs.declared.need.HeldAnswer.{HeldAnswer}
use Rattle.txc_call.specs.declared.need.Need.{Need}
use Rattle.txc_call.specs.declared.need.Need.TheVariants as needs
use Rattle.txc_cushion.specs.Cushion.{after_add}
use Rattle.txc_cushion.specs.declared.error.AddError.{AddError}
use Rattle.txc_db.specs.Calls.{IsQueryRefused}
use Rattle.txc_db.specs.DatabaseValue.{DatabaseValue}
use Rattle.txc_db.specs.FrontsAndFeeds.{FrontValue}
use Rattle.txc_db.specs.declared.answered.Answered.{Answered as Shows}
use Rattle.txc_node.specs.declared.hit.HitValue.{HitValue}
use Rattle.txc_shared.specs.Nodes.{NodeValue}
use Rattle.txc_txn_ports.specs.declared.kept.Kept.{Kept}
use Rattle.txc_db.specs.declared.error.DbError.{DbError}
use Rattle.txc_db.specs.declared.pinned.Pinned.{Pinned}
use Rattle.txc_rows.specs.declared.query.Query.{Query as RowQuery}
use Rattle.txc_txn_ports.specs.Refusals.{refused_pin, refused_request}
use Rattle.txc_txn_ports.specs.declared.error.TxnError.{TxnError}
use Rattle.txc_txn_ports.specs.declared.error.TxnError.TheVariants.{Memory}
use Rattle.txc_txn_ports.specs.PortRequests.{TurnAddsSuch}
use Rattle.txc_txn_ports.specs.Fronts.{front_of_reply}
use Rattle.txc_txn_ports.specs.declared.recorded.Recorded.{Recorded}
use Rattle.txc_txn_ports.specs.declared.reply.PortReply.{PortReply}
use Rattle.txc_txn_ports.specs.declared.request.PortRequest.TheVariants as requests
use Rattle.txc_txn_ports.specs.Turns.{IsAsk}
use Rattle.txc_txn_ports.specs.declared.turn.Turn.TheVariants.{Ask, Ended}
use Rattle.txc_txn.specs.declared.pinning.PinStep.TheVariants.{Dropping}
use Rattle.txc_txn.specs.ByHand.{HandTurn, IsHandTurn, IsUnended, ObjectsLeft, recorded_by_hand}
use Rattle.txc_txn.specs.TxnCore.{CoreValue, first_call, least_present, open_call, IsAnswered, IsPinningAt}
use Rattle.txc_txn.specs.RunningTxn.{TxnValue, IsShownRight}
use Rattle.txc_caller.specs.CallerAct.{HasDroppedPin, HasGivenPin}
use Rattle.txc_caller.specs.Ports.{CallerPorts, CallerInsertTransition, CallerLookupTransition, HasRefusedPin, IsLetGo}
use Rattle.txc_caller.specs.CallerTxn.{read_stamp, IsReadingStep, IsRestingCore, KeepsTxn}
use Rattle.txc_caller.specs.declared.step.CallerError.{CallerError}
use Rattle.txc_caller.specs.declared.step.Step.{Step}
use Rattle.txc_caller.specs.declared.step.Step.TheVariants.{Answered, Compute, Value}

-- the turn is one of the core's, a pin that it asks to add is of the row, and there is one node
pub record IsGoing (row : Name) (c : CoreValue) (turn : HandTurn) : Type 0 where
  pub fits : IsHandTurn c turn
  pub adds : IfSome turn (TurnAddsSuch (λ front. front.events ≡ row))
  pub events : c.seen.events ≡ row
  pub nodes : c.nodes ≡ 1

-- the reply is one to what the transaction asks, and right in the history that it shows, which is of its row
pub record IsRightReplyTo (next : Next) (t : TxnValue) (reply : PortReply) : Type 0 where
  pub answers : IsAnswered t.core reply
  pub row : ForSome (front_of_reply reply) (λ front. front.events ≡ t.core.seen.events)
  pub right : IsShownRight next t reply

-- the turn is of this call, before which these values were recorded
pub record IsTurnOf (before : List Recorded) (k : Call) (c : CoreValue) (turn : HandTurn) : Type 0 where
  pub begins : IsUnended turn → open_call c ≡ Some k
  pub recorded : c.recorded ≡ recorded_by_hand before turn (Some k)

-- the call is still to be looked up, or to begin after the pin of the present
abbrev pub WaitsForCall : CoreValue → Call → Type 0
WaitsForCall c k = (c.call.need ≡ Some (needs.Lookup k)) ⊎ (first_call c.pinning ≡ Some k)

-- the answer is the value that was to be kept at the node, or the answer that was held already
abbrev pub IsHeldFor : Option Need → HeldAnswer → Type 0
IsHeldFor (Some (needs.Insert e)) x = x.answer ≡ answers.Value e.value
IsHeldFor (Some (needs.Resume held)) x = x ≡ held
IsHeldFor need x = Unit {0}

-- the number of requests about the pin of the present that may follow, including this one: the pin, its
-- addition, the removal of its hold
abbrev pub pins_to_come : HandTurn → ℕ
pins_to_come (Some (Ask (requests.Pin now at_least))) = 3
pins_to_come (Some (Ask (requests.AddPin pinned))) = 2
pins_to_come (Some (Ask (requests.Unpin stamp))) = 1
pins_to_come turn = 0

-- The function that must continue once the requests of this turn were made, among the frames: that of the call
-- that was looked up, or the innermost one.
abbrev pub FunctionAfter : CoreValue → HandTurn → Calling → Result Step CallerError → Type 0
FunctionAfter old turn new (Ok Compute) = IsUnended turn
    × ((k : Call) × WaitsForCall old k × (new.need ≡ Some (needs.Begin k)) × (new.frames ≡ old.call.frames))
FunctionAfter old turn new (Ok Answered) = IsUnended turn
    × ((x : HeldAnswer) × (new.need ≡ Some (needs.Resume x)) × (new.frames ≡ old.call.frames) × IsHeldFor old.call.need x)
FunctionAfter old turn new step = Unit {0}

-- the objects are those after the turn; all are idle after an error
abbrev pub ObjectsAfter : Objects → Objects → Result Step CallerError → Type 0
ObjectsAfter old new (Ok step) = new ≡ old
ObjectsAfter old new (Err error) = AllIdle new

-- the effect of a turn whose request was made, if it was one about the pin of the present
pub record HasPassed (row : Name) (old : TxnValue) (turn : HandTurn) (new : TxnValue) (after : HandTurn) : Type 0 where
  pub going : IsGoing row new.core after
  pub of_call : (before : List Recorded) (k : Call) → IsTurnOf before k old.core turn → IsTurnOf before k new.core after
  pub keeps : KeepsTxn old new
  pub objects : (was : Objects) → ObjectsLeft was turn old.objects → ObjectsLeft was after new.objects
  pub fewer : pins_to_come after ≤ pins_to_come turn - 1
  pub none : after ≡ None → (turn ≡ None) × (new.core.call ≡ old.core.call)
  pub unended : IsUnended after → IsUnended turn
  pub waits : IsUnended after → (k : Call) → WaitsForCall new.core k → WaitsForCall old.core k
  pub frames : IsUnended after → new.core.call.frames ≡ old.core.call.frames
  pub held : IsUnended after → (x : HeldAnswer) → IsHeldFor new.core.call.need x → IsHeldFor old.core.call.need x

-- The function that a call needs once its last request was made: that of the call that was looked up, or the
-- innermost one.
abbrev pub NeedsAfter : CoreValue → Option Need → Type 0
NeedsAfter old (Some (needs.Begin k)) = WaitsForCall old k
NeedsAfter old (Some (needs.Resume x)) = IsHeldFor old.call.need x
NeedsAfter old need = Unit {0}

-- the effect of a turn whose request was made, if it was one: no further request follows
pub record HasMadeRequest (old : TxnValue) (turn : HandTurn) (new : TxnValue) (after : HandTurn) : Type 0 where
  pub fits : IsHandTurn new.core after
  pub rests : IfSome after (λ t. ¬ (IsAsk t))
  pub of_call : (before : List Recorded) (k : Call) → IsTurnOf before k old.core turn → IsTurnOf before k new.core after
  pub keeps : KeepsTxn old new
  pub objects : (was : Objects) → ObjectsLeft was turn old.objects → ObjectsLeft was after new.objects
  pub unended : after ≡ None → IsUnended turn
  pub frames : after ≡ None → new.core.call.frames ≡ old.core.call.frames
  pub needs : after ≡ None → NeedsAfter old.core new.core.call.need

-- The effect of a turn whose requests were all made.
pub record HasServed (old : TxnValue) (turn : HandTurn) (new : TxnValue) (step : Result Step CallerError) : Type 0 where
  pub keeps : KeepsTxn old new
  pub rests : IsRestingCore new.core
  pub goes_on : FunctionAfter old.core turn new.core.call step
  pub objects : (was : Objects) → ObjectsLeft was turn old.objects → ObjectsAfter was new.objects step
  pub step_is : (before : List Recorded) (k : Call) → IsTurnOf before k old.core turn
      → IsReadingStep (record old.core { recorded = before }) new.core k step

-- ---- the effect of a turn's requests on the ports

-- the error with which the call ended, if it failed
abbrev pub turn_error : HandTurn → Option TxnError
turn_error (Some (Ended (Err error))) = Some error
turn_error turn = None

-- The purpose of the last request of an act: the lookup of the call that begins after the pin, or else the
-- call's need.
abbrev pub coming_need : Option Call → Option Need → Option Need
coming_need None need = need
coming_need (Some k) need = Some (needs.Lookup k)

abbrev pub need_to_come : CoreValue → Option Need
need_to_come c = coming_need (first_call c.pinning) c.call.need

-- the step of the node that is for this need
abbrev pub IsNeedStep : Option ℕ → Option Need → NodeValue → NodeValue → Type 0
IsNeedStep budget (Some (needs.Lookup k)) old new =
    (lo : ℕ) × (hi : ℕ) × (hit : Option (Shows HitValue)) × CallerLookupTransition k lo hi old new hit
IsNeedStep budget (Some (needs.Insert entry)) old new =
    (seen : FrontValue) × (kept : Option Kept) × CallerInsertTransition budget seen entry old new kept
IsNeedStep budget need old new = new ≡ old

-- the database failed at the needed query, at this stamp
abbrev pub IsNeedRefused : Option Need → ℕ → DatabaseValue → TxnError → Type 0
IsNeedRefused need stamp d error = (query : RowQuery) × (need ≡ Some (needs.Query query))
    × ((cause : DbError) × IsQueryRefused d query stamp cause × (error ≡ refused_request cause))

-- nothing was asked
pub record StillTransition (c : CoreValue) (old : CallerPorts) (turn : HandTurn) (new : CallerPorts) (taken : List ℕ)
    (failed : Option TxnError) : Type 0 where
  pub ports : new ≡ old
  pub taken_is : taken ≡ c.taken
  pub failed_so : failed ≡ turn_error turn

-- The last request was made, which is not about the pin. If the call failed then, memory was missing, or the
-- database failed at the query.
pub record LastTransition (c : CoreValue) (old new : CallerPorts) (taken : List ℕ) (failed : Option TxnError) : Type 0 where
  pub same : new ≡ record old { node = new.node }
  pub step : IsNeedStep old.budget c.call.need old.node new.node
  pub taken_is : taken ≡ c.taken
  pub refused : IfSome failed (λ error. (error ≡ Memory)
      ⊎ ((stamp : ℕ) × (read_stamp c ≡ Some stamp) × IsNeedRefused c.call.need stamp old.database error))

-- the pin was added, and then the last request made, for this need
pub record AddedTransition (was : List ℕ) (need : Option Need) (old : CallerPorts) (pinned : Pinned) (new : CallerPorts)
    (taken : List ℕ) (failed : Option TxnError) : Type 0 where
  pub between : CallerPorts
  pub added : between ≡ record old { cushion = after_add old.cushion pinned }
  pub same : new ≡ record between { node = new.node }
  pub step : IsNeedStep between.budget need between.node new.node
  pub taken_is : taken ≡ was ++ pinned.stamp ∷ []
  pub refused : IfSome failed (λ error. (error ≡ Memory) ⊎ IsNeedRefused need pinned.stamp between.database error)

-- the pin was not added, and the call failed for that reason
pub record DroppedTransition (was : List ℕ) (old : CallerPorts) (pinned : Pinned) (new : CallerPorts) (taken : List ℕ)
    (failed : Option TxnError) : Type 0 where
  pub cause : AddError
  pub dropped : HasDroppedPin old pinned cause new
  pub taken_is : taken ≡ was
  pub failed_so : failed ≡ Some (refused_pin cause)

abbrev pub ActAddTransition : List ℕ → Option Need → CallerPorts → Pinned → CallerPorts → List ℕ → Option TxnError → Type 0
ActAddTransition was need old pinned new taken failed =
    AddedTransition was need old pinned new taken failed ⊎ DroppedTransition was old pinned new taken failed

-- the hold of a pin that was not added was removed, and the call failed for that reason
pub record ActUnpinTransition (c : CoreValue) (old : CallerPorts) (stamp : ℕ) (new : CallerPorts) (taken : List ℕ)
    (failed : Option TxnError) : Type 0 where
  pub error : TxnError
  pub due : IsPinningAt c (Dropping stamp error)
  pub unheld : IsLetGo (Some stamp) old.database new.database
  pub same : new ≡ record old { database = new.database }
  pub taken_is : taken ≡ c.taken
  pub failed_so : failed ≡ Some error

-- the database made no pin, and the call failed for that reason
pub record UngivenTransition (c : CoreValue) (old new : CallerPorts) (taken : List ℕ) (failed : Option TxnError) : Type 0 where
  pub cause : DbError
  pub refused : HasRefusedPin (least_present c.bounds c.pins.members) old new cause
  pub taken_is : taken ≡ c.taken
  pub failed_so : failed ≡ Some (refused_request cause)

-- it gave one, which was to be added
pub record GivenTransition (c : CoreValue) (old new : CallerPorts) (taken : List ℕ) (failed : Option TxnError) : Type 0 where
  pub given : CallerPorts
  pub pinned : Pinned
  pub gives : HasGivenPin c old given pinned
  pub adds : ActAddTransition c.taken (need_to_come c) given pinned new taken failed

-- The ports after all requests of a turn, and the stamps that were issued to the core or added by it; and the
-- error of the call, if it failed.
abbrev pub TurnTransition : CoreValue → CallerPorts → HandTurn → CallerPorts → List ℕ → Option TxnError → Type 0
TurnTransition c old (Some (Ask (requests.Pin now at_least))) new taken failed =
    UngivenTransition c old new taken failed ⊎ GivenTransition c old new taken failed
TurnTransition c old (Some (Ask (requests.AddPin pinned))) new taken failed =
    ActAddTransition c.taken (need_to_come c) old pinned new taken failed
TurnTransition c old (Some (Ask (requests.Unpin stamp))) new taken failed = ActUnpinTransition c old stamp new taken failed
TurnTransition c old (Some (Ask (requests.Lookup node key lo hi))) new taken failed = LastTransition c old new taken failed
TurnTransition c old (Some (Ask (requests.Query query stamp))) new taken failed = LastTransition c old new taken failed
TurnTransition c old (Some (Ask (requests.Insert node entry))) new taken failed = LastTransition c old new taken failed
TurnTransition c old (Some (Ended outcome)) new taken failed = StillTransition c old (Some (Ended outcome)) new taken failed
TurnTransition c old None new taken failed = StillTransition c old None new taken failed

-- the effect of the turn's requests, if those of the other turn, which follows it, have the same effect
abbrev pub TransitionBy : CoreValue → CallerPorts → HandTurn → CoreValue → CallerPorts → HandTurn → Type 0
TransitionBy c old turn d mid after = (new : CallerPorts) (taken : List ℕ) (failed : Option TxnError)
    → TurnTransition d mid after new taken failed → TurnTransition c old turn new taken failed
