-- A read-write transaction whose caller runs the functions of its calls, so that no registry has objects for
-- them. Each definition is about any objects: those that a registry would have.
use Rattle.std.specs.Prelude.{◌≡◌, ◌⊎◌, ◌∷◌, [], ◌++◌, List, Option, Some, None, Result, Ok, Err}
use Rattle.txc_tags.specs.Keys.{Call}
use Rattle.txc_rows.specs.declared.query.Query.{Query}
use Rattle.txc_validity.specs.declared.answer.Found.{Found}
use Rattle.txc_db.specs.declared.error.DbError.{DbError}
use Rattle.txc_app.specs.declared.app.Limits.{Limits}
use Rattle.txc_app.specs.declared.ask.Answer.TheVariants as answers
use Rattle.txc_app.specs.declared.ask.Ask.{Ask as FunctionAsk}
use Rattle.txc_app.specs.Eval.{Next}
use Rattle.txc_call_registry.specs.Objects.{Objects, AllIdle}
use Rattle.txc_call.specs.declared.frame.Frame.{Frame}
use Rattle.txc_call.specs.declared.need.Need.{Need}
use Rattle.txc_call.specs.declared.need.Need.TheVariants as needs
use Rattle.txc_call.specs.declared.reply.Reply.TheVariants as replies
use Rattle.txc_call.specs.CallMachine.{Calling, InCall, IsCalling}
use Rattle.txc_call.specs.CallSteps.{need_after, AfterRan, NeedsFunction}
use Rattle.txc_call.specs.MachineTurn.{Turn as CallTurn}
use Rattle.txc_txn_ports.specs.declared.turn.Turn.TheVariants.{Ask, Ended}
use Rattle.txc_txn_ports.specs.Refusals.{refused_call, refused_request}
use Rattle.txc_txn_ports.specs.Turns.{IsAsk}
use Rattle.txc_txn_rw.specs.declared.given.Given.{Given}
use Rattle.txc_txn_rw.specs.RwCore.{QueryTurn, RwValue, answers_after, only_one, IsRwTurn, ReadingFits}
use Rattle.txc_txn_rw.specs.Transitions.{RwStandingTransition}

-- the result of a step by hand: a turn, or none if a function must begin or continue first
abbrev pub RwHandTurn : Type 0
RwHandTurn = Option QueryTurn

-- as of a core over a registry; but a call that needs a function may be open, and then the database is asked
-- nothing
pub record IsRwByHand (next : Next) (objects : Objects) (c : RwValue) : Type 0 where
  pub call : IsCalling next objects c.call
  pub at_one : InCall 1 c.call
  pub reading : ReadingFits c.reading c.call.need ⊎ ((c.reading ≡ None) × NeedsFunction c.call.need)

-- the call needs a function; or the core asks, or its call has ended
abbrev pub IsRwHandTurn : RwValue → RwHandTurn → Type 0
IsRwHandTurn c None = (c.reading ≡ None) × NeedsFunction c.call.need
IsRwHandTurn c (Some turn) = IsRwTurn c turn

-- the call continues
abbrev pub IsRwUnended : RwHandTurn → Type 0
IsRwUnended None = Unit {0}
IsRwUnended (Some turn) = IsAsk turn

-- a step leaves the objects as they are, unless its call ended without a value: then none runs
abbrev pub RwObjectsLeft : Objects → RwHandTurn → Objects → Type 0
RwObjectsLeft objects (Some (Ended (Err error))) after = AllIdle after
RwObjectsLeft objects (Some (Ended (Ok value))) after = after ≡ objects
RwObjectsLeft objects (Some (Ask query)) after = after ≡ objects
RwObjectsLeft objects None after = after ≡ objects

-- a value of the call is one answer more
abbrev pub answers_by_hand : List Given → Call → RwHandTurn → List Given
answers_by_hand answers k None = answers
answers_by_hand answers k (Some turn) = answers_after answers k turn

-- ---- the effect of a step

-- the need of the call without a node: a lookup is a miss, and an insertion is skipped
abbrev pub without_node : List Frame → Option Need → Option Need
without_node frames None = None
without_node frames (Some (needs.Lookup k)) = Some (need_after frames (needs.Lookup k) replies.Miss)
without_node frames (Some (needs.Query q)) = Some (needs.Query q)
without_node frames (Some (needs.Insert e)) = Some (need_after frames (needs.Insert e) replies.Inserted)
without_node frames (Some (needs.Value o)) = Some (needs.Value o)
without_node frames (Some (needs.Begin k)) = Some (needs.Begin k)
without_node frames (Some (needs.Resume x)) = Some (needs.Resume x)

-- The core's step after its call got into this state, or failed. If the call needs a function without a node,
-- there is no turn, and it stays in this state; otherwise the turn is one as over a registry.
abbrev pub RwHandTransition : CallTurn → RwValue → RwHandTurn → Type 0
RwHandTransition (Ok standing) new None =
    (new.call.frames ≡ standing.frames) × (new.call.asked ≡ standing.asked)
    × (new.call.need ≡ without_node standing.frames standing.need)
RwHandTransition (Ok standing) new (Some turn) =
    (¬ (NeedsFunction (without_node standing.frames standing.need)))
    × RwStandingTransition (Ok (record standing { need = without_node standing.frames standing.need })) new standing.objects turn
RwHandTransition (Err error) new turn = turn ≡ Some (Ended (Err (refused_call error)))

-- the effect of an ask of the function that the call needs, within these limits
abbrev pub RwAskTransition : Limits → RwValue → Need → FunctionAsk → RwValue → RwHandTurn → Type 0
RwAskTransition limits old need ask new turn = (objects : Objects)
    → (stands : CallTurn) × AfterRan limits old.call.frames old.call.asked objects need ask stands
    × RwHandTransition stands new turn

-- The effect of a step of the function that the call needs, within these limits: a turn or none. Everything
-- stays except the results, the call, and the pending query.
pub record HasRwAsked (limits : Limits) (old : RwValue) (ask : FunctionAsk) (new : RwValue) (turn : RwHandTurn)
    : Type 0 where
  pub turn_fits : IsRwHandTurn new turn
  pub transition : (need : Need) → old.call.need ≡ Some need → RwAskTransition limits old need ask new turn
  pub answers : new.answers ≡ answers_by_hand old.answers old.call.top turn
  pub goes_on : IsRwUnended turn → new.call.top ≡ old.call.top
  pub same : new ≡ record old { answers = new.answers; call = new.call; reading = new.reading }

-- the call is cancelled
abbrev pub given_up_call : Calling → Calling
given_up_call c = record c { frames = []; need = None }

-- The effect of the database's answer to the query of the call. It counts as read, and the innermost function
-- must continue with its rows, at the stamp 1, by which the call knows the state; or the call ends with the
-- error.
abbrev pub RwHearTransition : RwValue → Query → Result Found DbError → RwValue → RwHandTurn → Type 0
RwHearTransition old q (Ok found) new turn = (turn ≡ None) × (new ≡ record old {
  queried = old.queried ++ q ∷ [];
  call = record old.call {
    need = Some (needs.Resume (record { answer = answers.Rows found.rows.items; reach = Some only_one; tags = found.tags }));
  };
  reading = None;
})
RwHearTransition old q (Err error) new turn = (turn ≡ Some (Ended (Err (refused_request error))))
    × (new ≡ record old { call = given_up_call old.call; reading = None })
