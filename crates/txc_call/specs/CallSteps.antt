-- A call that is run in single steps: a reply is taken, or the function that the call needs asks something. A
-- registry runs the needed functions at once; a caller that has none runs each itself.
use Rattle.std.specs.Prelude.{◌≡◌, ℕ, ◌+◌, nat_le, Bool, true, false, if◌then◌else◌, List, [], ◌∷◌, Option, Some, None, IsSome}
use Rattle.txc_tags.specs.Keys.{Call}
use Rattle.txc_db.specs.History.{History}
use Rattle.txc_app.specs.declared.app.Limits.{Limits}
use Rattle.txc_app.specs.declared.ask.Ask.{Ask}
use Rattle.txc_app.specs.declared.ask.Ask.TheVariants as asks
use Rattle.txc_app.specs.Eval.{Next}
use Rattle.txc_call_registry.specs.Activity.{idle}
use Rattle.txc_call_registry.specs.Objects.{Objects, activity_of, with_activity}
use Rattle.txc_call.specs.declared.error.CallError.{CallError}
use Rattle.txc_call.specs.declared.error.CallError.TheVariants as errors
use Rattle.txc_call.specs.declared.frame.Frame.{Frame}
use Rattle.txc_call.specs.declared.need.Need.{Need}
use Rattle.txc_call.specs.declared.need.Need.TheVariants as needs
use Rattle.txc_call.specs.declared.need.Outcome.{Outcome}
use Rattle.txc_call.specs.declared.reply.Reply.{Reply}
use Rattle.txc_call.specs.declared.reply.Reply.TheVariants as replies
use Rattle.txc_call.specs.Frames.{begun_frame, given}
use Rattle.txc_call.specs.CallMachine.{Calling, CallHolds, CallIsUnreached, InCall, IsCalling}
use Rattle.txc_call.specs.MachineTurn.{Onward, Turn, UnlessMemory, UnlessRefused, AfterMiss, AllowedTransition, AnswerTransition, count_refusal, needing, next_ask, outcome_of, outwards, rows_held, unreached, value_held, value_refusal, with_answer, with_begun}

-- ---- replies

-- the need for which a value is held: the next answer of the innermost frame, or, without a frame, the call's
-- value
abbrev pub value_need : List Frame → Outcome → Need
value_need [] o = needs.Value o
value_need (frame ∷ frames) o = needs.Resume (value_held o)

-- the need after a reply, before any function continues
abbrev pub need_after : List Frame → Need → Reply → Need
need_after frames (needs.Lookup k) replies.Miss = needs.Begin k
need_after frames (needs.Lookup k) (replies.Hit hit) = value_need frames (outcome_of k hit.value hit.reach hit.tags)
need_after frames (needs.Query q) (replies.Found found) = needs.Resume (rows_held found)
need_after frames (needs.Insert e) replies.Inserted = value_need frames (outcome_of e.key e.value e.reach e.tags)
need_after frames need reply = need

-- ---- asks

-- the ask with which the needed function begins, or continues after its answer; none if no function is needed
abbrev pub due_ask : Next → Objects → List Frame → Need → Option Ask
due_ask next objects frames (needs.Begin k) = next.says k.function k.args []
due_ask next objects (frame ∷ frames) (needs.Resume x) = next_ask next objects frame x.answer
due_ask next objects frames need = None

-- if it calls a function, there is an object of that number
abbrev pub FunctionExists : Objects → Ask → Type 0
FunctionExists objects (asks.Query q) = Unit {0}
FunctionExists objects (asks.Call k) = IsSome (activity_of objects k.function)
FunctionExists objects (asks.Done bytes) = Unit {0}

-- the function is done
abbrev pub is_done : Ask → Bool
is_done (asks.Query q) = false
is_done (asks.Call k) = false
is_done (asks.Done bytes) = true

-- the objects after the one of this number asked this: it is idle if it is done
abbrev pub with_ask : Objects → ℕ → Ask → Objects
with_ask objects f ask = if is_done ask then with_activity objects f idle else objects

-- the error of a call by the function f of one that is not lower, whether or not that exists
abbrev pub order_refusal : ℕ → Call → Option CallError
order_refusal f k = if nat_le f k.function then Some (errors.CallOrder f k.function) else None

-- the error of a step of the function f by the step alone, whichever functions exist, if a value may have at
-- most `most` bytes
abbrev pub form_refusal : ℕ → ℕ → Ask → Option CallError
form_refusal most f (asks.Query q) = None
form_refusal most f (asks.Call k) = order_refusal f k
form_refusal most f (asks.Done bytes) = value_refusal most bytes

-- a value without a reach is held for the frames around its own, and none of their functions continues
abbrev pub stays_held : List Frame → ℕ → Frame → Turn → Onward
stays_held outer asked frame turn after bytes =
    turn ≡ needing outer (asked + 1) (value_need outer (unreached frame bytes)) after

-- the effect of one ask of the innermost frame, before any other function continues
abbrev pub AfterOneAsk : Limits → List Frame → ℕ → Frame → Ask → Objects → Turn → Type 0
AfterOneAsk limits outer asked frame ask objects turn =
    UnlessRefused (count_refusal limits.asks frame.answers asked) turn
    (UnlessRefused (form_refusal limits.value frame.key.function ask) turn
    (AllowedTransition outer (asked + 1) frame ask objects (stays_held outer asked frame turn) turn))

-- ---- steps

-- the number of the needed function
abbrev pub needed_function : List Frame → Need → ℕ
needed_function frames (needs.Begin k) = k.function
needed_function (frame ∷ frames) (needs.Resume x) = frame.key.function
needed_function frames need = 0

-- the call that the needed function computes; none if no function is needed
abbrev pub computing : List Frame → Option Need → Option Call
computing frames (Some (needs.Begin k)) = Some k
computing (frame ∷ frames) (Some (needs.Resume x)) = Some frame.key
computing frames need = None

-- the objects after the needed function began, or was given its answer
abbrev pub with_resumed : Objects → List Frame → Need → Objects
with_resumed objects frames (needs.Begin k) = with_begun objects k
with_resumed objects (frame ∷ frames) (needs.Resume x) = with_answer objects frame.key.function x.answer
with_resumed objects frames need = objects

-- .. and then asked this
abbrev pub objects_after : Objects → List Frame → Need → Ask → Objects
objects_after objects frames need ask = with_ask (with_resumed objects frames need) (needed_function frames need) ask

-- the call needs a function to begin or to continue
abbrev pub NeedsFunction : Option Need → Type 0
NeedsFunction None = ⊥
NeedsFunction (Some (needs.Lookup k)) = ⊥
NeedsFunction (Some (needs.Query q)) = ⊥
NeedsFunction (Some (needs.Insert e)) = ⊥
NeedsFunction (Some (needs.Value o)) = ⊥
NeedsFunction (Some (needs.Begin k)) = Unit {0}
NeedsFunction (Some (needs.Resume x)) = Unit {0}

-- the effect of the needed function's step: the call ends because an allocation failed, or continues as after
-- any step
abbrev pub AfterRan : Limits → List Frame → ℕ → Objects → Need → Ask → Turn → Type 0
AfterRan limits frames asked objects (needs.Begin k) ask turn =
    UnlessMemory turn (AfterOneAsk limits frames asked (begun_frame k) ask (with_begun objects k) turn)
AfterRan limits (frame ∷ outer) asked objects (needs.Resume x) ask turn =
    UnlessMemory turn (AfterOneAsk limits outer asked (given frame x.reach x.tags) ask
    (with_answer objects frame.key.function x.answer) turn)
AfterRan limits frames asked objects need ask turn = ⊥

-- the effect of a need if a registry runs the needed functions at once
abbrev pub AfterNeed : Next → List Frame → ℕ → Objects → Need → Turn → Type 0
AfterNeed next frames asked objects (needs.Lookup k) turn = turn ≡ needing frames asked (needs.Lookup k) objects
AfterNeed next frames asked objects (needs.Query q) turn = turn ≡ needing frames asked (needs.Query q) objects
AfterNeed next frames asked objects (needs.Insert e) turn = turn ≡ needing frames asked (needs.Insert e) objects
AfterNeed next frames asked objects (needs.Value o) turn = turn ≡ needing frames asked (needs.Value o) objects
AfterNeed next frames asked objects (needs.Begin k) turn = AfterMiss next frames asked k objects turn
AfterNeed next [] asked objects (needs.Resume x) turn = ⊥
AfterNeed next (frame ∷ outer) asked objects (needs.Resume x) turn =
    AnswerTransition next outer asked frame x objects
    (outwards next outer asked (given frame x.reach x.tags) turn) turn

-- The invariant that a step of a call keeps, with the objects after it. The frames wait for the new need; all
-- answers are still correct in each history in which they were; and no stamp leaves the call's reaches.
pub record StepKeeps (next : Next) (objects : Objects) (old : Calling) (after : Objects) (new : Calling) : Type 0 where
  pub fits : IsCalling next after new
  pub holds : (L : History) → CallHolds next L objects old → CallHolds next L after new
  pub within : (t : ℕ) → InCall t old → InCall t new
  pub no_reach : CallIsUnreached old → CallIsUnreached new
