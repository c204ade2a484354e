-- The effect of a reply: the next need of the call, or its error.
use Rattle.std.specs.Prelude.{◌≡◌, ◌⊎◌, ℕ, ◌+◌, nat_le, if◌then◌else◌, List, [], ◌∷◌, ◌++◌, length}
use Rattle.std.specs.Prelude.{Option, Some, None, is_some, Result, Ok, Err}
use Rattle.txc_stamp.specs.Interval.{Interval}
use Rattle.txc_tags.specs.declared.tag.Tag.{Tag}
use Rattle.txc_tags.specs.Keys.{Call}
use Rattle.txc_node.specs.declared.entry.Entry.{Entry}
use Rattle.txc_validity.specs.declared.answer.Found.{Found}
use Rattle.txc_app.specs.declared.app.Limits.{Limits}
use Rattle.txc_app.specs.declared.ask.Ask.{Ask}
use Rattle.txc_app.specs.declared.ask.Ask.TheVariants as asks
use Rattle.txc_app.specs.declared.ask.Answer.{Answer}
use Rattle.txc_app.specs.declared.ask.Answer.TheVariants as answers
use Rattle.txc_app.specs.Eval.{Next}
use Rattle.txc_call_registry.specs.declared.cacheable.CallFault.{CallFault}
use Rattle.txc_call_registry.specs.declared.cacheable.CallFault.TheVariants as faults
use Rattle.txc_call_registry.specs.Activity.{answered, begun, idle, running}
use Rattle.txc_call_registry.specs.Objects.{Objects, activation_of, activity_of, with_activity}
use Rattle.txc_call.specs.declared.error.CallError.{CallError}
use Rattle.txc_call.specs.declared.error.CallError.TheVariants as errors
use Rattle.txc_call.specs.declared.frame.Frame.{Frame}
use Rattle.txc_call.specs.declared.frames.TheConstants.{MAX_CALL_ASKS}
use Rattle.txc_call.specs.declared.need.HeldAnswer.{HeldAnswer}
use Rattle.txc_call.specs.declared.need.Need.{Need}
use Rattle.txc_call.specs.declared.need.Need.TheVariants as needs
use Rattle.txc_call.specs.declared.need.Outcome.{Outcome}
use Rattle.txc_call.specs.declared.reply.Reply.{Reply}
use Rattle.txc_call.specs.declared.reply.Reply.TheVariants as replies
use Rattle.txc_call.specs.Frames.{answers_in, begun_frame, given}

-- a call: its open frames, innermost first; the number of asks of all its activations; its need; and its
-- objects
pub record Standing : Type 0 where
  pub frames : List Frame
  pub asked : ℕ
  pub need : Option Need
  pub objects : Objects

-- the call's state then, or its error
abbrev pub Turn : Type 0
Turn = Result Standing CallError

-- it needs this
abbrev pub needing : List Frame → ℕ → Need → Objects → Turn
needing frames asked need objects =
    Ok (record { frames = frames; asked = asked; need = Some need; objects = objects })

-- ---- errors

-- the error of one step more, by the number of steps of its activation, its limit, and the number of steps of
-- the call
abbrev pub count_refusal : ℕ → ℕ → ℕ → Option CallError
count_refusal most own all =
    if nat_le most own then Some errors.AskLimit
    else (if nat_le MAX_CALL_ASKS all then Some errors.Budget else None)

-- the error if the function f may not make the call
abbrev pub call_refusal : Objects → ℕ → Call → Option CallError
call_refusal objects f k =
    if nat_le f k.function then Some (errors.CallOrder f k.function)
    else (if is_some (activity_of objects k.function) then None else Some (errors.NoFunction k.function))

-- the error if the value has more than `most` bytes
abbrev pub value_refusal : ℕ → List ℕ → Option CallError
value_refusal most bytes = if nat_le (length bytes) most then None else Some errors.ValueTooLong

-- the error of this step of the function f
abbrev pub ask_refusal : Limits → Objects → ℕ → Ask → Option CallError
ask_refusal limits objects f (asks.Query q) = None
ask_refusal limits objects f (asks.Call k) = call_refusal objects f k
ask_refusal limits objects f (asks.Done bytes) = value_refusal limits.value bytes

-- the error, if there is one; else this holds
abbrev pub UnlessRefused : Option CallError → Turn → Type 0 → Type 0
UnlessRefused (Some error) turn allowed = turn ≡ Err error
UnlessRefused None turn allowed = allowed

-- the error of the call for a fault of the object of this number
abbrev pub error_of : ℕ → CallFault → CallError
error_of f faults.Memory = errors.ObjectMemory
error_of f faults.Busy = errors.Busy
error_of f faults.Args = errors.BadArguments f

-- the machine or an object has no memory
abbrev pub IsOutOfMemory : CallError → Type 0
IsOutOfMemory error = (error ≡ errors.Memory) ⊎ (error ≡ errors.ObjectMemory)

-- an error for want of memory, or else this holds
abbrev pub UnlessMemory : Turn → Type 0 → Type 0
UnlessMemory turn rest = ((error : CallError) × (turn ≡ Err error) × IsOutOfMemory error) ⊎ rest

-- ---- asks

-- the entry of a frame that is done
abbrev pub entry_of_frame : Frame → List ℕ → Interval → Entry
entry_of_frame frame bytes reach = record { key = frame.key; value = bytes; reach = reach; tags = frame.tags }

-- the continuation with a value without a reach, by the objects and its bytes
abbrev pub Onward : Type 1
Onward = Objects → List ℕ → Type 0

-- the effect of a frame that is done, once its object is idle: a value with a reach is inserted, any other is
-- passed on
abbrev pub DoneTransition : List Frame → ℕ → Frame → Option Interval → List ℕ → Objects → Onward → Turn → Type 0
DoneTransition outer asked frame (Some reach) bytes objects goes_on turn =
    turn ≡ needing outer asked (needs.Insert (entry_of_frame frame bytes reach)) objects
DoneTransition outer asked frame None bytes objects goes_on turn = goes_on objects bytes

-- the effect of a step that is allowed
abbrev pub AllowedTransition : List Frame → ℕ → Frame → Ask → Objects → Onward → Turn → Type 0
AllowedTransition outer asked frame (asks.Query q) objects goes_on turn =
    turn ≡ needing (frame ∷ outer) asked (needs.Query q) objects
AllowedTransition outer asked frame (asks.Call k) objects goes_on turn =
    turn ≡ needing (frame ∷ outer) asked (needs.Lookup k) objects
AllowedTransition outer asked frame (asks.Done bytes) objects goes_on turn =
    DoneTransition outer asked frame frame.reach bytes (with_activity objects frame.key.function idle) goes_on turn

-- the effect of a step of the innermost frame: it is counted, then checked
abbrev pub AskTransition : Limits → List Frame → ℕ → Frame → Ask → Objects → Onward → Turn → Type 0
AskTransition limits outer asked frame ask objects goes_on turn =
    UnlessRefused (count_refusal limits.asks frame.answers asked) turn
    (UnlessRefused (ask_refusal limits objects frame.key.function ask) turn
    (AllowedTransition outer (asked + 1) frame ask objects goes_on turn))

-- ---- answers

-- the next step of the frame after one more answer
abbrev pub next_ask : Next → Objects → Frame → Answer → Option Ask
next_ask next objects frame x =
    next.says frame.key.function frame.key.args (answers_in objects frame.key.function ++ x ∷ [])

-- the objects, after that of this number got one more answer
abbrev pub with_answer : Objects → ℕ → Answer → Objects
with_answer objects f x = with_activity objects f (running (answered (activation_of objects f) x))

-- the outcome of a frame that is done without a reach
abbrev pub unreached : Frame → List ℕ → Outcome
unreached frame bytes = record { key = frame.key; value = bytes; reach = None; tags = frame.tags }

-- the answer of a call's value
abbrev pub value_held : Outcome → HeldAnswer
value_held o = record { answer = answers.Value o.value; reach = o.reach; tags = o.tags }

-- the answer of what was found
abbrev pub rows_held : Found → HeldAnswer
rows_held found =
    record { answer = answers.Rows found.rows.items; reach = Some found.reach; tags = found.tags }

-- the effect of an answer to the innermost frame: it continues with it, if memory can be allocated
abbrev pub AnswerTransition : Next → List Frame → ℕ → Frame → HeldAnswer → Objects → Onward → Turn → Type 0
AnswerTransition next outer asked frame x objects goes_on turn =
    UnlessMemory turn (
    (ask : Ask) × (next_ask next objects frame x.answer ≡ Some ask)
    × AskTransition next.limits outer asked (given frame x.reach x.tags) ask
    (with_answer objects frame.key.function x.answer) goes_on turn
    )

-- the effect of the value of a call: it is the next answer of the innermost frame, or, without a frame, the
-- value of the whole call
abbrev pub AfterValue : Next → List Frame → ℕ → Outcome → Objects → Turn → Type 0
AfterValue next [] asked o objects turn = turn ≡ needing [] asked (needs.Value o) objects
AfterValue next (frame ∷ outer) asked o objects turn =
    AnswerTransition next outer asked frame (value_held o) objects
    (λ after bytes.
    AfterValue next outer (asked + 1) (unreached (given frame o.reach o.tags) bytes) after turn)
    turn

-- the continuation with the value of this frame, if it is done without a reach: to the frames around it
abbrev pub outwards : Next → List Frame → ℕ → Frame → Turn → Onward
outwards next outer asked frame turn after bytes =
    AfterValue next outer (asked + 1) (unreached frame bytes) after turn

-- the effect of a step of the innermost frame
abbrev pub AfterAsk : Next → List Frame → ℕ → Frame → Ask → Objects → Turn → Type 0
AfterAsk next outer asked frame ask objects turn =
    AskTransition next.limits outer asked frame ask objects (outwards next outer asked frame turn) turn

-- the error with which a call that no node has does not begin, if this is its function's first step
abbrev pub IsBeginRefusal : ℕ → Option Ask → CallError → Type 0
IsBeginRefusal f None error = error ≡ errors.BadArguments f
IsBeginRefusal f (Some ask) error = (error ≡ errors.Busy) ⊎ IsOutOfMemory error

-- the objects, after that of the call began it
abbrev pub with_begun : Objects → Call → Objects
with_begun objects k = with_activity objects k.function (running (begun k.args))

-- the effect of a call that no node has
abbrev pub AfterMiss : Next → List Frame → ℕ → Call → Objects → Turn → Type 0
AfterMiss next frames asked k objects turn =
    ((error : CallError) × (turn ≡ Err error) × IsBeginRefusal k.function (next.says k.function k.args []) error)
    ⊎ ((ask : Ask) × (next.says k.function k.args [] ≡ Some ask)
    × AfterAsk next frames asked (begun_frame k) ask (with_begun objects k) turn)

-- the effect of the answer to the query that the innermost frame requested
abbrev pub AfterRows : Next → List Frame → ℕ → Found → Objects → Turn → Type 0
AfterRows next [] asked found objects turn = ⊥
AfterRows next (frame ∷ outer) asked found objects turn =
    AnswerTransition next outer asked frame (rows_held found) objects
    (outwards next outer asked (given frame (Some found.reach) found.tags) turn) turn

-- ---- replies

-- the outcome of a call that a node has, and of one that was inserted
abbrev pub outcome_of : Call → List ℕ → Interval → List Tag → Outcome
outcome_of k bytes reach tags = record { key = k; value = bytes; reach = Some reach; tags = tags }

-- the effect of a reply to this need
abbrev pub AfterReply : Next → List Frame → ℕ → Objects → Need → Reply → Turn → Type 0
AfterReply next frames asked objects (needs.Lookup k) replies.Miss turn =
    AfterMiss next frames asked k objects turn
AfterReply next frames asked objects (needs.Lookup k) (replies.Hit hit) turn =
    AfterValue next frames asked (outcome_of k hit.value hit.reach hit.tags) objects turn
AfterReply next frames asked objects (needs.Query q) (replies.Found found) turn =
    AfterRows next frames asked found objects turn
AfterReply next frames asked objects (needs.Insert e) replies.Inserted turn =
    AfterValue next frames asked (outcome_of e.key e.value e.reach e.tags) objects turn
AfterReply next frames asked objects need reply turn = ⊥

-- ---- the result of a step of the machine, as a turn

abbrev pub turn_of : Result Need CallError → List Frame → ℕ → Objects → Turn
turn_of (Ok need) frames asked objects = needing frames asked need objects
turn_of (Err error) frames asked objects = Err error
