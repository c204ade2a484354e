-- The functions being computed for an open call, and the answers of each.
use Rattle.std.specs.Prelude.{◌≡◌, ◌≤◌, ℕ, List, [], ◌∷◌, ◌++◌, map, All, Bool, true, false, IsSome, Option, Some, None, Result, Ok, Err}
use Rattle.std.specs.Option.{ForSome}
use Rattle.txc_tags.specs.Keys.{Call}
use Rattle.txc_rows.specs.States.{State}
use Rattle.txc_app.specs.AnswersSoFar.{IsRight}
use Rattle.txc_app.specs.Eval.{Next}
use Rattle.txc_app.specs.declared.ask.Answer.{Answer}
use Rattle.txc_app.specs.declared.ask.Answer.TheVariants as answers
use Rattle.txc_app.specs.declared.ask.Ask.{Ask}
use Rattle.txc_app.specs.declared.ask.Ask.TheVariants as asks
use Rattle.txc_call_registry.specs.Objects.{AllIdle, Objects, activity_of}
use Rattle.txc_tags.specs.declared.key.TheConstants.{LAST_FUNCTION}
use Rattle.txc_call.specs.CallMachine.{Calling}
use Rattle.txc_call.specs.CallSteps.{NeedsFunction, due_ask}
use Rattle.txc_call.specs.declared.frame.Frame.{Frame}
use Rattle.txc_call.specs.declared.need.HeldAnswer.{HeldAnswer}
use Rattle.txc_call.specs.declared.need.Need.{Need}
use Rattle.txc_call.specs.declared.need.Need.TheVariants as needs
use Rattle.txc_txn_ports.specs.declared.error.TxnError.{TxnError}
use Rattle.txc_call_ghosts.specs.Steps.{objects_after_ask}
use Rattle.txc_txn.specs.TxnCore.{running_call}
use Rattle.txc_caller.specs.declared.step.CallerError.{CallerError}
use Rattle.txc_caller.specs.declared.step.CallerError.TheVariants.{NoFunction, Txn}
use Rattle.txc_caller.specs.declared.step.Step.{Step}
use Rattle.txc_caller.specs.declared.step.Step.TheVariants.{Answered, Compute, Value}

-- ---- which functions are computed

-- the calls of the frames, the innermost first
abbrev pub calls_of : List Frame → List Call
calls_of frames = map (λ (f : Frame). f.key) frames

abbrev pub computed_in : List Frame → Option Need → List Call
computed_in frames (Some (needs.Begin k)) = k ∷ calls_of frames
computed_in frames (Some (needs.Resume x)) = calls_of frames
computed_in frames need = []

-- The calls whose functions are being computed, the innermost first. That one must begin or continue; each of
-- the others waits for the value of the one before it.
abbrev pub computed_calls : Calling → List Call
computed_calls call = computed_in call.frames call.need

-- the outermost call, if one is open
abbrev pub top_call : Calling → Option Call
top_call call = running_call call.need call.top

abbrev pub call_or : Option Call → Call → Call
call_or None k = k
call_or (Some top) k = top

-- the outermost call, or else this one
abbrev pub top_or : Calling → Call → Call
top_or call k = call_or (top_call call) k

abbrev pub told_in : Option Need → Option Answer
told_in (Some (needs.Resume x)) = Some x.answer
told_in need = None

-- the answer with which the innermost function must continue; none if it must begin, or if none is being
-- computed
abbrev pub told_answer : Calling → Option Answer
told_answer call = told_in call.need

-- there is an object for each function that a call can name
abbrev pub HaveAllFunctions : Objects → Type 0
HaveAllFunctions objects = (f : ℕ) → f ≤ LAST_FUNCTION → IsSome (activity_of objects f)

-- ---- the caller's obligations

-- the innermost function, if one is being computed, makes this step once it has begun or got its answer
abbrev pub AsksNext : Next → Objects → Calling → Ask → Type 0
AsksNext next objects call ask = ForSome call.need (λ need. due_ask next objects call.frames need ≡ Some ask)

-- ---- the answers of a function

-- the answer is right in each of these states for what the innermost function asked
pub record IsToldRight (next : Next) (states : List State) (call : Calling) (ask : Ask) (x : Answer) : Type 0 where
  pub function : Call
  pub around : List Call
  pub is : computed_calls call ≡ function ∷ around
  pub right : All (λ s. IsRight next function.function s (Some ask) x) states

-- After this step a function begins: that of the requested call. It has no answers, and the functions that were
-- being computed wait around it.
abbrev pub HasBegunFunction : Calling → Ask → Calling → Type 0
HasBegunFunction old (asks.Call k) new = (computed_calls new ≡ k ∷ computed_calls old) × (told_answer new ≡ None)
HasBegunFunction old ask new = ⊥

-- After this ask a function continues with this answer. It is the one that asked, and the answer is right for
-- that. Or it is the function around one that is done, and the answer is the value that this gave, and right
-- for the call that it computed.
abbrev pub ContinuesWith : Next → List State → Calling → Ask → Calling → Answer → Type 0
ContinuesWith next states old (asks.Done bytes) new x = (done : Call) × (computed_calls old ≡ done ∷ computed_calls new)
    × (x ≡ answers.Value bytes) × IsToldRight next states new (asks.Call done) x
ContinuesWith next states old ask new x = (computed_calls new ≡ computed_calls old) × IsToldRight next states new ask x

-- The answer of a function after a step. The states are those in which the transaction may still be serialised.
abbrev pub IsToldAfterAsk : Next → List State → Calling → Ask → Calling → Result Step CallerError → Type 0
IsToldAfterAsk next states old ask new (Ok Compute) = HasBegunFunction old ask new
IsToldAfterAsk next states old ask new (Ok Answered) =
    (x : Answer) × (told_answer new ≡ Some x) × ContinuesWith next states old ask new x
IsToldAfterAsk next states old ask new step = Unit {0}

-- the answers of each function so far, after a step: an error ends the call, and all are idle
abbrev pub ObjectsFollow : Objects → Calling → Ask → Objects → Result Step CallerError → Type 0
ObjectsFollow old call ask new (Ok step) = new ≡ objects_after_ask old call ask
ObjectsFollow old call ask new (Err error) = AllIdle new

-- ---- the state of a call

-- a function must begin
abbrev pub is_begin : Need → Bool
is_begin (needs.Begin k) = true
is_begin need = false

-- the caller's next step for a call that needs a function
abbrev pub IsNextStep : Calling → Step → Type 0
IsNextStep call Compute = (k : Call) × (call.need ≡ Some (needs.Begin k))
IsNextStep call Answered = (x : HeldAnswer) × (call.need ≡ Some (needs.Resume x))
IsNextStep call (Value value) = ⊥

-- .. and for one that has ended
abbrev pub ended_step : Result (List ℕ) TxnError → Result Step CallerError
ended_step (Ok value) = Ok (Value value)
ended_step (Err error) = Err (Txn error)

-- this call is open, and its innermost function got this answer
pub record IsOpenWith (k : Call) (told : Option Answer) (call : Calling) : Type 0 where
  pub top : top_call call ≡ Some k
  pub computing : NeedsFunction call.need
  pub told_is : told_answer call ≡ told

-- The effect of an act in this call, with the results of the transaction before and after it. Its value is one
-- more result, and the call has ended. Or it is open, and the results are as before: its innermost function
-- must begin, or has an answer. They are also as before if it failed; then it has ended.
abbrev pub IsStepOf : {A : Type 0} → (List ℕ → A) → List A → List A → Calling → Call → Result Step CallerError → Type 0
IsStepOf answer_of before after call k (Ok (Value value)) = (after ≡ before ++ answer_of value ∷ []) × (call.need ≡ None)
IsStepOf answer_of before after call k (Ok Compute) = (after ≡ before) × IsOpenWith k None call
IsStepOf answer_of before after call k (Ok Answered) = (after ≡ before) × ((x : Answer) × IsOpenWith k (Some x) call)
IsStepOf answer_of before after call k (Err (Txn error)) = (after ≡ before) × (call.need ≡ None)
IsStepOf answer_of before after call k (Err NoFunction) = ⊥
