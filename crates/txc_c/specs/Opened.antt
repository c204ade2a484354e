-- A site's open transaction, which only reads or writes, and the effect of an ask in either.
use Rattle.std.specs.Prelude.{◌≡◌, ◌++◌, false, IfErr, OnErr, OnOk, Option, Some, None, Result, Ok, Err}
use Rattle.txc_tags.specs.Keys.{Call}
use Rattle.txc_app.specs.declared.ask.Ask.{Ask}
use Rattle.txc_app.specs.declared.ask.Ask.TheVariants as asks
use Rattle.txc_call_registry.specs.Objects.{numbers_of, Objects}
use Rattle.txc_call.specs.CallMachine.{Calling}
use Rattle.txc_call.specs.CallSteps.{is_done}
use Rattle.txc_txn.specs.RunningTxn.{IsTxn, TxnValue}
use Rattle.txc_caller.specs.CallerAct.{step_error, CallerActTransition}
use Rattle.txc_caller.specs.NodeLookup.{IsComputedOnMiss}
use Rattle.txc_caller.specs.Ports.{HasGrownDatabase}
use Rattle.txc_caller.specs.CallerTxn.{open_states, CallerValue, IsOf, IsReadingStep, KeepsCaller, KeepsTxn}
use Rattle.txc_caller.specs.ComputedFunctions.{top_call, top_or, AsksNext, IsToldAfterAsk, ObjectsFollow}
use Rattle.txc_caller.specs.CallerWrite.{base_states, queried_for, CallerWriting, IsActRefused, IsWriteOf, IsWritingStep}
use Rattle.txc_caller.specs.declared.step.CallerError.{CallerError}
use Rattle.txc_caller.specs.declared.step.CallerError.TheVariants.{NoFunction}
use Rattle.txc_caller.specs.declared.step.Step.{Step}
use Rattle.txc_caller.specs.declared.step.Step.TheVariants as steps
use Rattle.txc_c.specs.Opaque.{opaque_next}
use Rattle.txc_c.specs.declared.opened.Open.{Open}
use Rattle.txc_c.specs.declared.opened.Open.TheVariants.{Reading, Writing}

-- ---- either transaction

-- the state of its call
abbrev pub calling_of : Open → Calling
calling_of (Reading t) = t.core.call
calling_of (Writing w) = w.core.call

-- the answers of its functions
abbrev pub objects_of : Open → Objects
objects_of (Reading t) = t.objects
objects_of (Writing w) = w.objects

-- it is one of this caller, which lends itself to it
abbrev pub IsOpenOf : CallerValue → Open → Type 0
IsOpenOf c (Reading t) = IsOf c t
IsOpenOf c (Writing w) = IsWriteOf opaque_next c w

-- The act of another transaction keeps this one: if it is one of the caller before the act, it is one of the
-- caller after it.
abbrev pub OpenStays : Type 0
OpenStays = (c c' : CallerValue) (x : Open) → KeepsCaller c c' → HasGrownDatabase c.ports.database c'.ports.database → IsOpenOf c x → IsOpenOf c' x

-- the caller's obligation: the function that is computed makes this ask next, if one is computed
abbrev pub OpenAsksNext : Ask → Open → Type 0
OpenAsksNext ask x = AsksNext opaque_next (objects_of x) (calling_of x) ask

-- ---- a step

-- the call of which the ask is a step: the open one; or, of a call that is asked for by no function, this very
-- call
abbrev pub stepped_call : Ask → Calling → Option Call
stepped_call (asks.Call k) call = Some (top_or call k)
stepped_call ask call = top_call call

-- In a transaction that only reads: the effect of the step, the answers that the next computed function has,
-- and those of each function. A function begins only if the node has no result of its call that may be used.
-- Also the effect of the act on the caller, and the cause of an error.
pub record HasSteppedReading (ask : Ask) (k : Call) (c : CallerValue) (t : TxnValue) (step : Result Step CallerError) (c' : CallerValue)
    (t' : TxnValue) : Type 0 where
  pub is_step : IsReadingStep t.core t'.core k step
  pub told : IsToldAfterAsk opaque_next (open_states t'.core) t.core.call ask t'.core.call step
  pub objects : ObjectsFollow t.objects t.core.call ask t'.objects step
  pub on_miss : IsComputedOnMiss t'.core c.ports.node c'.ports.node step
  pub transition : CallerActTransition opaque_next.limits c.ports t ask c'.ports t'.core.taken (step_error step)
  pub keeps : KeepsTxn t t'
  pub valid : IsTxn opaque_next t'
  pub caller : KeepsCaller c c'
  pub grown : HasGrownDatabase c.ports.database c'.ports.database

-- In a transaction that writes the same, except that no node is asked: its outermost call begins at once. Each
-- query that was answered counts as read, only a function that is done gives one answer more, and an error has
-- its cause. Its answers are right at its base, and the caller is unchanged.
pub record HasSteppedWriting (ask : Ask) (k : Call) (c : CallerValue) (w : CallerWriting) (step : Result Step CallerError) (c' : CallerValue)
    (w' : CallerWriting) : Type 0 where
  pub is_step : IsWritingStep w.core w'.core k step
  pub told : IsToldAfterAsk opaque_next (base_states c w.core) w.core.call ask w'.core.call step
  pub begins : top_call w.core.call ≡ None → step ≡ Ok steps.Compute
  pub objects : ObjectsFollow w.objects w.core.call ask w'.objects step
  pub functions : numbers_of w'.objects ≡ numbers_of w.objects
  pub queried : OnOk step (w'.core.queried ≡ w.core.queried ++ queried_for ask)
  pub unqueried : OnErr step (w'.core.queried ≡ w.core.queried)
  pub undone : is_done ask ≡ false → w'.core.answers ≡ w.core.answers
  pub refused : IfErr step (IsActRefused opaque_next.limits c.ports.database w.core w.objects ask)
  pub same : w' ≡ record w {
    core = record w.core { queried = w'.core.queried; answers = w'.core.answers; call = w'.core.call };
    objects = w'.objects;
  }
  pub valid : IsWriteOf opaque_next c' w'
  pub caller : c' ≡ c

abbrev pub HasMadeAsk : Ask → Call → CallerValue → Open → Result Step CallerError → CallerValue → Open → Type 0
HasMadeAsk ask k c (Reading t) step c' (Reading t') = HasSteppedReading ask k c t step c' t'
HasMadeAsk ask k c (Reading t) step c' (Writing w') = ⊥
HasMadeAsk ask k c (Writing w) step c' (Writing w') = HasSteppedWriting ask k c w step c' w'
HasMadeAsk ask k c (Writing w) step c' (Reading t') = ⊥

-- a step of that call; or no function is computed that could ask, and all is as it was
abbrev pub StepsIn : Option Call → Ask → CallerValue → Open → Result Step CallerError → CallerValue → Open → Type 0
StepsIn (Some k) ask c x step c' x' = HasMadeAsk ask k c x step c' x'
StepsIn None ask c x step c' x' = (step ≡ Err NoFunction) × (x' ≡ x) × (c' ≡ c)

-- the effect of an ask
abbrev pub IsAskStep : Ask → CallerValue → Open → Result Step CallerError → CallerValue → Open → Type 0
IsAskStep ask c x step c' x' = StepsIn (stepped_call ask (calling_of x)) ask c x step c' x'
