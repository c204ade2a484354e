-- Laws of the correctness of a pin set, step by step.
use Rattle.std.specs.Prelude.{◌≡◌, ◌≢◌, ℕ, ◌<◌, ◌≤◌, true, List, [], ◌∷◌, ◌++◌, All, Option, Some, None}
use Rattle.std.specs.List.{AllByRecursion}
use mathlib.Core.List.{IsPrefix}
use Rattle.txc_stamp.specs.Interval.{Interval, Holds}
use Rattle.txc_tags.specs.Keys.{Call}
use Rattle.txc_tags.specs.declared.tag.Tag.{Tag}
use Rattle.txc_rows.specs.States.{State}
use Rattle.txc_db.specs.History.{History, state_at, moment_at}
use Rattle.txc_cushion.specs.declared.pin.Pin.{Pin}
use Rattle.txc_cushion.specs.Pin.{PinsDescend}
use Rattle.txc_pinset.specs.Members.{PinSetValue, IsPinSet, begun_pin_set, kept, narrowed, with_present}
use Rattle.txc_app.specs.Eval.{Next}
use Rattle.txc_app.specs.declared.ask.Answer.{Answer}
use Rattle.txc_app.specs.declared.ask.Answer.TheVariants as answers
use Rattle.txc_app.specs.AnswersSoFar.{AreRight}
use Rattle.txc_call_registry.specs.Objects.{Objects}
use Rattle.txc_call.specs.declared.frame.Frame.{Frame}
use Rattle.txc_call.specs.declared.need.Need.TheVariants as needs
use Rattle.txc_call.specs.declared.need.Outcome.{Outcome}
use Rattle.txc_call.specs.Reaches.{InReach}
use Rattle.txc_call.specs.Frames.{answers_in, AnswersHold}
use Rattle.txc_call.specs.CallMachine.{Calling, started, CallHolds, InCall, CallIsUnreached}
use Rattle.txc_txn_ports.specs.declared.bounds.Bounds.{Bounds}
use Rattle.txc_txn_ports.specs.declared.recorded.Recorded.{Recorded}
use Rattle.txc_txn_ports.specs.Answers.{IsFresh, AreConsistent}
use Rattle.txc_txn.specs.Meaning.{PinSetInvariant, HasOnlyLost}

-- a pin set that is correct in a history is correct in each longer one
abbrev pub MeaningStays : Type 0
MeaningStays =
    (next : Next) (L M : History) (bounds : Bounds) (pins : PinSetValue) (recorded : List Recorded)
    (objects : Objects) (call : Calling)
    → IsPrefix L M → PinSetInvariant next L bounds pins recorded objects call
    → PinSetInvariant next M bounds pins recorded objects call

-- ---- a transaction begins

-- pins that the bounds allow, and the present, before any call
abbrev pub MeaningBegins : Type 0
MeaningBegins =
    (next : Next) (L : History) (bounds : Bounds) (pins : List Pin) (objects : Objects) (call : Calling)
    → PinsDescend pins → All (IsFresh L bounds) pins → call.frames ≡ [] → call.need ≡ None
    → PinSetInvariant next L bounds (begun_pin_set pins) [] objects call

-- ---- a call continues

-- the pin set after what has this reach; without a reach it stays
abbrev pub pins_over : Option Interval → PinSetValue → PinSetValue
pins_over None pins = pins
pins_over (Some reach) pins = narrowed reach pins

-- The call continued with a result that holds over a reach: its answers are correct, a stamp of the reach that
-- was in each reach of the call still is, and a result without a reach added none.
pub record GoesOnOver (next : Next) (L : History) (reach : Option Interval) (before : Calling)
    (objects : Objects) (call : Calling) : Type 0 where
  pub right : CallHolds next L objects call
  pub within : (t : ℕ) → InReach t reach → InCall t before → InCall t call
  pub unreached : reach ≡ None → CallIsUnreached before → CallIsUnreached call

-- the pin set stays correct if it is narrowed by that reach, and a member remains
abbrev pub FindingNarrows : Type 0
FindingNarrows =
    (next : Next) (L : History) (bounds : Bounds) (pins : PinSetValue) (recorded : List Recorded)
    (objects objects' : Objects) (call call' : Calling) (reach : Option Interval)
    → PinSetInvariant next L bounds pins recorded objects call → GoesOnOver next L reach call objects' call'
    → IsPinSet (pins_over reach pins)
    → PinSetInvariant next L bounds (pins_over reach pins) recorded objects' call'

-- a reach that holds the newest member, as that of a query asked there does, leaves a member
abbrev pub QueryLeavesAMember : Type 0
QueryLeavesAMember = (pins : PinSetValue) (newest : Pin) (older : List Pin) (reach : Interval)
    → pins.members ≡ newest ∷ older → Holds reach newest.stamp → kept reach pins.members ≢ []

-- ---- members come and go

-- the pin of the present takes its place
abbrev pub PresentJoins : Type 0
PresentJoins =
    (next : Next) (L : History) (bounds : Bounds) (pins : PinSetValue) (recorded : List Recorded)
    (objects : Objects) (call : Calling) (pin : Pin)
    → PinSetInvariant next L bounds pins recorded objects call → pins.has_present ≡ true → IsFresh L bounds pin
    → All (λ m. m.stamp < pin.stamp) pins.members
    → PinSetInvariant next L bounds (with_present pin pins) recorded objects call

-- a pin of the moment that the bounds begin at, late enough, is allowed
abbrev pub PresentIsFresh : Type 0
PresentIsFresh = (L : History) (bounds : Bounds) (pin : Pin)
    → moment_at L pin.stamp ≡ Some pin.moment → pin.moment ≡ bounds.now → bounds.at_least ≤ pin.stamp
    → IsFresh L bounds pin

-- members may be removed, and the present
abbrev pub FewerMembersMeanTheSame : Type 0
FewerMembersMeanTheSame =
    (next : Next) (L : History) (bounds : Bounds) (old new : PinSetValue) (recorded : List Recorded)
    (objects : Objects) (call : Calling)
    → PinSetInvariant next L bounds old recorded objects call → HasOnlyLost old new
    → PinSetInvariant next L bounds new recorded objects call

-- ---- calls begin and end

-- a call begins, with no frame yet
abbrev pub CallBegins : Type 0
CallBegins =
    (next : Next) (L : History) (bounds : Bounds) (pins : PinSetValue) (recorded : List Recorded)
    (objects objects' : Objects) (call : Calling) (k : Call)
    → PinSetInvariant next L bounds pins recorded objects call
    → PinSetInvariant next L bounds pins recorded objects' (started k)

-- a call is cancelled: its frames are removed
abbrev pub CallIsGivenUp : Type 0
CallIsGivenUp =
    (next : Next) (L : History) (bounds : Bounds) (pins : PinSetValue) (recorded : List Recorded)
    (objects objects' : Objects) (call call' : Calling)
    → PinSetInvariant next L bounds pins recorded objects call → call'.frames ≡ [] → call'.need ≡ None
    → PinSetInvariant next L bounds pins recorded objects' call'

-- the value of a call is recorded
abbrev pub ValueIsRecorded : Type 0
ValueIsRecorded =
    (next : Next) (L : History) (bounds : Bounds) (pins : PinSetValue) (recorded : List Recorded)
    (objects : Objects) (call : Calling) (o : Outcome)
    → PinSetInvariant next L bounds pins recorded objects call → call.need ≡ Some (needs.Value o)
    → PinSetInvariant next L bounds pins (recorded ++ record { key = o.key; value = o.value } ∷ []) objects
    (record call { need = None })

-- ---- its results

-- the answers of each open frame are right in the state
abbrev pub FramesAreRight : Next → Objects → State → List Frame → Type 0
FramesAreRight next objects s [] = Unit {0}
FramesAreRight next objects s (frame ∷ frames) =
    AreRight next frame.key s (answers_in objects frame.key.function) × FramesAreRight next objects s frames

-- at every member each open frame's answers are right
abbrev pub OpenAnswersAreRight : Type 0
OpenAnswersAreRight =
    (next : Next) (L : History) (bounds : Bounds) (pins : PinSetValue) (recorded : List Recorded)
    (objects : Objects) (call : Calling)
    → PinSetInvariant next L bounds pins recorded objects call
    → All (λ p. FramesAreRight next objects (state_at L p.stamp) call.frames) pins.members

-- the answer is the value of a call
abbrev pub IsValueAnswer : Answer → Type 0
IsValueAnswer (answers.Value bytes) = Unit {0}
IsValueAnswer (answers.Rows rows) = ⊥

-- the answers of a frame without a reach are values of calls, and no rows
abbrev pub UnreachedAnswersAreValues : Type 0
UnreachedAnswersAreValues = (next : Next) (L : History) (k : Call) (given : List Answer) (tags : List Tag)
    → AnswersHold next L k given None tags → AllByRecursion IsValueAnswer given

-- the newest member explains what was recorded: the bounds allow it, and each recorded answer is right there
abbrev pub NewestExplains : Type 0
NewestExplains =
    (next : Next) (L : History) (bounds : Bounds) (pins : PinSetValue) (recorded : List Recorded)
    (objects : Objects) (call : Calling) (newest : Pin) (older : List Pin)
    → PinSetInvariant next L bounds pins recorded objects call → pins.members ≡ newest ∷ older
    → IsFresh L bounds newest × AreConsistent next recorded (state_at L newest.stamp)
