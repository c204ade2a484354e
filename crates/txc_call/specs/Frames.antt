-- The open frames of a call, innermost first, with the objects that run them.
use Rattle.std.specs.Prelude.{◌≡◌, ℕ, ◌+◌, ◌<◌, List, [], ◌∷◌, length, Option, Some, None}
use Rattle.std.specs.List.{AllByRecursion}
use Rattle.txc_stamp.specs.Interval.{Interval}
use Rattle.txc_tags.specs.declared.tag.Tag.{Tag}
use Rattle.txc_tags.specs.Keys.{Call}
use Rattle.txc_tags.specs.Tags.{with_tags}
use Rattle.txc_db.specs.History.{History}
use Rattle.txc_app.specs.declared.ask.Ask.{Ask}
use Rattle.txc_app.specs.declared.ask.Ask.TheVariants as asks
use Rattle.txc_app.specs.declared.ask.Answer.{Answer}
use Rattle.txc_app.specs.Eval.{Next}
use Rattle.txc_app.specs.AnswersSoFar.{IsRight, AreRight, queries_of, queries_for}
use Rattle.txc_app.specs.Claims.{HoldsOver}
use Rattle.txc_call_registry.specs.Activity.{idle, running}
use Rattle.txc_call_registry.specs.Objects.{Objects, activation_of, activity_of, with_activity, AllIdle}
use Rattle.txc_call.specs.declared.frame.Frame.{Frame}
use Rattle.txc_call.specs.Reaches.{InReach, meet}

-- ---- structure

-- the answers that the object of this number was given
abbrev pub answers_in : Objects → ℕ → List Answer
answers_in objects f = (activation_of objects f).answers

-- the frame's object runs the activation of its key, and asks this
pub record FrameAsks (next : Next) (objects : Objects) (ask : Ask) (frame : Frame) : Type 0 where
  pub runs :
      activity_of objects frame.key.function ≡ Some (running (activation_of objects frame.key.function))
  pub args : (activation_of objects frame.key.function).args ≡ frame.key.args
  pub asks : next.says frame.key.function frame.key.args (answers_in objects frame.key.function) ≡ Some ask
  pub counted : length (answers_in objects frame.key.function) ≡ frame.answers

-- the innermost frame asks this, each other one the call above it, and the call is at the bottom
abbrev pub IsStack : Next → Objects → Call → Ask → List Frame → Type 0
IsStack next objects top ask [] = ask ≡ asks.Call top
IsStack next objects top ask (frame ∷ frames) =
    FrameAsks next objects ask frame × IsStack next objects top (asks.Call frame.key) frames

-- each is of a greater function than the one inside it, the innermost of a greater one than f
abbrev pub FramesAscendFrom : ℕ → List Frame → Type 0
FramesAscendFrom f [] = Unit {0}
FramesAscendFrom f (frame ∷ frames) = (f < frame.key.function) × FramesAscendFrom frame.key.function frames

abbrev pub FramesAscend : List Frame → Type 0
FramesAscend [] = Unit {0}
FramesAscend (frame ∷ frames) = FramesAscendFrom frame.key.function frames

-- the objects once each frame is released, the innermost first
abbrev pub released : List Frame → Objects → Objects
released [] objects = objects
released (frame ∷ frames) objects = released frames (with_activity objects frame.key.function idle)

-- the frames are those of a call, and all other objects are idle
pub record IsOpen (next : Next) (objects : Objects) (top : Call) (ask : Ask) (frames : List Frame) :
    Type 0 where
  pub stack : IsStack next objects top ask frames
  pub rising : FramesAscend frames
  pub free : AllIdle (released frames objects)

-- each was given fewer answers than it may ask for, so that its last ask was allowed
abbrev pub AreFew : ℕ → List Frame → Type 0
AreFew most frames = AllByRecursion (λ (frame : Frame). frame.answers < most) frames

-- ---- meaning

-- the answer to what the function f asked is right over the reach
abbrev pub AnswerHolds : Next → History → ℕ → Ask → Answer → Option Interval → List Tag → Type 0
AnswerHolds next L f ask x reach tags =
    HoldsOver L (λ s. IsRight next f s (Some ask) x) (λ s. queries_of next s (Some ask)) reach tags

-- these answers to the call are right over the reach
abbrev pub AnswersHold : Next → History → Call → List Answer → Option Interval → List Tag → Type 0
AnswersHold next L k given reach tags =
    HoldsOver L (λ s. AreRight next k s given) (λ s. queries_for next k s given) reach tags

-- the answers of each frame are right over its reach
abbrev pub FramesHold : Next → History → Objects → List Frame → Type 0
FramesHold next L objects [] = Unit {0}
FramesHold next L objects (frame ∷ frames) =
    AnswersHold next L frame.key (answers_in objects frame.key.function) frame.reach frame.tags
    × FramesHold next L objects frames

-- the stamp is in the reach of each frame
abbrev pub InAll : ℕ → List Frame → Type 0
InAll t [] = Unit {0}
InAll t (frame ∷ frames) = InReach t frame.reach × InAll t frames

-- no frame has a reach
abbrev pub AreUnreached : List Frame → Type 0
AreUnreached [] = Unit {0}
AreUnreached (frame ∷ frames) = (frame.reach ≡ None) × AreUnreached frames

-- a frame that was given no answer
abbrev pub begun_frame : Call → Frame
begun_frame k = record { key = k; answers = 0; reach = None; tags = [] }

-- the frame after one answer more: the meet of the reaches, and the tags of both
abbrev pub given : Frame → Option Interval → List Tag → Frame
given frame reach tags = record {
  key = frame.key;
  answers = frame.answers + 1;
  reach = meet frame.reach reach;
  tags = with_tags tags frame.tags;
}
