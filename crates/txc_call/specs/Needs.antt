-- The need of a call, and the reply to it.
use Rattle.std.specs.Prelude.{◌≡◌, ◌≢◌, ℕ, List, [], ◌∷◌, Option, Some, None, IsSome}
use Rattle.txc_stamp.specs.Interval.{Interval}
use Rattle.txc_tags.specs.Keys.{Call}
use Rattle.txc_db.specs.History.{History}
use Rattle.txc_app.specs.declared.ask.Ask.{Ask}
use Rattle.txc_app.specs.declared.ask.Ask.TheVariants as asks
use Rattle.txc_app.specs.Eval.{Next}
use Rattle.txc_app.specs.AnswersSoFar.{IsRight, queries_of}
use Rattle.txc_app.specs.Claims.{HoldsOver, RowsHold, ValueHolds, IsTrueIn}
use Rattle.txc_call_registry.specs.Activity.{WantsAnswer}
use Rattle.txc_call_registry.specs.Objects.{Objects, activity_of, AllIdle}
use Rattle.txc_call.specs.declared.frame.Frame.{Frame}
use Rattle.txc_call.specs.declared.need.HeldAnswer.{HeldAnswer}
use Rattle.txc_call.specs.declared.need.Need.{Need}
use Rattle.txc_call.specs.declared.need.Need.TheVariants as needs
use Rattle.txc_call.specs.declared.reply.Reply.{Reply}
use Rattle.txc_call.specs.declared.reply.Reply.TheVariants as replies
use Rattle.txc_call.specs.Reaches.{InReach}
use Rattle.txc_call.specs.Frames.{answers_in, AreFew, AreUnreached, FramesHold, InAll, IsOpen, FramesAscendFrom}

-- ---- needs

-- the frames wait for what the innermost asked, and each of them asked no more than it may
pub record IsWaiting (next : Next) (objects : Objects) (top : Call) (ask : Ask) (frames : List Frame) :
    Type 0 where
  pub open_frames : IsOpen next objects top ask frames
  pub few : AreFew next.limits.asks frames

-- the frames wait for the need; if there is none, no call is open
abbrev pub NeedFits : Next → Objects → Call → Option Need → List Frame → Type 0
NeedFits next objects top None frames = (frames ≡ []) × AllIdle objects
NeedFits next objects top (Some (needs.Lookup k)) frames =
    IsWaiting next objects top (asks.Call k) frames × FramesAscendFrom k.function frames
    × IsSome (activity_of objects k.function)
NeedFits next objects top (Some (needs.Query q)) frames =
    IsWaiting next objects top (asks.Query q) frames × (frames ≢ [])
NeedFits next objects top (Some (needs.Insert e)) frames =
    IsWaiting next objects top (asks.Call e.key) frames × FramesAscendFrom e.key.function frames
NeedFits next objects top (Some (needs.Value o)) frames =
    IsWaiting next objects top (asks.Call o.key) frames × (frames ≡ [])
NeedFits next objects top (Some (needs.Begin k)) frames =
    IsWaiting next objects top (asks.Call k) frames × FramesAscendFrom k.function frames
    × IsSome (activity_of objects k.function)
NeedFits next objects top (Some (needs.Resume x)) frames =
    ((ask : Ask) × IsWaiting next objects top ask frames × WantsAnswer (Some ask)) × (frames ≢ [])

-- the held answer is right for what the innermost frame asked
abbrev pub HeldAnswerHolds : Next → History → Objects → List Frame → HeldAnswer → Type 0
HeldAnswerHolds next L objects [] x = ⊥
HeldAnswerHolds next L objects (frame ∷ frames) x = HoldsOver L
    (λ s. IsRight next frame.key.function s (next.says frame.key.function frame.key.args (answers_in objects frame.key.function)) x.answer)
    (λ s. queries_of next s (next.says frame.key.function frame.key.args (answers_in objects frame.key.function)))
    x.reach x.tags

-- all answers so far are correct, and so is a held value or answer
abbrev pub NeedHolds : Next → History → Objects → Option Need → List Frame → Type 0
NeedHolds next L objects None frames = FramesHold next L objects frames
NeedHolds next L objects (Some (needs.Lookup k)) frames = FramesHold next L objects frames
NeedHolds next L objects (Some (needs.Query q)) frames = FramesHold next L objects frames
NeedHolds next L objects (Some (needs.Insert e)) frames =
    IsTrueIn next L e × FramesHold next L objects frames
NeedHolds next L objects (Some (needs.Value o)) frames =
    ValueHolds next L o.key o.value o.reach o.tags × FramesHold next L objects frames
NeedHolds next L objects (Some (needs.Begin k)) frames = FramesHold next L objects frames
NeedHolds next L objects (Some (needs.Resume x)) frames =
    HeldAnswerHolds next L objects frames x × FramesHold next L objects frames

-- the reach of a held value or answer; without one everywhere
abbrev pub reach_of : Option Need → Option Interval
reach_of None = None
reach_of (Some (needs.Lookup k)) = None
reach_of (Some (needs.Query q)) = None
reach_of (Some (needs.Insert e)) = Some e.reach
reach_of (Some (needs.Value o)) = o.reach
reach_of (Some (needs.Begin k)) = None
reach_of (Some (needs.Resume x)) = x.reach

-- the stamp is in the reach of each frame and of a held value or answer
abbrev pub InNeed : ℕ → Option Need → List Frame → Type 0
InNeed t need frames = InReach t (reach_of need) × InAll t frames

-- neither a frame nor a held value or answer has a reach
abbrev pub IsUnreached : Option Need → List Frame → Type 0
IsUnreached need frames = (reach_of need ≡ None) × AreUnreached frames

-- ---- replies

-- the reply is one to this need
abbrev pub ReplyFits : Need → Reply → Type 0
ReplyFits (needs.Lookup k) replies.Miss = Unit {0}
ReplyFits (needs.Lookup k) (replies.Hit hit) = Unit {0}
ReplyFits (needs.Query q) (replies.Found found) = Unit {0}
ReplyFits (needs.Insert e) replies.Inserted = Unit {0}
ReplyFits need reply = ⊥

-- the reply is right in the history
abbrev pub ReplyHolds : Next → History → Need → Reply → Type 0
ReplyHolds next L (needs.Lookup k) (replies.Hit hit) = ValueHolds next L k hit.value (Some hit.reach) hit.tags
ReplyHolds next L (needs.Query q) (replies.Found found) =
    RowsHold L q found.rows.items (Some found.reach) found.tags
ReplyHolds next L need reply = Unit {0}

-- the reach that a reply hands in
abbrev pub reply_reach : Reply → Option Interval
reply_reach replies.Miss = None
reply_reach (replies.Hit hit) = Some hit.reach
reply_reach (replies.Found found) = Some found.reach
reply_reach replies.Inserted = None
