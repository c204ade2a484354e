-- The held answer is right at every member.
use Rattle.std.proofs.Common.{◌≡◌, ℕ, List, ◌∷◌, Option, Some, None, All, subst}
use Rattle.std.proofs.lemmas.List.Elements.{All-weaker}
use Rattle.txc_stamp.specs.Interval.{Interval}
use Rattle.txc_tags.specs.declared.tag.Tag.{Tag}
use Rattle.txc_rows.specs.declared.query.Query.{Query}
use Rattle.txc_rows.specs.States.{State}
use Rattle.txc_db.specs.History.{History, state_at}
use Rattle.txc_cushion.specs.declared.pin.Pin.{Pin}
use Rattle.txc_app.specs.AnswersSoFar.{IsRight, queries_of}
use Rattle.txc_app.specs.Claims.{HoldsOver}
use Rattle.txc_app.specs.Eval.{Next}
use Rattle.txc_call_registry.specs.Objects.{Objects}
use Rattle.txc_call.specs.declared.frame.Frame.{Frame}
use Rattle.txc_call.specs.declared.need.HeldAnswer.{HeldAnswer}
use Rattle.txc_call.specs.declared.need.Need.{Need}
use Rattle.txc_call.specs.declared.need.Need.TheVariants as needs
use Rattle.txc_call.specs.Frames.{answers_in}
use Rattle.txc_call.specs.Reaches.{InReach}
use Rattle.txc_call.specs.CallMachine.{InCall}
use Rattle.txc_call.specs.Needs.{InNeed, NeedHolds}
use Rattle.txc_txn.specs.TxnCore.{CoreValue, CoreHolds}

holds_at : (L : History) (right : State → Type 0) (rests : State → List Query) (reach : Option Interval) (tags : List Tag) (t : ℕ)
    → HoldsOver L right rests reach tags → InReach t reach → right (state_at L t)
holds_at L right rests None tags t h inside = (h (state_at L t)).0
holds_at L right rests (Some reach) tags t h inside = h.holds t inside

pub held_is_right : (next : Next) (objects : Objects) (L : History) (c : CoreValue) (x : HeldAnswer) (frame : Frame) (outer : List Frame) → CoreHolds next L objects c
    → c.call.need ≡ Some (needs.Resume x) → c.call.frames ≡ frame ∷ outer
    → All (λ p. IsRight next frame.key.function (state_at L p.stamp) (next.says frame.key.function frame.key.args (answers_in objects frame.key.function)) x.answer) c.pins.members
held_is_right next objects L c x frame outer h is at =
    let right : NeedHolds next L objects (Some (needs.Resume x)) (frame ∷ outer) =
    subst (λ (fs : List Frame). NeedHolds next L objects (Some (needs.Resume x)) fs) at (subst (λ (n : Option Need). NeedHolds next L objects n c.call.frames) is h.valid.right) in
    All-weaker (λ (p : Pin). InCall p.stamp c.call)
    (λ (p : Pin). IsRight next frame.key.function (state_at L p.stamp) (next.says frame.key.function frame.key.args (answers_in objects frame.key.function)) x.answer)
    (λ p inside. holds_at L (λ (s : State). IsRight next frame.key.function s (next.says frame.key.function frame.key.args (answers_in objects frame.key.function)) x.answer)
    (λ (s : State). queries_of next s (next.says frame.key.function frame.key.args (answers_in objects frame.key.function))) x.reach x.tags p.stamp right.0
    (subst (λ (n : Option Need). InNeed p.stamp n c.call.frames) is inside).0)
    c.pins.members h.valid.within
