-- What holds in a history holds in a longer one.
use Rattle.std.proofs.Common.{◌≡◌, ℕ, zero, suc, ◌≤◌, List, [], ◌∷◌, ◌++◌, length, length-append, Option, Some, None, Ok, Err, slice_get, refl, sym, ap, subst, ◌∙◌, arith}
use mathlib.Core.List.{IsPrefix}
use Rattle.txc_stamp.specs.Interval.{Interval}
use Rattle.txc_tags.specs.declared.tag.Tag.{Tag}
use Rattle.txc_tags.specs.Keys.{Call}
use Rattle.txc_rows.specs.declared.query.Query.{Query}
use Rattle.txc_rows.specs.States.{State, answer}
use Rattle.txc_db.specs.Facts.{EventValue}
use Rattle.txc_db.specs.History.{History, state_at, moment_at, pinned_moment}
use Rattle.txc_db.specs.Laws.{StatesStay}
use Rattle.txc_cushion.specs.declared.pin.Pin.{Pin}
use Rattle.txc_app.specs.Eval.{Next, eval, met}
use Rattle.txc_app.specs.Claims.{covers_all, HoldsOver, ValueHolds}
use Rattle.txc_call_registry.specs.Objects.{Objects}
use Rattle.txc_call.specs.declared.frame.Frame.{Frame}
use Rattle.txc_call.specs.declared.need.Need.{Need}
use Rattle.txc_call.specs.declared.need.Need.TheVariants as needs
use Rattle.txc_call.specs.Frames.{answers_in, FramesHold}
use Rattle.txc_call.specs.Needs.{NeedHolds, ReplyHolds}
use Rattle.txc_call.specs.declared.reply.Reply.{Reply}
use Rattle.txc_call.specs.declared.reply.Reply.TheVariants as replies
use Rattle.txc_txn_ports.specs.declared.reply.PortReply.{PortReply}
use Rattle.txc_txn_ports.specs.declared.reply.PortReply.TheVariants as ports
use Rattle.txc_txn.specs.TxnCore.{IsRightPortReply}
use Rattle.txc_app.specs.AnswersSoFar.{IsRight, AreRight, queries_of, queries_for}
use Rattle.txc_txn_ports.specs.declared.bounds.Bounds.{Bounds}
use Rattle.txc_txn_ports.specs.Answers.{IsFresh}

-- ---- pins

get_more : (L more : History) (i : ℕ) (e : EventValue) → slice_get L i ≡ Some e → slice_get (L ++ more) i ≡ Some e
get_more [] more i e is = cc is
get_more (x ∷ L) more zero e is = is
get_more (x ∷ L) more (suc i) e is = get_more L more i e is

moment_more : (L more : History) (t m : ℕ) → moment_at L t ≡ Some m → moment_at (L ++ more) t ≡ Some m
moment_more L more zero m is = cc is
moment_more L more (suc t) m is = go (slice_get L t) refl is
  where
    go : (o : Option EventValue) → slice_get L t ≡ o → pinned_moment o ≡ Some m → pinned_moment (slice_get (L ++ more) t) ≡ Some m
    go None there has = cc has
    go (Some e) there has = ap pinned_moment (get_more L more t e there) ∙ has

module _ (stay : StatesStay) (L M : History) (begins : IsPrefix L M) where
  -- the state of a stamp that L has
  pub same_state : (t : ℕ) → t ≤ length L → state_at M t ≡ state_at L t
  same_state t within = subst (λ (l : History). state_at l t ≡ state_at L t) begins.1 (stay L begins.0 t within)

  same_moment : (t m : ℕ) → moment_at L t ≡ Some m → moment_at M t ≡ Some m
  same_moment t m is = subst (λ (l : History). moment_at l t ≡ Some m) begins.1 (moment_more L begins.0 t m is)

  longer : length L ≤ length M
  longer = let long = length-append L begins.0 in let same = ap (λ (l : History). length l) begins.1 in omega (arith, long, same)

  pub fresh_later : (bounds : Bounds) (pin : Pin) → IsFresh L bounds pin → IsFresh M bounds pin
  fresh_later bounds pin h = record {
    shown = same_moment pin.stamp pin.moment h.shown;
    allowed = record { moment = h.allowed.moment; pinned = same_moment pin.stamp h.allowed.moment h.allowed.pinned; fresh = h.allowed.fresh; late = h.allowed.late };
  }

  -- ---- claims

  pub claim_later : (right : State → Type 0) (rests : State → List Query) (reach : Option Interval) (tags : List Tag)
      → HoldsOver L right rests reach tags → HoldsOver M right rests reach tags
  claim_later right rests None tags h = h
  claim_later right rests (Some reach) tags h = record {
    within = let within = h.within in let long = longer in omega (arith, within, long);
    holds = λ t inside. subst right (sym (same_state t (let within = h.within in let last = inside.1 in omega (arith, within, last)))) (h.holds t inside);
    covered = λ still t inside.
        ap (λ (s : State). covers_all tags (rests s)) (same_state t (let within = h.within in let last = inside.1 in omega (arith, within, last))) ∙ h.covered still t inside;
  }

  module _ (next : Next) (objects : Objects) where
    frames_later : (frames : List Frame) → FramesHold next L objects frames → FramesHold next M objects frames
    frames_later [] h = tt
    frames_later (f ∷ frames) h = (
      claim_later (λ (s : State). AreRight next f.key s (answers_in objects f.key.function)) (λ (s : State). queries_for next f.key s (answers_in objects f.key.function)) f.reach f.tags h.0,
      frames_later frames h.1,
    )

    pub value_later : (k : Call) (bytes : List ℕ) (reach : Option Interval) (tags : List Tag) → ValueHolds next L k bytes reach tags → ValueHolds next M k bytes reach tags
    value_later k bytes reach tags h = claim_later (λ (s : State). eval next k s ≡ Some bytes) (met next k) reach tags h

    pub need_later : (need : Option Need) (frames : List Frame) → NeedHolds next L objects need frames → NeedHolds next M objects need frames
    need_later None frames h = frames_later frames h
    need_later (Some (needs.Lookup k)) frames h = frames_later frames h
    need_later (Some (needs.Query q)) frames h = frames_later frames h
    need_later (Some (needs.Insert e)) frames h = (value_later e.key e.value (Some e.reach) e.tags h.0, frames_later frames h.1)
    need_later (Some (needs.Value o)) frames h = (value_later o.key o.value o.reach o.tags h.0, frames_later frames h.1)
    need_later (Some (needs.Begin k)) frames h = frames_later frames h
    need_later (Some (needs.Resume x)) [] h = absurd h.0
    need_later (Some (needs.Resume x)) (f ∷ frames) h = (
      claim_later (λ (s : State). IsRight next f.key.function s (next.says f.key.function f.key.args (answers_in objects f.key.function)) x.answer)
          (λ (s : State). queries_of next s (next.says f.key.function f.key.args (answers_in objects f.key.function))) x.reach x.tags h.0,
      frames_later (f ∷ frames) h.1,
    )

  -- what a reply says
  reply_later : (next : Next) (n : Need) (reply : Reply) → ReplyHolds next L n reply → ReplyHolds next M n reply
  reply_later next (needs.Lookup k) replies.Miss h = tt
  reply_later next (needs.Lookup k) (replies.Hit hit) h = value_later next [] k hit.value (Some hit.reach) hit.tags h
  reply_later next (needs.Lookup k) (replies.Found found) h = tt
  reply_later next (needs.Lookup k) replies.Inserted h = tt
  reply_later next (needs.Query q) replies.Miss h = tt
  reply_later next (needs.Query q) (replies.Hit hit) h = tt
  reply_later next (needs.Query q) (replies.Found found) h = claim_later (λ (s : State). found.rows.items ≡ answer q s) (λ s. q ∷ []) (Some found.reach) found.tags h
  reply_later next (needs.Query q) replies.Inserted h = tt
  reply_later next (needs.Insert e) reply h = tt
  reply_later next (needs.Value o) reply h = tt
  reply_later next (needs.Begin k) reply h = tt
  reply_later next (needs.Resume x) reply h = tt

  pub right_later : (next : Next) (need : Option Need) (reply : PortReply) → IsRightPortReply next L need reply → IsRightPortReply next M need reply
  right_later next need (ports.Pin (Ok pinned)) h = same_moment pinned.stamp pinned.moment h
  right_later next need (ports.Pin (Err error)) h = tt
  right_later next need (ports.AddPin pinned added) h = tt
  right_later next need (ports.Unpin unpinned) h = tt
  right_later next need (ports.Lookup None) h = tt
  right_later next need (ports.Lookup (Some hit)) h = λ n is. reply_later next n (replies.Hit hit.answer) (h n is)
  right_later next need (ports.Query (Ok found)) h = λ n is. reply_later next n (replies.Found found.answer) (h n is)
  right_later next need (ports.Query (Err error)) h = tt
  right_later next need (ports.Insert kept) h = tt
