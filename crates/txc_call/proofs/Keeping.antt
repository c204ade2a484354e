-- What comes of a reply keeps the frames and what holds of them.
use Rattle.std.proofs.Common.{◌≡◌, inl, inr, ℕ, ◌+◌, ◌<◌, ◌≤◌, nat_le, Bool, true, false, List, [], ◌∷◌, ◌++◌, length, Option, Some, None, Ok, Err, sym, refl, subst, ◌∙◌, arith}
use Rattle.std.proofs.lemmas.Bool.Decides.{nat_tests}
use Rattle.txc_stamp.specs.Interval.{Interval}
use Rattle.txc_tags.specs.Keys.{Call}
use Rattle.txc_rows.specs.States.{State}
use Rattle.txc_db.specs.History.{History}
use Rattle.txc_app.specs.declared.app.Limits.{Limits}
use Rattle.txc_app.specs.declared.ask.Ask.{Ask}
use Rattle.txc_app.specs.declared.ask.Ask.TheVariants as asks
use Rattle.txc_app.specs.Eval.{Next}
use Rattle.txc_app.specs.AnswersSoFar.{IsRight, queries_of}
use Rattle.txc_app.specs.Claims.{HoldsOver, ValueHolds}
use Rattle.txc_app.specs.Laws.{RightAnswersGiveTheValue}
use Rattle.txc_call_registry.specs.Activity.{idle}
use Rattle.txc_call_registry.specs.Objects.{Objects, with_activity}
use Rattle.txc_call.specs.declared.error.CallError.TheVariants as errors
use Rattle.txc_call.specs.declared.frame.Frame.{Frame}
use Rattle.txc_call.specs.declared.need.HeldAnswer.{HeldAnswer}
use Rattle.txc_call.specs.declared.need.Need.{Need}
use Rattle.txc_call.specs.declared.need.Need.TheVariants as needs
use Rattle.txc_call.specs.declared.need.Outcome.{Outcome}
use Rattle.txc_call.specs.declared.reply.Reply.{Reply}
use Rattle.txc_call.specs.declared.reply.Reply.TheVariants as replies
use Rattle.txc_call.specs.Reaches.{InReach}
use Rattle.txc_call.specs.Frames.{answers_in, begun_frame, given, AnswerHolds, AreFew, AreUnreached, FrameAsks, FramesHold, InAll, IsOpen, FramesAscendFrom}
use Rattle.txc_call.specs.Needs.{reply_reach, HeldAnswerHolds, InNeed, IsUnreached, IsWaiting, NeedFits, NeedHolds, ReplyFits, ReplyHolds}
use Rattle.txc_call.specs.CallMachine.{Calling, CallHolds, CallIsUnreached, InCall, IsCalling}
use Rattle.txc_call.specs.CallSteps.{value_need, form_refusal, stays_held, need_after, due_ask, objects_after, with_resumed, AfterRan, AfterOneAsk, FunctionExists, StepKeeps}
use Rattle.txc_call.specs.MachineTurn.{Standing, rows_held, value_held, value_refusal, entry_of_frame, outcome_of, unreached, AllowedTransition, DoneTransition, AfterReply, with_answer, with_begun}
use Rattle.txc_call.specs.Laws.{at_start, CallsComeToTheirValues, InsertionsAreTrue, IsAfterReplies, IsLedBy, IsLedFrom}
use Rattle.txc_call.proofs.Claims.{meets_at}
use Rattle.txc_call.proofs.Answering.{rows_answer, value_answers}
use Rattle.txc_call.proofs.Transitions.{few_by}
use Rattle.txc_call.proofs.OneAsk.{allowed_of, counted_of, order_let}
use Rattle.txc_call.proofs.Offered.{standing, reply_keeps, value_fits}
use Rattle.txc_call.proofs.OpenFrames.{closed, free_below, hold_closed, hold_opened, hold_resumed, in_given, opened, resumed, unreached_given}

-- ---- refusals that did not come

lower_by : (f : ℕ) (k : Call) → nat_le f k.function ≡ false → k.function < f
lower_by f k is = grind (arith, nat_tests)

short_by_test : (most : ℕ) (bytes : List ℕ) (b : Bool) → nat_le (length bytes) most ≡ b → value_refusal most bytes ≡ None → length bytes ≤ most
short_by_test most bytes true is h = grind (arith, nat_tests)
short_by_test most bytes false is h = let no : Some errors.ValueTooLong ≡ None = rw is at h in absurd (cc)

-- ---- a held answer

module _ (next : Next) (L : History) (os : Objects) (frame : Frame) (outer : List Frame) (ask : Ask) (x : HeldAnswer) (asked : FrameAsks next os ask frame) where
  abbrev RightFor : Option Ask → Type 0
  RightFor o = HoldsOver L (λ (s : State). IsRight next frame.key.function s o x.answer) (λ (s : State). queries_of next s o) x.reach x.tags

  hand_holds : AnswerHolds next L frame.key.function ask x.answer x.reach x.tags → HeldAnswerHolds next L os (frame ∷ outer) x
  hand_holds h = subst RightFor (sym asked.asks) h

  hand_right : HeldAnswerHolds next L os (frame ∷ outer) x → AnswerHolds next L frame.key.function ask x.answer x.reach x.tags
  hand_right h = subst RightFor asked.asks h

-- ---- what is kept

-- where H holds in a history, all answers are right there; a stamp of W lies in all reaches; and where U holds there is no reach
pub record Keeps (next : Next) (top : Call) (H : History → Type 0) (W : ℕ → Type 0) (U : Type 0) (s : Standing) : Type 0 where
  pub fits : NeedFits next s.objects top s.need s.frames
  pub holds : (L : History) → H L → NeedHolds next L s.objects s.need s.frames
  pub within : (t : ℕ) → W t → InNeed t s.need s.frames
  pub no_reach : U → IsUnreached s.need s.frames

-- the same of the frames, the innermost of which asks this
record KeepsAsking (next : Next) (top : Call) (H : History → Type 0) (W : ℕ → Type 0) (U : Type 0) (outer : List Frame) (frame : Frame) (ask : Ask) (os : Objects) : Type 0 where
  open_frames : IsOpen next os top ask (frame ∷ outer)
  few : AreFew next.limits.asks outer
  holds : (L : History) → H L → FramesHold next L os (frame ∷ outer)
  within : (t : ℕ) → W t → InAll t (frame ∷ outer)
  no_reach : U → AreUnreached (frame ∷ outer)

module _ (next : Next) (top : Call) (H : History → Type 0) (W : ℕ → Type 0) (U : Type 0) where
  abbrev Kept : Standing → Type 0
  Kept s = Keeps next top H W U s

  -- a value is held for the frames
  held_keeps : (frames : List Frame) (asked : ℕ) (o : Outcome) (os : Objects) → IsWaiting next os top (asks.Call o.key) frames → FramesAscendFrom o.key.function frames
      → ((L : History) → H L → ValueHolds next L o.key o.value o.reach o.tags × FramesHold next L os frames)
      → ((t : ℕ) → W t → InReach t o.reach × InAll t frames) → (U → (o.reach ≡ None) × AreUnreached frames)
      → Kept (standing frames asked (value_need frames o) os)
  held_keeps [] asked o os waits up holds within none = record { fits = (waits, refl); holds = holds; within = within; no_reach = none }
  held_keeps (frame ∷ outer) asked o os waits up holds within none = record {
    fits = ((asks.Call o.key, waits, tt), λ no. let no' : frame ∷ outer ≡ [] = no in absurd (cc));
    holds = λ L h.
        let two = holds L h in (
          hand_holds next L os frame outer (asks.Call o.key) (value_held o) waits.open_frames.stack.0 (value_answers next L frame.key.function o.key o.value o.reach o.tags up.0 two.0),
          two.1,
        );
    within = within;
    no_reach = none;
  }

  -- ---- one ask of the innermost frame

  module _ (law : RightAnswersGiveTheValue) (outer : List Frame) (asked : ℕ) (frame : Frame) (os : Objects) (s : Standing) (may : frame.answers < next.limits.asks) where
    abbrev Asking : Ask → Type 0
    Asking ask = KeepsAsking next top H W U outer frame ask os

    done_keeps : (bytes : List ℕ) (r : Option Interval) → frame.reach ≡ r → length bytes ≤ next.limits.value → Asking (asks.Done bytes)
        → DoneTransition outer (asked + 1) frame r bytes (with_activity os frame.key.function idle) (stays_held outer asked frame (Ok s)) (Ok s) → Kept s
    done_keeps bytes r is short k transition = go r is transition
      where
        after : Objects
        after = with_activity os frame.key.function idle

        waits : IsWaiting next after top (asks.Call frame.key) outer
        waits = record { open_frames = closed next os top (asks.Done bytes) frame outer k.open_frames; few = k.few }

        holds : (r : Option Interval) → frame.reach ≡ r → (L : History) → H L → ValueHolds next L frame.key bytes r frame.tags × FramesHold next L after outer
        holds r is L h =
            let two = hold_closed next L os law top bytes frame outer k.open_frames may short (k.holds L h) in
            (subst (λ (o : Option Interval). ValueHolds next L frame.key bytes o frame.tags) is two.0, two.1)

        go : (r : Option Interval) → frame.reach ≡ r → DoneTransition outer (asked + 1) frame r bytes after (stays_held outer asked frame (Ok s)) (Ok s) → Kept s
        go (Some reach) is transition =
            let e : s ≡ standing outer (asked + 1) (needs.Insert (entry_of_frame frame bytes reach)) after = cc in
            subst Kept (sym e) record {
              fits = (waits, k.open_frames.rising);
              holds = holds (Some reach) is;
              within = λ t w. let all = k.within t w in (subst (λ (o : Option Interval). InReach t o) is all.0, all.1);
              no_reach = λ u. let none = k.no_reach u in (sym is ∙ none.0, none.1);
            }
        go None is transition =
            let e : s ≡ standing outer (asked + 1) (value_need outer (unreached frame bytes)) after = cc in
            subst Kept (sym e)
            (held_keeps outer (asked + 1) (unreached frame bytes) after waits k.open_frames.rising (holds None is) (λ t w. (tt, (k.within t w).1)) (λ u. (refl, (k.no_reach u).1)))

    allowed_keeps : (ask : Ask) → FunctionExists os ask → form_refusal next.limits.value frame.key.function ask ≡ None → Asking ask
        → AllowedTransition outer (asked + 1) frame ask os (stays_held outer asked frame (Ok s)) (Ok s) → Kept s
    allowed_keeps (asks.Query q) there form k transition =
        let e : s ≡ standing (frame ∷ outer) (asked + 1) (needs.Query q) os = cc in
        subst Kept (sym e) record {
          fits = (record { open_frames = k.open_frames; few = (may, k.few) }, λ none. let no : frame ∷ outer ≡ [] = none in absurd (cc));
          holds = k.holds;
          within = λ t w. (tt, k.within t w);
          no_reach = λ u. (refl, k.no_reach u);
        }
    allowed_keeps (asks.Call c) there form k transition =
        let e : s ≡ standing (frame ∷ outer) (asked + 1) (needs.Lookup c) os = cc in
        subst Kept (sym e) record {
          fits = (record { open_frames = k.open_frames; few = (may, k.few) }, (lower_by frame.key.function c (order_let frame.key.function c (nat_le frame.key.function c.function) refl form), k.open_frames.rising), there);
          holds = k.holds;
          within = λ t w. (tt, k.within t w);
          no_reach = λ u. (refl, k.no_reach u);
        }
    allowed_keeps (asks.Done bytes) there form k transition =
        done_keeps bytes frame.reach refl (short_by_test next.limits.value bytes (nat_le (length bytes) next.limits.value) refl form) k transition

  asking_keeps : RightAnswersGiveTheValue → (outer : List Frame) (asked : ℕ) (frame : Frame) (ask : Ask) (os : Objects) (s : Standing) → FunctionExists os ask → KeepsAsking next top H W U outer frame ask os
      → AfterOneAsk next.limits outer asked frame ask os (Ok s) → Kept s
  asking_keeps law outer asked frame ask os s there k transition =
      let fine = allowed_of next.limits outer asked frame os s ask transition in
      allowed_keeps law outer asked frame os s (few_by next.limits.asks frame.answers asked (sym (counted_of next.limits outer asked frame os s ask transition))) ask there fine.0 k fine.1

  -- the needed function's ask
  ran_keeps : RightAnswersGiveTheValue → (t : ℕ) × W t → (frames : List Frame) (asked : ℕ) (os : Objects) (need : Need) (ask : Ask) (after : Standing)
      → due_ask next os frames need ≡ Some ask → FunctionExists (with_resumed os frames need) ask → AfterRan next.limits frames asked os need ask (Ok after)
      → Kept (standing frames asked need os) → Kept after
  ran_keeps law common frames asked os (needs.Begin c) ask after due there transition k = elim transition [
    | inl failed ↦ let never : Ok after ≡ Err failed.0 = failed.1 in absurd (cc)
    | inr one ↦
        let free = free_below c.function frames os k.fits.1 k.fits.0.open_frames.free k.fits.2 in
        asking_keeps law frames asked (begun_frame c) ask (with_begun os c) after there record {
          open_frames = opened next os top c ask frames k.fits.0.open_frames k.fits.1 free due;
          few = k.fits.0.few;
          holds = λ L h. hold_opened next L os c frames k.fits.1 free (k.holds L h);
          within = λ t w. (tt, (k.within t w).1);
          no_reach = λ u. (refl, (k.no_reach u).1);
        } one
  ]
  ran_keeps law common [] asked os (needs.Resume x) ask after due there transition k = absurd transition
  ran_keeps law common (frame ∷ outer) asked os (needs.Resume x) ask after due there transition k = elim transition [
    | inl failed ↦ let never : Ok after ≡ Err failed.0 = failed.1 in absurd (cc)
    | inr one ↦
        let waits = k.fits.0.1 in
        let here = k.within common.0 common.1 in
        asking_keeps law outer asked (given frame x.reach x.tags) ask (with_answer os frame.key.function x.answer) after there record {
          open_frames = resumed next os top k.fits.0.0 ask x.answer frame x.reach x.tags outer waits.open_frames
              (subst (λ (args : List ℕ). next.says frame.key.function args (answers_in os frame.key.function ++ x.answer ∷ []) ≡ Some ask) (sym waits.open_frames.stack.0.args) due);
          few = waits.few.1;
          holds = λ L h.
              let two = k.holds L h in
              hold_resumed next L os top k.fits.0.0 x.answer frame x.reach x.tags outer waits.open_frames (meets_at common.0 frame.reach x.reach here.1.0 here.0) two.1
              (hand_right next L os frame outer k.fits.0.0 x waits.open_frames.stack.0 two.0);
          within = λ t w. let all = k.within t w in in_given t frame x.reach x.tags outer all.1 all.0;
          no_reach = λ u.
              let none = k.no_reach u in
              subst (λ (r : Option Interval). AreUnreached (given frame r x.tags ∷ outer)) (sym none.0) (unreached_given frame x.tags outer none.1);
        } one
  ]
  ran_keeps law common frames asked os need ask after due there transition k = absurd transition

  -- a reply, before any function continues
  module _ (asked : ℕ) (os : Objects) where
    abbrev TakenKeeps : List Frame → Need → Reply → Type 0
    TakenKeeps frames need reply = NeedFits next os top (Some need) frames → ReplyFits need reply
        → ((L : History) → H L → ReplyHolds next L need reply × NeedHolds next L os (Some need) frames)
        → ((t : ℕ) → W t → InReach t (reply_reach reply) × InNeed t (Some need) frames) → (U → (reply_reach reply ≡ None) × IsUnreached (Some need) frames)
        → Kept (standing frames asked (need_after frames need reply) os)

    taken_keeps : (frames : List Frame) (need : Need) (reply : Reply) → TakenKeeps frames need reply
    taken_keeps frames (needs.Lookup k) replies.Miss fits ok holds within none =
        record { fits = fits; holds = λ L h. (holds L h).1; within = λ t w. (within t w).1; no_reach = λ u. (none u).1 }
    taken_keeps frames (needs.Lookup k) (replies.Hit hit) fits ok holds within none =
        held_keeps frames asked (outcome_of k hit.value hit.reach hit.tags) os fits.0 fits.1 holds
        (λ t w. let two = within t w in (two.0, two.1.1)) (λ u. let two = none u in (two.0, two.1.1))
    taken_keeps [] (needs.Query q) (replies.Found found) fits ok holds within none = absurd (fits.1 refl)
    taken_keeps (frame ∷ outer) (needs.Query q) (replies.Found found) fits ok holds within none = record {
      fits = ((asks.Query q, fits.0, tt), fits.1);
      holds = λ L h.
          let two = holds L h in (
            hand_holds next L os frame outer (asks.Query q) (rows_held found) fits.0.open_frames.stack.0 (rows_answer next L frame.key.function q found.rows.items (Some found.reach) found.tags two.0),
            two.1,
          );
      within = λ t w. let two = within t w in (two.0, two.1.1);
      no_reach = λ u. let two = none u in (two.0, two.1.1);
    }
    taken_keeps frames (needs.Insert e) replies.Inserted fits ok holds within none =
        held_keeps frames asked (outcome_of e.key e.value e.reach e.tags) os fits.0 fits.1 (λ L h. (holds L h).1) (λ t w. (within t w).1) (λ u. (none u).1)
    taken_keeps frames need reply fits ok holds within none = absurd ok

-- ---- a call

-- what a call keeps by a reply
pub record KeepsCall (next : Next) (os : Objects) (c : Calling) (reply : Reply) (s : Standing) : Type 0 where
  pub fits : NeedFits next s.objects c.top s.need s.frames
  pub holds : (L : History) (need : Need) → c.need ≡ Some need → ReplyHolds next L need reply → CallHolds next L os c → NeedHolds next L s.objects s.need s.frames
  pub within : (t : ℕ) → InReach t (reply_reach reply) → InCall t c → InNeed t s.need s.frames
  pub no_reach : reply_reach reply ≡ None → CallIsUnreached c → IsUnreached s.need s.frames

module _ (next : Next) (c : Calling) (os : Objects) (need : Need) (reply : Reply) (is : c.need ≡ Some need) (calling : IsCalling next os c) where
  abbrev HoldsBefore : History → Type 0
  HoldsBefore L = ReplyHolds next L need reply × CallHolds next L os c

  abbrev InBefore : ℕ → Type 0
  InBefore t = InReach t (reply_reach reply) × InCall t c

  abbrev UnreachedBefore : Type 0
  UnreachedBefore = (reply_reach reply ≡ None) × CallIsUnreached c

  abbrev KeptBefore : Standing → Type 0
  KeptBefore s = Keeps next c.top HoldsBefore InBefore UnreachedBefore s

  -- a reply that is only taken
  pub call_taken : ReplyFits need reply → KeptBefore (standing c.frames c.asked (need_after c.frames need reply) os)
  call_taken ok =
      taken_keeps next c.top HoldsBefore InBefore UnreachedBefore c.asked os c.frames need reply
      (subst (λ (n : Option Need). NeedFits next os c.top n c.frames) is calling) ok
      (λ L two. (two.0, subst (λ (n : Option Need). NeedHolds next L os n c.frames) is two.1))
      (λ t two. (two.0, subst (λ (n : Option Need). InNeed t n c.frames) is two.1))
      (λ two. (two.0, subst (λ (n : Option Need). IsUnreached n c.frames) is two.1))

  call_replied : RightAnswersGiveTheValue → (s : Standing) → (t : ℕ) × InReach t (reply_reach reply) × InCall t c → AfterReply next c.frames c.asked os need reply (Ok s) → KeptBefore s
  call_replied law s common transition =
      reply_keeps next KeptBefore KeptBefore
      (λ frames asked os' need' ask after due there step k.
      let kept = ran_keeps next c.top HoldsBefore InBefore UnreachedBefore law (common.0, (common.1, common.2)) frames asked os' need' ask after due there step k in (kept, kept))
      (λ asked o os' k. k) s c.frames c.asked os need reply call_taken transition

-- the same, where the call is seen as another value
pub machine_keeps : (next : Next) → RightAnswersGiveTheValue → (seen c : Calling) (os : Objects) (need : Need) (reply : Reply) (s : Standing) → seen ≡ c → seen.need ≡ Some need → IsCalling next os c
    → (t : ℕ) × InReach t (reply_reach reply) × InCall t c → AfterReply next seen.frames seen.asked os need reply (Ok s) → KeepsCall next os c reply s
machine_keeps next law seen c os need reply s same is calling common transition =
    let is' : c.need ≡ Some need = subst (λ (v : Calling). v.need ≡ Some need) same is in
    let k = call_replied next c os need reply is' calling law s common (subst (λ (v : Calling). AfterReply next v.frames v.asked os need reply (Ok s)) same transition) in
    record {
      fits = k.fits;
      holds = λ L n is_n right hold.
          let two : Some n ≡ Some need = sym is_n ∙ is' in
          let one : n ≡ need = cc in
          k.holds L (subst (λ (m : Need). ReplyHolds next L m reply) one right, hold);
      within = λ t here all. k.within t (here, all);
      no_reach = λ none none'. k.no_reach (none, none');
    }

-- what an ask by hand keeps
pub step_ran_keeps : (next : Next) (limits : Limits) → next.limits ≡ limits → RightAnswersGiveTheValue → (c new : Calling) (os : Objects) (need : Need) (ask : Ask) → c.need ≡ Some need → IsCalling next os c
    → (t : ℕ) × InCall t c → due_ask next os c.frames need ≡ Some ask → FunctionExists (with_resumed os c.frames need) ask
    → new.top ≡ c.top → AfterRan limits c.frames c.asked os need ask (Ok (record { frames = new.frames; asked = new.asked; need = new.need; objects = objects_after os c.frames need ask }))
    → StepKeeps next os c (objects_after os c.frames need ask) new
step_ran_keeps next limits same law c new os need ask is calling common due there top transition =
    let s : Standing = record { frames = new.frames; asked = new.asked; need = new.need; objects = objects_after os c.frames need ask } in
    let k = ran_keeps next c.top (λ L. CallHolds next L os c) (λ t. InCall t c) (CallIsUnreached c) law common c.frames c.asked os need ask s due there
    (subst (λ (l : Limits). AfterRan l c.frames c.asked os need ask (Ok s)) (sym same) transition) record {
      fits = subst (λ (n : Option Need). NeedFits next os c.top n c.frames) is calling;
      holds = λ L hold. subst (λ (n : Option Need). NeedHolds next L os n c.frames) is hold;
      within = λ t all. subst (λ (n : Option Need). InNeed t n c.frames) is all;
      no_reach = λ none. subst (λ (n : Option Need). IsUnreached n c.frames) is none;
    } in
    record {
      fits = subst (λ (k : Call). NeedFits next (objects_after os c.frames need ask) k new.need new.frames) (sym top) k.fits;
      holds = k.holds;
      within = k.within;
      no_reach = k.no_reach;
    }

-- ---- over all replies

module _ (next : Next) (law : RightAnswersGiveTheValue) (L : History) (k : Call) where
  step_keeps : (s after : Standing) (reply : Reply) → NeedFits next s.objects k s.need s.frames → NeedHolds next L s.objects s.need s.frames → IsLedBy next L s reply after
      → NeedFits next after.objects k after.need after.frames × NeedHolds next L after.objects after.need after.frames
  step_keeps s after reply fits holds step =
      let kept = call_replied next (record { top = k; asked = s.asked; frames = s.frames; need = s.need }) s.objects step.need reply step.needed fits law after step.common step.transition in
      (kept.fits, kept.holds L (step.right, holds))

  led_keeps : (replies : List Reply) (s end : Standing) → NeedFits next s.objects k s.need s.frames → NeedHolds next L s.objects s.need s.frames → IsAfterReplies next L s replies end
      → NeedFits next end.objects k end.need end.frames × NeedHolds next L end.objects end.need end.frames
  led_keeps [] s end fits holds led =
      (subst (λ (st : Standing). NeedFits next st.objects k st.need st.frames) (sym led) fits, subst (λ (st : Standing). NeedHolds next L st.objects st.need st.frames) (sym led) holds)
  led_keeps (reply ∷ replies) s end fits holds led =
      let one = step_keeps s led.0 reply fits holds led.1 in
      led_keeps replies led.0 end one.0 one.1 led.2

  led_from : (objects : Objects) (replies : List Reply) (s : Standing) → IsLedFrom next L k objects replies s
      → NeedFits next s.objects k s.need s.frames × NeedHolds next L s.objects s.need s.frames
  led_from objects replies s from =
      led_keeps replies (at_start k objects) s
      (record { open_frames = record { stack = refl; rising = tt; free = from.all_idle }; few = tt }, tt, from.there) tt from.led

pub calls_come_to_their_values : RightAnswersGiveTheValue → CallsComeToTheirValues
calls_come_to_their_values law next L k objects replies s o from is =
    let two = led_from next law L k objects replies s from in
    let end = value_fits next s.objects k s.need s.frames o is two.0 in
    let holds : NeedHolds next L s.objects (Some (needs.Value o)) s.frames = subst (λ (n : Option Need). NeedHolds next L s.objects n s.frames) is two.1 in
    record {
      of_call = end.2;
      holds = subst (λ (j : Call). ValueHolds next L j o.value o.reach o.tags) end.2 holds.0;
      all_idle = end.1;
    }

pub insertions_are_true : RightAnswersGiveTheValue → InsertionsAreTrue
insertions_are_true law next L k objects replies s e from is =
    let two = led_from next law L k objects replies s from in
    let holds : NeedHolds next L s.objects (Some (needs.Insert e)) s.frames = subst (λ (n : Option Need). NeedHolds next L s.objects n s.frames) is two.1 in
    holds.0
