-- Frames that are opened, answered and closed.
use Rattle.std.proofs.Common.{◌≡◌, ◌≢◌, ℕ, ◌+◌, ◌<◌, ◌≤◌, List, [], ◌∷◌, ◌++◌, length, drop, Option, Some, None, IsSome, sym, refl, ap, ◌∙◌, subst, arith}
use Rattle.std.specs.Prelude.{unwrap_or}
use Rattle.std.proofs.lemmas.List.{length_push}
use Rattle.txc_stamp.specs.Interval.{Interval}
use Rattle.txc_tags.specs.declared.tag.Tag.{Tag}
use Rattle.txc_tags.specs.Keys.{Call}
use Rattle.txc_tags.specs.Tags.{with_tags}
use Rattle.txc_db.specs.History.{History}
use Rattle.txc_app.specs.declared.ask.Ask.{Ask}
use Rattle.txc_app.specs.declared.ask.Ask.TheVariants as asks
use Rattle.txc_app.specs.declared.ask.Answer.{Answer}
use Rattle.txc_app.specs.Eval.{Next}
use Rattle.txc_app.specs.AnswersSoFar.{IsRight}
use Rattle.txc_app.specs.Claims.{ValueHolds}
use Rattle.txc_app.specs.Laws.{RightAnswersGiveTheValue}
use Rattle.txc_app.proofs.Offered.{each_none}
use Rattle.txc_call_registry.specs.Activity.{Activation, Activity, activation_in, answered, begun, idle, next_of, running, WantsAnswer}
use Rattle.txc_call_registry.specs.Objects.{Objects, activation_of, activity_of, with_activity, AllIdle, IsAskingAt}
use Rattle.txc_call_registry.proofs.Offered.{here_after, again, restored, elsewhere, idle_there}
use Rattle.txc_call.specs.declared.frame.Frame.{Frame}
use Rattle.txc_call.specs.Reaches.{InReach, ReachesMeet, meet}
use Rattle.txc_call.specs.Frames.{answers_in, AnswersHold, AreFew, FrameAsks, IsStack, FramesAscendFrom, FramesAscend, released, IsOpen, AnswerHolds, FramesHold, InAll, AreUnreached, begun_frame, given}
use Rattle.txc_call.proofs.Claims.{in_meet}
use Rattle.txc_call.proofs.Answering.{answers_more, done_holds}

-- ---- the functions of the frames

rising_from : (f g : ℕ) (fs : List Frame) → f ≤ g → FramesAscendFrom g fs → FramesAscendFrom f fs
rising_from f g [] le h = tt
rising_from f g (x ∷ fs) le h = let before = h.0 in (omega (arith, before), h.1)

pub rising_all : (f : ℕ) (fs : List Frame) → FramesAscendFrom f fs → FramesAscend fs
rising_all f [] h = tt
rising_all f (x ∷ fs) h = h.1

next_rising : (f : ℕ) (x : Frame) (fs : List Frame) → FramesAscendFrom f (x ∷ fs) → FramesAscendFrom f fs
next_rising f x fs h = let before = h.0 in rising_from f x.key.function fs (omega (arith, before)) h.1

apart : (f : ℕ) (x : Frame) (fs : List Frame) → FramesAscendFrom f (x ∷ fs) → x.key.function ≢ f
apart f x fs h = let before = h.0 in omega (arith, before)

-- ---- the answers that an object was given, by what it does

answers_by : (os os' : Objects) (f g : ℕ) → activity_of os f ≡ activity_of os' g → answers_in os f ≡ answers_in os' g
answers_by os os' f g same = ap (λ (o : Option Activity). (activation_in (unwrap_or o idle)).answers) same

answers_here : (os : Objects) (f : ℕ) (a : Activation) → activity_of os f ≡ Some (running a) → answers_in os f ≡ a.answers
answers_here os f a here = ap (λ (o : Option Activity). (activation_in (unwrap_or o idle)).answers) here

-- ---- what another object does changes no frame

module _ (f : ℕ) (new : Activity) where
  same_else : (os : Objects) (g : ℕ) → g ≢ f → activity_of (with_activity os f new) g ≡ activity_of os g
  same_else os g other = elsewhere f g new other os

  asking_else : (next : Next) (os : Objects) (ask : Ask) (x : Frame) → x.key.function ≢ f → FrameAsks next os ask x → FrameAsks next (with_activity os f new) ask x
  asking_else next os ask x other h =
      let same = same_else os x.key.function other in
      let answers = answers_by (with_activity os f new) os x.key.function x.key.function same in
      record {
        runs = rw same h.runs;
        args = rw same h.args;
        asks = ap (λ (xs : List Answer). next.says x.key.function x.key.args xs) answers ∙ h.asks;
        counted = ap (λ (xs : List Answer). length xs) answers ∙ h.counted;
      }

  stack_else : (next : Next) (os : Objects) (top : Call) (ask : Ask) (fs : List Frame) → FramesAscendFrom f fs → IsStack next os top ask fs → IsStack next (with_activity os f new) top ask fs
  stack_else next os top ask [] up h = h
  stack_else next os top ask (x ∷ fs) up h =
      (asking_else next os ask x (apart f x fs up) h.0, stack_else next os top (asks.Call x.key) fs (next_rising f x fs up) h.1)

  pub hold_else : (next : Next) (L : History) (os : Objects) (fs : List Frame) → FramesAscendFrom f fs → FramesHold next L os fs → FramesHold next L (with_activity os f new) fs
  hold_else next L os [] up h = h
  hold_else next L os (x ∷ fs) up h =
      let answers = answers_by (with_activity os f new) os x.key.function x.key.function (same_else os x.key.function (apart f x fs up)) in
      (subst (λ (xs : List Answer). AnswersHold next L x.key xs x.reach x.tags) (sym answers) h.0, hold_else next L os fs (next_rising f x fs up) h.1)

released_else : (g : ℕ) (fs : List Frame) (os : Objects) → FramesAscendFrom g fs → activity_of (released fs os) g ≡ activity_of os g
released_else g [] os up = refl
released_else g (x ∷ fs) os up =
    released_else g fs (with_activity os x.key.function idle) (next_rising g x fs up)
    ∙ elsewhere x.key.function g idle (λ e. apart g x fs up (sym e)) os

-- an object below every open frame is idle
pub free_below : (g : ℕ) (fs : List Frame) (os : Objects) → FramesAscendFrom g fs → AllIdle (released fs os) → IsSome (activity_of os g) → activity_of os g ≡ Some idle
free_below g fs os up free there =
    let same = released_else g fs os up in
    sym same ∙ idle_there (released fs os) g free (rw same there)

-- ---- structure

module _ (next : Next) (os : Objects) (top : Call) where
  -- a frame is opened for the call that is asked for
  pub opened : (k : Call) (ask : Ask) (fs : List Frame) → IsOpen next os top (asks.Call k) fs → FramesAscendFrom k.function fs → activity_of os k.function ≡ Some idle
      → next.says k.function k.args [] ≡ Some ask
      → IsOpen next (with_activity os k.function (running (begun k.args))) top ask (begun_frame k ∷ fs)
  opened k ask fs h up free asked =
      let here : activity_of (with_activity os k.function (running (begun k.args))) k.function ≡ Some (running (begun k.args)) = here_after k.function os idle (running (begun k.args)) free in
      let answers = answers_here (with_activity os k.function (running (begun k.args))) k.function (begun k.args) here in
      record {
        stack = (record { runs = rw here refl; args = rw here refl; asks = ap (λ (xs : List Answer). next.says k.function k.args xs) answers ∙ asked; counted = ap (λ (xs : List Answer). length xs) answers }, stack_else k.function (running (begun k.args)) next os top (asks.Call k) fs up h.stack);
        rising = up;
        free = rw (restored k.function os idle (running (begun k.args)) free) h.free;
      }

  -- the innermost frame's object may go on
  pub may_resume : (ask : Ask) (frame : Frame) (fs : List Frame) → IsOpen next os top ask (frame ∷ fs) → WantsAnswer (Some ask) → IsAskingAt next os frame.key.function
  may_resume ask frame fs h wants =
      let asked : next_of (next.says frame.key.function) (activation_of os frame.key.function) ≡ Some ask = ap (λ (args : List ℕ). next.says frame.key.function args (answers_in os frame.key.function)) h.stack.0.args ∙ h.stack.0.asks in
      (h.stack.0.runs, rw asked wants)

  -- the innermost frame was given an answer
  pub resumed : (ask ask' : Ask) (x : Answer) (frame : Frame) (reach : Option Interval) (tags : List Tag) (fs : List Frame) → IsOpen next os top ask (frame ∷ fs)
      → next_of (next.says frame.key.function) (answered (activation_of os frame.key.function) x) ≡ Some ask'
      → IsOpen next (with_activity os frame.key.function (running (answered (activation_of os frame.key.function) x))) top ask' (given frame reach tags ∷ fs)
  resumed ask ask' x frame reach tags fs h asked =
      let f = frame.key.function in
      let a : Activation = activation_of os f in
      let here : activity_of (with_activity os f (running (answered a x))) f ≡ Some (running (answered a x)) = here_after f os (running a) (running (answered a x)) h.stack.0.runs in
      let counted = h.stack.0.counted in
      let answers = answers_here (with_activity os f (running (answered a x))) f (answered a x) here in
      let longer : length (a.answers ++ x ∷ []) ≡ frame.answers + 1 = omega (arith, length_push a.answers x, counted) in
      record {
        stack = (
          record {
            runs = rw here refl;
            args = rw here h.stack.0.args;
            asks = ap (λ (xs : List Answer). next.says f frame.key.args xs) answers ∙ subst (λ (args : List ℕ). next.says f args (a.answers ++ x ∷ []) ≡ Some ask') h.stack.0.args asked;
            counted = ap (λ (xs : List Answer). length xs) answers ∙ longer;
          },
          stack_else f (running (answered a x)) next os top (asks.Call frame.key) fs h.rising h.stack.1,
        );
        rising = h.rising;
        free = rw (again f os (running (answered a x)) idle) h.free;
      }

  -- the innermost frame was released
  pub closed : (ask : Ask) (frame : Frame) (fs : List Frame) → IsOpen next os top ask (frame ∷ fs) → IsOpen next (with_activity os frame.key.function idle) top (asks.Call frame.key) fs
  closed ask frame fs h = record {
    stack = stack_else frame.key.function idle next os top (asks.Call frame.key) fs h.rising h.stack.1;
    rising = rising_all frame.key.function fs h.rising;
    free = h.free;
  }

-- ---- meaning

module _ (next : Next) (L : History) (os : Objects) where
  pub hold_opened : (k : Call) (fs : List Frame) → FramesAscendFrom k.function fs → activity_of os k.function ≡ Some idle → FramesHold next L os fs
      → FramesHold next L (with_activity os k.function (running (begun k.args))) (begun_frame k ∷ fs)
  hold_opened k fs up free h =
      let here : activity_of (with_activity os k.function (running (begun k.args))) k.function ≡ Some (running (begun k.args)) = here_after k.function os idle (running (begun k.args)) free in
      let answers = answers_here (with_activity os k.function (running (begun k.args))) k.function (begun k.args) here in
      (subst (λ (xs : List Answer). AnswersHold next L k xs None []) (sym answers) (λ s. (each_none (λ (before : List Answer) (a : Answer). IsRight next k.function s (next.says k.function k.args before) a), refl)), hold_else k.function (running (begun k.args)) next L os fs up h)

  pub hold_resumed : (top : Call) (ask : Ask) (x : Answer) (frame : Frame) (reach : Option Interval) (tags : List Tag) (fs : List Frame)
      → IsOpen next os top ask (frame ∷ fs) → ReachesMeet frame.reach reach
      → FramesHold next L os (frame ∷ fs) → AnswerHolds next L frame.key.function ask x reach tags
      → FramesHold next L (with_activity os frame.key.function (running (answered (activation_of os frame.key.function) x))) (given frame reach tags ∷ fs)
  hold_resumed top ask x frame reach tags fs open_ m h new =
      let f = frame.key.function in
      let a : Activation = activation_of os f in
      let here : activity_of (with_activity os f (running (answered a x))) f ≡ Some (running (answered a x)) = here_after f os (running a) (running (answered a x)) open_.stack.0.runs in
      let answers = answers_here (with_activity os f (running (answered a x))) f (answered a x) here in (
        subst (λ (xs : List Answer). AnswersHold next L frame.key xs (meet frame.reach reach) (with_tags tags frame.tags)) (sym answers) (answers_more next frame.key L a.answers ask x frame.reach reach frame.tags tags open_.stack.0.asks m h.0 new),
        hold_else f (running (answered a x)) next L os fs open_.rising h.1,
      )

  pub hold_closed : RightAnswersGiveTheValue → (top : Call) (bytes : List ℕ) (frame : Frame) (fs : List Frame) → IsOpen next os top (asks.Done bytes) (frame ∷ fs)
      → frame.answers < next.limits.asks → length bytes ≤ next.limits.value → FramesHold next L os (frame ∷ fs)
      → ValueHolds next L frame.key bytes frame.reach frame.tags × FramesHold next L (with_activity os frame.key.function idle) fs
  hold_closed law top bytes frame fs open_ few short h = (
    done_holds next frame.key law L (answers_in os frame.key.function) bytes frame.reach frame.tags (subst (λ (n : ℕ). n < next.limits.asks) (sym open_.stack.0.counted) few) open_.stack.0.asks short h.0,
    hold_else frame.key.function idle next L os fs open_.rising h.1,
  )

-- ---- reaches

pub in_given : (t : ℕ) (frame : Frame) (reach : Option Interval) (tags : List Tag) (fs : List Frame) → InAll t (frame ∷ fs) → InReach t reach → InAll t (given frame reach tags ∷ fs)
in_given t frame reach tags fs all here = (in_meet t frame.reach reach all.0 here, all.1)

pub unreached_given : (frame : Frame) (tags : List Tag) (fs : List Frame) → AreUnreached (frame ∷ fs) → AreUnreached (given frame None tags ∷ fs)
unreached_given frame tags fs all = (ap (λ (r : Option Interval). meet r None) all.0, all.1)

-- ---- how often the frames asked

pub few_all : (most : ℕ) (fs : List Frame) → ((frame : Frame) (rest : List Frame) → fs ≡ frame ∷ rest → frame.answers < most) → AreFew most (drop 1 fs) → AreFew most fs
few_all most [] first rest = tt
few_all most (x ∷ fs) first rest = (first x fs refl, rest)

pub few_rest : (most : ℕ) (fs rest : List Frame) (frame : Frame) → fs ≡ frame ∷ rest → AreFew most (drop 1 fs) → AreFew most rest
few_rest most fs rest frame is few = subst (λ (st : List Frame). AreFew most (drop 1 st)) is few

pub few_inside : (most : ℕ) (fs rest : List Frame) (frame : Frame) → fs ≡ frame ∷ rest → AreFew most fs → (frame.answers < most) × AreFew most rest
few_inside most fs rest frame is few = subst (AreFew most) is few

pub not_empty : (fs rest : List Frame) (frame : Frame) → fs ≡ frame ∷ rest → fs ≢ []
not_empty fs rest frame is none = let e : frame ∷ rest ≡ [] = sym is ∙ none in absurd (cc)

-- ---- the same, by what the calls promise

module _ (next : Next) (os os' : Objects) (top : Call) (fs fs' : List Frame) where
  pub opened_at : (k : Call) (ask : Ask) (f : ℕ) (args : List ℕ) → IsOpen next os top (asks.Call k) fs → FramesAscendFrom k.function fs → activity_of os k.function ≡ Some idle
      → f ≡ k.function → args ≡ k.args → next_of (next.says f) (begun args) ≡ Some ask
      → os' ≡ with_activity os f (running (begun args)) → fs' ≡ begun_frame k ∷ fs → IsOpen next os' top ask fs'
  opened_at k ask f args h up free is_f is_args asked objects frames =
      rw (objects, frames, is_f, is_args) (opened next os top k ask fs h up free (rw (is_f, is_args) at asked))

  pub hold_opened_at : (L : History) (k : Call) (f : ℕ) (args : List ℕ) → FramesAscendFrom k.function fs → activity_of os k.function ≡ Some idle
      → f ≡ k.function → args ≡ k.args → os' ≡ with_activity os f (running (begun args)) → fs' ≡ begun_frame k ∷ fs
      → FramesHold next L os fs → FramesHold next L os' fs'
  hold_opened_at L k f args up free is_f is_args objects frames h =
      let same : os' ≡ with_activity os k.function (running (begun k.args)) = objects ∙ ap (λ (g : ℕ). with_activity os g (running (begun args))) is_f ∙ ap (λ (xs : List ℕ). with_activity os k.function (running (begun xs))) is_args in
      subst (λ (o : Objects). FramesHold next L o fs') (sym same)
      (subst (λ (st : List Frame). FramesHold next L (with_activity os k.function (running (begun k.args))) st) (sym frames) (hold_opened next L os k fs up free h))

  pub may_resume_at : (ask : Ask) (frame : Frame) (rest : List Frame) (f : ℕ) → fs ≡ frame ∷ rest → f ≡ frame.key.function
      → IsOpen next os top ask fs → WantsAnswer (Some ask) → IsAskingAt next os f
  may_resume_at ask frame rest f at is_f h wants =
      rw is_f (may_resume next os top ask frame rest (subst (λ (st : List Frame). IsOpen next os top ask st) at h) wants)

  pub resumed_at : (ask ask' : Ask) (x : Answer) (frame : Frame) (rest : List Frame) (f : ℕ) (reach : Option Interval) (tags : List Tag) → fs ≡ frame ∷ rest → f ≡ frame.key.function
      → IsOpen next os top ask fs → next_of (next.says f) (answered (activation_of os f) x) ≡ Some ask'
      → os' ≡ with_activity os f (running (answered (activation_of os f) x)) → fs' ≡ given frame reach tags ∷ rest → IsOpen next os' top ask' fs'
  resumed_at ask ask' x frame rest f reach tags at is_f h asked objects frames =
      rw (objects, frames, is_f) (resumed next os top ask ask' x frame reach tags rest (subst (λ (st : List Frame). IsOpen next os top ask st) at h) (rw is_f at asked))

  pub hold_resumed_at : (L : History) (ask : Ask) (x : Answer) (frame : Frame) (rest : List Frame) (f : ℕ) (reach : Option Interval) (tags : List Tag) → fs ≡ frame ∷ rest → f ≡ frame.key.function
      → IsOpen next os top ask fs → ReachesMeet frame.reach reach
      → os' ≡ with_activity os f (running (answered (activation_of os f) x)) → fs' ≡ given frame reach tags ∷ rest
      → FramesHold next L os fs → AnswerHolds next L frame.key.function ask x reach tags → FramesHold next L os' fs'
  hold_resumed_at L ask x frame rest f reach tags at is_f h m objects frames hold new =
      let g = frame.key.function in
      let same : os' ≡ with_activity os g (running (answered (activation_of os g) x)) = objects ∙ ap (λ (n : ℕ). with_activity os n (running (answered (activation_of os n) x))) is_f in
      subst (λ (o : Objects). FramesHold next L o fs') (sym same)
      (subst (λ (st : List Frame). FramesHold next L (with_activity os g (running (answered (activation_of os g) x))) st) (sym frames)
      (hold_resumed next L os top ask x frame reach tags rest (subst (λ (st : List Frame). IsOpen next os top ask st) at h) m (subst (λ (st : List Frame). FramesHold next L os st) at hold) new))

  -- a refused answer leaves what will be released
  pub released_given : (frame : Frame) (rest : List Frame) (reach : Option Interval) (tags : List Tag) → fs ≡ frame ∷ rest → fs' ≡ given frame reach tags ∷ rest
      → AllIdle (released fs os) → AllIdle (released fs' os)
  released_given frame rest reach tags old new free =
      rw new (subst (λ (st : List Frame). AllIdle (released st os)) old free)
