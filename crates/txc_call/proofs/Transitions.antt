-- What comes of asks, step by step.
use Rattle.std.proofs.Common.{◌≡◌, ◌≢◌, inl, inr, ℕ, ◌+◌, ◌<◌, ◌≤◌, true, false, nat_le, List, [], ◌∷◌, length, drop, Option, Some, None, Err, refl, sym, ap, subst, ◌∙◌, arith}
use Rattle.std.proofs.lemmas.Bool.Decides.{nat_tests}
use Rattle.std.specs.Prelude.{Result, Ok, IsErrAnd}
use Rattle.txc_stamp.specs.Interval.{Interval}
use Rattle.txc_tags.specs.declared.tag.Tag.{Tag}
use Rattle.txc_tags.proofs.Offered.{bool_cases}
use Rattle.txc_rows.specs.Values.{RowValue}
use Rattle.txc_validity.specs.declared.answer.Found.{Found}
use Rattle.txc_app.specs.declared.app.Limits.{Limits}
use Rattle.txc_app.specs.declared.ask.Ask.{Ask}
use Rattle.txc_app.specs.declared.ask.Ask.TheVariants as asks
use Rattle.txc_app.specs.declared.ask.Answer.TheVariants as answers
use Rattle.txc_app.specs.Eval.{Next}
use Rattle.txc_call_registry.specs.declared.cacheable.CallFault.{CallFault}
use Rattle.txc_call_registry.specs.declared.cacheable.CallFault.TheVariants as faults
use Rattle.txc_call_registry.specs.Activity.{idle}
use Rattle.txc_call_registry.specs.Objects.{Objects, with_activity}
use Rattle.txc_call.specs.declared.error.CallError.{CallError}
use Rattle.txc_call.specs.declared.error.CallError.TheVariants as errors
use Rattle.txc_call.specs.declared.frame.Frame.{Frame}
use Rattle.txc_call.specs.declared.need.HeldAnswer.{HeldAnswer}
use Rattle.txc_call.specs.declared.need.Need.{Need}
use Rattle.txc_call.specs.declared.need.Need.TheVariants as needs
use Rattle.txc_call.specs.declared.need.Outcome.{Outcome}
use Rattle.txc_call.specs.Frames.{given, AreFew}
use Rattle.txc_call.specs.CallSteps.{AfterNeed}
use Rattle.txc_call.specs.MachineTurn.{value_held, Turn, Onward, count_refusal, value_refusal, ask_refusal, error_of, next_ask, turn_of, unreached, with_answer, AfterAsk, AfterRows, AfterValue, AllowedTransition, AskTransition, DoneTransition, IsBeginRefusal, IsOutOfMemory, UnlessRefused}

-- ---- refusals

refused_for : (o : Option CallError) (error : CallError) (rest : Type 0) → Some error ≡ o → UnlessRefused o (Err error) rest
refused_for o error rest is = subst (λ (p : Option CallError). UnlessRefused p (Err error) rest) is refl

allowed_for : (o : Option CallError) (turn : Turn) (rest : Type 0) → None ≡ o → rest → UnlessRefused o turn rest
allowed_for o turn rest is holds = subst (λ (p : Option CallError). UnlessRefused p turn rest) is holds

module _ (limits : Limits) (outer : List Frame) (asked : ℕ) (frame : Frame) (ask : Ask) (objects : Objects) (goes_on : Onward) where
  -- an ask that is one too many
  pub uncounted : (error : CallError) → Some error ≡ count_refusal limits.asks frame.answers asked → AskTransition limits outer asked frame ask objects goes_on (Err error)
  uncounted error is =
      refused_for (count_refusal limits.asks frame.answers asked) error
      (UnlessRefused (ask_refusal limits objects frame.key.function ask) (Err error) (AllowedTransition outer (asked + 1) frame ask objects goes_on (Err error))) is

  -- an ask that may not be made
  pub unasked : (error : CallError) → None ≡ count_refusal limits.asks frame.answers asked → Some error ≡ ask_refusal limits objects frame.key.function ask
      → AskTransition limits outer asked frame ask objects goes_on (Err error)
  unasked error counted is =
      allowed_for (count_refusal limits.asks frame.answers asked) (Err error)
      (UnlessRefused (ask_refusal limits objects frame.key.function ask) (Err error) (AllowedTransition outer (asked + 1) frame ask objects goes_on (Err error))) counted
      (refused_for (ask_refusal limits objects frame.key.function ask) error (AllowedTransition outer (asked + 1) frame ask objects goes_on (Err error)) is)

  -- an ask that is made
  pub asked_for : (turn : Turn) → None ≡ count_refusal limits.asks frame.answers asked → None ≡ ask_refusal limits objects frame.key.function ask
      → AllowedTransition outer (asked + 1) frame ask objects goes_on turn → AskTransition limits outer asked frame ask objects goes_on turn
  asked_for turn counted may transition =
      allowed_for (count_refusal limits.asks frame.answers asked) turn
      (UnlessRefused (ask_refusal limits objects frame.key.function ask) turn (AllowedTransition outer (asked + 1) frame ask objects goes_on turn)) counted
      (allowed_for (ask_refusal limits objects frame.key.function ask) turn (AllowedTransition outer (asked + 1) frame ask objects goes_on turn) may transition)

-- an ask that is counted was not one too many
pub few_by : (most own all : ℕ) → None ≡ count_refusal most own all → own < most
few_by most own all counted = elim (bool_cases (nat_le most own)) [
  | inl many ↦ let none : None ≡ Some errors.AskLimit = rw many at counted in absurd (cc)
  | inr few ↦ grind (arith, nat_tests)
]

-- a value that is not too long
pub short_by : (most : ℕ) (bytes : List ℕ) → length bytes ≤ most → None ≡ value_refusal most bytes
short_by most bytes short =
    let is : nat_le (length bytes) most ≡ true = grind (arith, nat_tests) in
    rw is refl

pub long_by : (most : ℕ) (bytes : List ℕ) → most < length bytes → Some errors.ValueTooLong ≡ value_refusal most bytes
long_by most bytes long =
    let is : nat_le (length bytes) most ≡ false = grind (arith, nat_tests) in
    rw is refl

-- what `?` returns for an error
pub turn_err : (r : Result Need CallError) (error : CallError) (frames : List Frame) (asked : ℕ) (objects : Objects)
    → IsErrAnd r (λ e. e ≡ error) → turn_of r frames asked objects ≡ Err error
turn_err (Ok need) error frames asked objects h = absurd h
turn_err (Err e) error frames asked objects h = ap (λ (x : CallError). Err x) h

-- ---- values

module _ (next : Next) (asked : ℕ) where
  -- a frame that is done without a reach
  pub done_onward : (outer : List Frame) (frame : Frame) (bytes : List ℕ) (objects : Objects) (turn : Turn)
      → None ≡ count_refusal next.limits.asks frame.answers asked → None ≡ value_refusal next.limits.value bytes → frame.reach ≡ None
      → AfterValue next outer (asked + 1) (unreached frame bytes) (with_activity objects frame.key.function idle) turn
      → AfterAsk next outer asked frame (asks.Done bytes) objects turn
  done_onward outer frame bytes objects turn counted short none value =
      let goes_on : Onward = λ after more. AfterValue next outer (asked + 1) (unreached frame more) after turn in
      asked_for next.limits outer asked frame (asks.Done bytes) objects goes_on turn counted short
      (subst (λ (reach : Option Interval). DoneTransition outer (asked + 1) frame reach bytes (with_activity objects frame.key.function idle) goes_on turn) (sym none) value)

  -- a value that reaches a frame
  pub value_onward : (frames frames' : List Frame) (o : Outcome) (ask : Ask) (objects objects' : Objects) (turn : Turn) → frames ≢ []
      → ((frame : Frame) (outer : List Frame) → frames ≡ frame ∷ outer → frames' ≡ given frame o.reach o.tags ∷ outer)
      → ((frame : Frame) (outer : List Frame) → frames ≡ frame ∷ outer → objects' ≡ with_answer objects frame.key.function (answers.Value o.value))
      → ((frame : Frame) (outer : List Frame) → frames ≡ frame ∷ outer → next_ask next objects frame (answers.Value o.value) ≡ Some ask)
      → ((frame : Frame) (outer : List Frame) → frames' ≡ frame ∷ outer → AfterAsk next outer asked frame ask objects' turn)
      → AfterValue next frames asked o objects turn
  value_onward [] frames' o ask objects objects' turn some stack becomes asks transition = absurd (some refl)
  value_onward (frame ∷ outer) frames' o ask objects objects' turn some stack becomes asks transition = inr (
    ask,
    asks frame outer refl,
    subst (λ (os : Objects). AfterAsk next outer asked (given frame o.reach o.tags) ask os turn) (becomes frame outer refl) (transition (given frame o.reach o.tags) outer (stack frame outer refl)),
  )

  -- what was found reaches the innermost frame, which asks this next
  pub rows_onward : (frames frames' : List Frame) (found : Found) (rows : List RowValue) (ask : Ask) (objects objects' : Objects) (turn : Turn) → rows ≡ found.rows.items → frames ≢ []
      → ((frame : Frame) (outer : List Frame) → frames ≡ frame ∷ outer → frames' ≡ given frame (Some found.reach) found.tags ∷ outer)
      → ((frame : Frame) (outer : List Frame) → frames ≡ frame ∷ outer → objects' ≡ with_answer objects frame.key.function (answers.Rows rows))
      → ((frame : Frame) (outer : List Frame) → frames ≡ frame ∷ outer → next_ask next objects frame (answers.Rows rows) ≡ Some ask)
      → ((frame : Frame) (outer : List Frame) → frames' ≡ frame ∷ outer → AfterAsk next outer asked frame ask objects' turn)
      → AfterRows next frames asked found objects turn
  rows_onward [] frames' found rows ask objects objects' turn is some stack becomes asks transition = absurd (some refl)
  rows_onward (frame ∷ outer) frames' found rows ask objects objects' turn is some stack becomes asks transition = inr (
    ask,
    subst (λ (rs : List RowValue). next_ask next objects frame (answers.Rows rs) ≡ Some ask) is (asks frame outer refl),
    subst (λ (os : Objects). AfterAsk next outer asked (given frame (Some found.reach) found.tags) ask os turn)
        (becomes frame outer refl ∙ ap (λ (rs : List RowValue). with_answer objects frame.key.function (answers.Rows rs)) is)
        (transition (given frame (Some found.reach) found.tags) outer (stack frame outer refl)),
  )

  -- a held answer that reaches a frame
  pub held_onward : (frames frames' : List Frame) (x : HeldAnswer) (ask : Ask) (objects objects' : Objects) (turn : Turn) → frames ≢ []
      → ((frame : Frame) (outer : List Frame) → frames ≡ frame ∷ outer → frames' ≡ given frame x.reach x.tags ∷ outer)
      → ((frame : Frame) (outer : List Frame) → frames ≡ frame ∷ outer → objects' ≡ with_answer objects frame.key.function x.answer)
      → ((frame : Frame) (outer : List Frame) → frames ≡ frame ∷ outer → next_ask next objects frame x.answer ≡ Some ask)
      → ((frame : Frame) (outer : List Frame) → frames' ≡ frame ∷ outer → AfterAsk next outer asked frame ask objects' turn)
      → AfterNeed next frames asked objects (needs.Resume x) turn
  held_onward [] frames' x ask objects objects' turn some stack becomes asks transition = absurd (some refl)
  held_onward (frame ∷ outer) frames' x ask objects objects' turn some stack becomes asks transition = inr (
    ask,
    asks frame outer refl,
    subst (λ (os : Objects). AfterAsk next outer asked (given frame x.reach x.tags) ask os turn) (becomes frame outer refl) (transition (given frame x.reach x.tags) outer (stack frame outer refl)),
  )

  -- the effect of a held value is that of the value
  pub value_of_held : (frames : List Frame) (o : Outcome) (objects : Objects) (turn : Turn) → frames ≢ []
      → AfterNeed next frames asked objects (needs.Resume (value_held o)) turn → AfterValue next frames asked o objects turn
  value_of_held [] o objects turn some transition = absurd (some refl)
  value_of_held (frame ∷ outer) o objects turn some transition = transition

  -- a value that finds no memory
  pub value_out : (frames : List Frame) (o : Outcome) (objects : Objects) (error : CallError) → frames ≢ [] → IsOutOfMemory error
      → AfterValue next frames asked o objects (Err error)
  value_out [] o objects error some is = absurd (some refl)
  value_out (frame ∷ outer) o objects error some is = inl (error, refl, is)

-- a frame that was given an answer stands in its place
pub given_place : (most : ℕ) (frames frames' : List Frame) (reach : Option Interval) (tags : List Tag) → frames ≢ []
    → ((frame : Frame) (outer : List Frame) → frames ≡ frame ∷ outer → frames' ≡ given frame reach tags ∷ outer)
    → AreFew most frames → (length frames' ≡ length frames) × (frames' ≢ []) × AreFew most (drop 1 frames')
given_place most [] frames' reach tags some stack few = absurd (some refl)
given_place most (frame ∷ outer) frames' reach tags some stack few =
    let is = stack frame outer refl in (
      ap (λ (fs : List Frame). length fs) is,
      λ none. let no : given frame reach tags ∷ outer ≡ [] = sym is ∙ none in absurd (cc),
      subst (λ (fs : List Frame). AreFew most (drop 1 fs)) (sym is) few.1,
    )

-- ---- an object that did not begin

pub begin_refusal : (r : Result Ask CallFault) (fault : CallFault) (o : Option Ask) (f : ℕ) → r ≡ Err fault
    → (r ≡ Err faults.Args → o ≡ None) → (o ≡ None → r ≡ Err faults.Args) → IsBeginRefusal f o (error_of f fault)
begin_refusal r faults.Args None f is none args = refl
begin_refusal r faults.Args (Some ask) f is none args = let no : Some ask ≡ None = none is in absurd (cc)
begin_refusal r faults.Busy None f is none args = let no = args refl in absurd (cc)
begin_refusal r faults.Busy (Some ask) f is none args = inl refl
begin_refusal r faults.Memory None f is none args = let no = args refl in absurd (cc)
begin_refusal r faults.Memory (Some ask) f is none args = inr (inr refl)

pub begin_memory : (o : Option Ask) (ask : Ask) (f : ℕ) → o ≡ Some ask → IsBeginRefusal f o errors.Memory
begin_memory o ask f is = subst (λ (p : Option Ask). IsBeginRefusal f p errors.Memory) (sym is) (inr (inl refl))
