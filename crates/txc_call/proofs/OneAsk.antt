-- The effect of one ask, before any other function continues.
use Rattle.std.proofs.Common.{◌≡◌, ◌≢◌, inr, ℕ, ◌+◌, ◌<◌, nat_le, Bool, true, false, List, [], ◌∷◌, Option, Some, None, IsSome, Ok, Err, sym, refl, ap, subst, ◌∙◌, arith}
use Rattle.std.proofs.lemmas.Bool.Decides.{nat_tests}
use Rattle.txc_stamp.specs.Interval.{Interval}
use Rattle.txc_tags.specs.Keys.{Call}
use Rattle.std.specs.Prelude.{Result, if◌then◌else◌, is_some}
use Rattle.txc_app.specs.declared.app.Limits.{Limits}
use Rattle.txc_app.specs.declared.ask.Ask.{Ask}
use Rattle.txc_app.specs.declared.ask.Ask.TheVariants as asks
use Rattle.txc_app.specs.Eval.{Next}
use Rattle.txc_call_registry.specs.Activity.{Activity, idle}
use Rattle.txc_call_registry.specs.Objects.{Objects, activity_of, with_activity}
use Rattle.txc_call.specs.declared.error.CallError.{CallError}
use Rattle.txc_call.specs.declared.error.CallError.TheVariants as errors
use Rattle.txc_call.specs.declared.frame.Frame.{Frame}
use Rattle.txc_call.specs.declared.frames.TheConstants.{MAX_CALL_ASKS}
use Rattle.txc_call.specs.declared.need.HeldAnswer.{HeldAnswer}
use Rattle.txc_call.specs.declared.need.Need.{Need}
use Rattle.txc_call.specs.declared.need.Need.TheVariants as needs
use Rattle.txc_call.specs.declared.need.Outcome.{Outcome}
use Rattle.txc_call.specs.declared.reply.Reply.{Reply}
use Rattle.txc_call.specs.declared.reply.Reply.TheVariants as replies
use Rattle.txc_call.specs.Reaches.{ReachesMeet}
use Rattle.txc_call.specs.Frames.{given, AreFew}
use Rattle.txc_call.specs.Needs.{NeedFits, ReplyFits}
use Rattle.txc_call.proofs.Claims.{meets_none}
use Rattle.txc_call.specs.CallSteps.{value_need, stays_held, is_done, need_after, objects_after, order_refusal, with_ask, form_refusal, AfterNeed, AfterRan, AfterOneAsk, NeedsFunction}
use Rattle.txc_call.specs.MachineTurn.{Onward, Standing, Turn, UnlessRefused, ask_refusal, call_refusal, count_refusal, entry_of_frame, needing, outwards, turn_of, unreached, with_answer, value_held, value_refusal, AfterReply, AllowedTransition, AskTransition, DoneTransition}

-- ---- refusals

unless_map : (o : Option CallError) (turn : Turn) (X Y : Type 0) → (X → Y) → UnlessRefused o turn X → UnlessRefused o turn Y
unless_map (Some error) turn X Y f h = h
unless_map None turn X Y f h = f h

pub let_by : (o : Option CallError) (s : Standing) (T : Type 0) → UnlessRefused o (Ok s) T → (o ≡ None) × T
let_by (Some error) s T h = absurd (cc)
let_by None s T h = (refl, h)

refused_with : (o : Option CallError) (error : CallError) (T : Type 0) → Some error ≡ o → UnlessRefused o (Err error) T
refused_with o error T is = subst (λ (p : Option CallError). UnlessRefused p (Err error) T) is refl

passed_with : (o : Option CallError) (turn : Turn) (T : Type 0) → None ≡ o → T → UnlessRefused o turn T
passed_with o turn T is h = subst (λ (p : Option CallError). UnlessRefused p turn T) is h

pub order_let : (f : ℕ) (k : Call) (b : Bool) → nat_le f k.function ≡ b → order_refusal f k ≡ None → nat_le f k.function ≡ false
order_let f k true is h = let no : Some (errors.CallOrder f k.function) ≡ None = rw is at h in absurd (cc)
order_let f k false is h = is

never : (error : CallError) (fs : List Frame) (n : ℕ) (need : Need) (os : Objects) → Err error ≡ needing fs n need os → ⊥
never error fs n need os is = absurd (cc)

module _ (objects : Objects) (f : ℕ) (k : Call) where
  call_there : (b : Bool) → nat_le f k.function ≡ b → IsSome (activity_of objects k.function) → call_refusal objects f k ≡ order_refusal f k
  call_there true is there = rw is refl
  call_there false is there = rw (is, there) refl

  call_absent : (o : Option Activity) → activity_of objects k.function ≡ o → nat_le f k.function ≡ false → (IsSome (activity_of objects k.function) → ⊥)
      → Some (errors.NoFunction k.function) ≡ call_refusal objects f k
  call_absent (Some a) is may none = absurd (none (rw is refl))
  call_absent None is may none = rw (may, is) refl

  call_order : (b : Bool) → nat_le f k.function ≡ b → (turn : Turn) (X Y : Type 0) → UnlessRefused (order_refusal f k) turn X → (X → ⊥)
      → UnlessRefused (call_refusal objects f k) turn Y
  call_order true is turn X Y h none =
      let h' : UnlessRefused (Some (errors.CallOrder f k.function)) turn X = rw is at h in
      let refusal : Some (errors.CallOrder f k.function) ≡ call_refusal objects f k = rw is refl in
      subst (λ (o : Option CallError). UnlessRefused o turn Y) refusal h'
  call_order false is turn X Y h none = let h' : UnlessRefused None turn X = rw is at h in absurd (none h')

  there_by : (o : Option Activity) → (if is_some o then None else Some (errors.NoFunction k.function)) ≡ None → IsSome o
  there_by (Some a) h = refl
  there_by None h = absurd (cc)

  -- a call that may be made
  pub call_let : (b : Bool) → nat_le f k.function ≡ b → call_refusal objects f k ≡ None → (None ≡ order_refusal f k) × IsSome (activity_of objects k.function)
  call_let true is may = let no : Some (errors.CallOrder f k.function) ≡ None = rw is at may in absurd (cc)
  call_let false is may = (rw is refl, there_by (activity_of objects k.function) (rw is at may))

within_budget : (most own all : ℕ) → count_refusal most own all ≡ None → all < MAX_CALL_ASKS
within_budget most own all counted = grind (arith, nat_tests)

module _ (limits : Limits) (outer : List Frame) (asked : ℕ) (frame : Frame) (objects : Objects) where
  -- ---- what a step gives

  pub one_uncounted : (ask : Ask) (error : CallError) → Some error ≡ count_refusal limits.asks frame.answers asked → AfterOneAsk limits outer asked frame ask objects (Err error)
  one_uncounted ask error is =
      refused_with (count_refusal limits.asks frame.answers asked) error
      (UnlessRefused (form_refusal limits.value frame.key.function ask) (Err error)
      (AllowedTransition outer (asked + 1) frame ask objects (stays_held outer asked frame (Err error)) (Err error))) is

  pub one_refused : (ask : Ask) (error : CallError) → None ≡ count_refusal limits.asks frame.answers asked → Some error ≡ form_refusal limits.value frame.key.function ask
      → AfterOneAsk limits outer asked frame ask objects (Err error)
  one_refused ask error counted is =
      passed_with (count_refusal limits.asks frame.answers asked) (Err error)
      (UnlessRefused (form_refusal limits.value frame.key.function ask) (Err error)
      (AllowedTransition outer (asked + 1) frame ask objects (stays_held outer asked frame (Err error)) (Err error))) counted
      (refused_with (form_refusal limits.value frame.key.function ask) error
      (AllowedTransition outer (asked + 1) frame ask objects (stays_held outer asked frame (Err error)) (Err error)) is)

  pub one_allowed : (ask : Ask) (turn : Turn) → None ≡ count_refusal limits.asks frame.answers asked → None ≡ form_refusal limits.value frame.key.function ask
      → AllowedTransition outer (asked + 1) frame ask objects (stays_held outer asked frame turn) turn
      → AfterOneAsk limits outer asked frame ask objects turn
  one_allowed ask turn counted may transition =
      passed_with (count_refusal limits.asks frame.answers asked) turn
      (UnlessRefused (form_refusal limits.value frame.key.function ask) turn
      (AllowedTransition outer (asked + 1) frame ask objects (stays_held outer asked frame turn) turn)) counted
      (passed_with (form_refusal limits.value frame.key.function ask) turn
      (AllowedTransition outer (asked + 1) frame ask objects (stays_held outer asked frame turn) turn) may transition)

  -- ---- refused

  no_done : (error : CallError) (bytes : List ℕ) (r : Option Interval) (goes_on : Onward)
      → DoneTransition outer (asked + 1) frame r bytes (with_activity objects frame.key.function idle) (stays_held outer asked frame (Err error)) (Err error)
      → DoneTransition outer (asked + 1) frame r bytes (with_activity objects frame.key.function idle) goes_on (Err error)
  no_done error bytes (Some r) goes_on transition =
      absurd (never error outer (asked + 1) (needs.Insert (entry_of_frame frame bytes r)) (with_activity objects frame.key.function idle) transition)
  no_done error bytes None goes_on transition =
      absurd (never error outer (asked + 1) (value_need outer (unreached frame bytes)) (with_activity objects frame.key.function idle) transition)

  no_ask : (ask : Ask) (error : CallError) (goes_on : Onward)
      → UnlessRefused (form_refusal limits.value frame.key.function ask) (Err error) (AllowedTransition outer (asked + 1) frame ask objects (stays_held outer asked frame (Err error)) (Err error))
      → UnlessRefused (ask_refusal limits objects frame.key.function ask) (Err error) (AllowedTransition outer (asked + 1) frame ask objects goes_on (Err error))
  no_ask (asks.Query q) error goes_on transition = absurd (never error (frame ∷ outer) (asked + 1) (needs.Query q) objects transition)
  no_ask (asks.Call k) error goes_on transition =
      call_order objects frame.key.function k (nat_le frame.key.function k.function) refl (Err error)
      (AllowedTransition outer (asked + 1) frame (asks.Call k) objects (stays_held outer asked frame (Err error)) (Err error))
      (AllowedTransition outer (asked + 1) frame (asks.Call k) objects goes_on (Err error))
      transition (never error (frame ∷ outer) (asked + 1) (needs.Lookup k) objects)
  no_ask (asks.Done bytes) error goes_on transition =
      unless_map (value_refusal limits.value bytes) (Err error)
      (AllowedTransition outer (asked + 1) frame (asks.Done bytes) objects (stays_held outer asked frame (Err error)) (Err error))
      (AllowedTransition outer (asked + 1) frame (asks.Done bytes) objects goes_on (Err error))
      (no_done error bytes frame.reach goes_on) transition

  -- an ask that fails by hand fails over a registry too
  pub asks_refused : (ask : Ask) (error : CallError) (goes_on : Onward) → AfterOneAsk limits outer asked frame ask objects (Err error)
      → AskTransition limits outer asked frame ask objects goes_on (Err error)
  asks_refused ask error goes_on transition =
      unless_map (count_refusal limits.asks frame.answers asked) (Err error)
      (UnlessRefused (form_refusal limits.value frame.key.function ask) (Err error) (AllowedTransition outer (asked + 1) frame ask objects (stays_held outer asked frame (Err error)) (Err error)))
      (UnlessRefused (ask_refusal limits objects frame.key.function ask) (Err error) (AllowedTransition outer (asked + 1) frame ask objects goes_on (Err error)))
      (no_ask ask error goes_on) transition

  -- ---- allowed

  module _ (s : Standing) where
    pub counted_of : (ask : Ask) → AfterOneAsk limits outer asked frame ask objects (Ok s) → count_refusal limits.asks frame.answers asked ≡ None
    counted_of ask transition =
        (let_by (count_refusal limits.asks frame.answers asked) s
        (UnlessRefused (form_refusal limits.value frame.key.function ask) (Ok s) (AllowedTransition outer (asked + 1) frame ask objects (stays_held outer asked frame (Ok s)) (Ok s))) transition).0

    pub allowed_of : (ask : Ask) → AfterOneAsk limits outer asked frame ask objects (Ok s)
        → (form_refusal limits.value frame.key.function ask ≡ None) × AllowedTransition outer (asked + 1) frame ask objects (stays_held outer asked frame (Ok s)) (Ok s)
    allowed_of ask transition =
        let_by (form_refusal limits.value frame.key.function ask) s (AllowedTransition outer (asked + 1) frame ask objects (stays_held outer asked frame (Ok s)) (Ok s))
        ((let_by (count_refusal limits.asks frame.answers asked) s
        (UnlessRefused (form_refusal limits.value frame.key.function ask) (Ok s) (AllowedTransition outer (asked + 1) frame ask objects (stays_held outer asked frame (Ok s)) (Ok s))) transition).1)

    -- an ask over a registry that was made
    pub let_through : (ask : Ask) (goes_on : Onward) → AskTransition limits outer asked frame ask objects goes_on (Ok s)
        → (None ≡ count_refusal limits.asks frame.answers asked) × (None ≡ ask_refusal limits objects frame.key.function ask) × AllowedTransition outer (asked + 1) frame ask objects goes_on (Ok s)
    let_through ask goes_on transition =
        let counted = let_by (count_refusal limits.asks frame.answers asked) s (UnlessRefused (ask_refusal limits objects frame.key.function ask) (Ok s) (AllowedTransition outer (asked + 1) frame ask objects goes_on (Ok s))) transition in
        let may = let_by (ask_refusal limits objects frame.key.function ask) s (AllowedTransition outer (asked + 1) frame ask objects goes_on (Ok s)) counted.1 in
        (sym counted.0, sym may.0, may.1)

    once_done : (bytes : List ℕ) (r : Option Interval) → DoneTransition outer (asked + 1) frame r bytes (with_activity objects frame.key.function idle) (stays_held outer asked frame (Ok s)) (Ok s) → s.asked ≡ asked + 1
    once_done bytes (Some r) transition = cc
    once_done bytes None transition = cc

    once : (ask : Ask) → AllowedTransition outer (asked + 1) frame ask objects (stays_held outer asked frame (Ok s)) (Ok s) → s.asked ≡ asked + 1
    once (asks.Query q) transition = cc
    once (asks.Call k) transition = cc
    once (asks.Done bytes) transition = once_done bytes frame.reach transition

    -- an ask counts, and was not one too many
    pub one_counts : (ask : Ask) → AfterOneAsk limits outer asked frame ask objects (Ok s) → (s.asked ≡ asked + 1) × (asked < MAX_CALL_ASKS)
    one_counts ask transition = (once ask (allowed_of ask transition).1, within_budget limits.asks frame.answers asked (counted_of ask transition))

    needs_by : (fs : List Frame) (n : ℕ) (need other : Need) (os : Objects) → Ok s ≡ needing fs n need os → s.need ≡ Some other → need ≡ other
    needs_by fs n need other os is needed =
        let e : s ≡ record { frames = fs; asked = n; need = Some need; objects = os } = cc in
        let same : Some need ≡ Some other = sym (ap (λ (st : Standing). st.need) e) ∙ needed in
        cc

    hand_no_lookup : (fs : List Frame) (bytes : List ℕ) (k : Call) → value_need fs (unreached frame bytes) ≡ needs.Lookup k → ⊥
    hand_no_lookup [] bytes k is = let no : needs.Value (unreached frame bytes) ≡ needs.Lookup k = is in absurd (cc)
    hand_no_lookup (x ∷ fs) bytes k is = let no : needs.Resume (value_held (unreached frame bytes)) ≡ needs.Lookup k = is in absurd (cc)

    done_no_lookup : (bytes : List ℕ) (k : Call) (r : Option Interval) → s.need ≡ Some (needs.Lookup k)
        → DoneTransition outer (asked + 1) frame r bytes (with_activity objects frame.key.function idle) (stays_held outer asked frame (Ok s)) (Ok s) → ⊥
    done_no_lookup bytes k (Some r) needed transition =
        let no = needs_by outer (asked + 1) (needs.Insert (entry_of_frame frame bytes r)) (needs.Lookup k) (with_activity objects frame.key.function idle) transition needed in absurd (cc)
    done_no_lookup bytes k None needed transition =
        hand_no_lookup outer bytes k (needs_by outer (asked + 1) (value_need outer (unreached frame bytes)) (needs.Lookup k) (with_activity objects frame.key.function idle) transition needed)

    -- a call of a function that does not exist
    absent_by : (ask : Ask) (k : Call) (goes_on : Onward) → s.need ≡ Some (needs.Lookup k) → (IsSome (activity_of objects k.function) → ⊥)
        → count_refusal limits.asks frame.answers asked ≡ None → form_refusal limits.value frame.key.function ask ≡ None
        → AllowedTransition outer (asked + 1) frame ask objects (stays_held outer asked frame (Ok s)) (Ok s)
        → AskTransition limits outer asked frame ask objects goes_on (Err (errors.NoFunction k.function))
    absent_by (asks.Query q) k goes_on needed none counted may transition =
        let no = needs_by (frame ∷ outer) (asked + 1) (needs.Query q) (needs.Lookup k) objects transition needed in absurd (cc)
    absent_by (asks.Call j) k goes_on needed none counted may transition =
        let is : needs.Lookup j ≡ needs.Lookup k = needs_by (frame ∷ outer) (asked + 1) (needs.Lookup j) (needs.Lookup k) objects transition needed in
        let same : j ≡ k = cc in
        let error : CallError = errors.NoFunction k.function in
        let refusal : Some error ≡ call_refusal objects frame.key.function k =
        call_absent objects frame.key.function k (activity_of objects k.function) refl
        (order_let frame.key.function k (nat_le frame.key.function k.function) refl (subst (λ (c : Call). order_refusal frame.key.function c ≡ None) same may)) none in
        passed_with (count_refusal limits.asks frame.answers asked) (Err error)
        (UnlessRefused (ask_refusal limits objects frame.key.function (asks.Call j)) (Err error)
        (AllowedTransition outer (asked + 1) frame (asks.Call j) objects goes_on (Err error))) (sym counted)
        (refused_with (ask_refusal limits objects frame.key.function (asks.Call j)) error
        (AllowedTransition outer (asked + 1) frame (asks.Call j) objects goes_on (Err error))
        (subst (λ (c : Call). Some error ≡ call_refusal objects frame.key.function c) (sym same) refusal))
    absent_by (asks.Done bytes) k goes_on needed none counted may transition = absurd (done_no_lookup bytes k frame.reach needed transition)

    pub asks_absent : (ask : Ask) (k : Call) (goes_on : Onward) → s.need ≡ Some (needs.Lookup k) → (IsSome (activity_of objects k.function) → ⊥)
        → AfterOneAsk limits outer asked frame ask objects (Ok s)
        → AskTransition limits outer asked frame ask objects goes_on (Err (errors.NoFunction k.function))
    asks_absent ask k goes_on needed none transition =
        absent_by ask k goes_on needed none (counted_of ask transition) (allowed_of ask transition).0 (allowed_of ask transition).1

    looks_up_by : (ask : Ask) (k : Call) → s.need ≡ Some (needs.Lookup k)
        → AllowedTransition outer (asked + 1) frame ask objects (stays_held outer asked frame (Ok s)) (Ok s)
        → (with_ask objects frame.key.function ask ≡ objects) × (s.frames ≡ frame ∷ outer)
    looks_up_by (asks.Query q) k needed transition =
        let no = needs_by (frame ∷ outer) (asked + 1) (needs.Query q) (needs.Lookup k) objects transition needed in absurd (cc)
    looks_up_by (asks.Call j) k needed transition =
        let e : s ≡ record { frames = frame ∷ outer; asked = asked + 1; need = Some (needs.Lookup j); objects = objects } = cc in
        (refl, ap (λ (st : Standing). st.frames) e)
    looks_up_by (asks.Done bytes) k needed transition = absurd (done_no_lookup bytes k frame.reach needed transition)

    -- a call leaves the objects and the frames
    pub looks_up : (ask : Ask) (k : Call) → s.need ≡ Some (needs.Lookup k) → AfterOneAsk limits outer asked frame ask objects (Ok s)
        → (with_ask objects frame.key.function ask ≡ objects) × (s.frames ≡ frame ∷ outer)
    looks_up ask k needed transition = looks_up_by ask k needed (allowed_of ask transition).1

    -- ---- no other function continues

    settled_done : (next : Next) (bytes : List ℕ) (fs : List Frame) (r : Option Interval) → (NeedsFunction s.need → ⊥)
        → DoneTransition fs (asked + 1) frame r bytes (with_activity objects frame.key.function idle) (stays_held fs asked frame (Ok s)) (Ok s)
        → DoneTransition fs (asked + 1) frame r bytes (with_activity objects frame.key.function idle) (outwards next fs asked frame (Ok s)) (Ok s)
    settled_done next bytes fs (Some r) stops transition = transition
    settled_done next bytes [] None stops transition = transition
    settled_done next bytes (x ∷ fs) None stops transition =
        let e : s ≡ record { frames = x ∷ fs; asked = asked + 1; need = Some (needs.Resume (value_held (unreached frame bytes))); objects = with_activity objects frame.key.function idle } = cc in
        absurd (stops (subst (λ (st : Standing). NeedsFunction st.need) (sym e) tt))

    settled_by : (next : Next) (ask : Ask) → ((k : Call) → s.need ≡ Some (needs.Lookup k) → IsSome (activity_of objects k.function)) → (NeedsFunction s.need → ⊥)
        → count_refusal limits.asks frame.answers asked ≡ None → form_refusal limits.value frame.key.function ask ≡ None
        → AllowedTransition outer (asked + 1) frame ask objects (stays_held outer asked frame (Ok s)) (Ok s)
        → AskTransition limits outer asked frame ask objects (outwards next outer asked frame (Ok s)) (Ok s)
    settled_by next (asks.Query q) there stops counted may transition =
        passed_with (count_refusal limits.asks frame.answers asked) (Ok s)
        (UnlessRefused None (Ok s) (AllowedTransition outer (asked + 1) frame (asks.Query q) objects (outwards next outer asked frame (Ok s)) (Ok s))) (sym counted) transition
    settled_by next (asks.Call k) there stops counted may transition =
        let e : s ≡ record { frames = frame ∷ outer; asked = asked + 1; need = Some (needs.Lookup k); objects = objects } = cc in
        let here : IsSome (activity_of objects k.function) = there k (ap (λ (st : Standing). st.need) e) in
        let let_call : None ≡ call_refusal objects frame.key.function k = sym (call_there objects frame.key.function k (nat_le frame.key.function k.function) refl here ∙ may) in
        passed_with (count_refusal limits.asks frame.answers asked) (Ok s)
        (UnlessRefused (call_refusal objects frame.key.function k) (Ok s) (AllowedTransition outer (asked + 1) frame (asks.Call k) objects (outwards next outer asked frame (Ok s)) (Ok s))) (sym counted)
        (passed_with (call_refusal objects frame.key.function k) (Ok s) (AllowedTransition outer (asked + 1) frame (asks.Call k) objects (outwards next outer asked frame (Ok s)) (Ok s)) let_call transition)
    settled_by next (asks.Done bytes) there stops counted may transition =
        passed_with (count_refusal limits.asks frame.answers asked) (Ok s)
        (UnlessRefused (value_refusal limits.value bytes) (Ok s) (AllowedTransition outer (asked + 1) frame (asks.Done bytes) objects (outwards next outer asked frame (Ok s)) (Ok s))) (sym counted)
        (passed_with (value_refusal limits.value bytes) (Ok s) (AllowedTransition outer (asked + 1) frame (asks.Done bytes) objects (outwards next outer asked frame (Ok s)) (Ok s)) (sym may)
        (settled_done next bytes outer frame.reach stops transition))

    pub asks_settled : (next : Next) (ask : Ask) → ((k : Call) → s.need ≡ Some (needs.Lookup k) → IsSome (activity_of objects k.function)) → (NeedsFunction s.need → ⊥)
        → AfterOneAsk limits outer asked frame ask objects (Ok s) → AskTransition limits outer asked frame ask objects (outwards next outer asked frame (Ok s)) (Ok s)
    asks_settled next ask there stops transition =
        settled_by next ask there stops (counted_of ask transition) (allowed_of ask transition).0 (allowed_of ask transition).1

    -- ---- the frame around continues

    -- the frame is done without a reach, and its value is held for the frames around it
    pub record IsHeld (ask : Ask) (x : HeldAnswer) : Type 0 where
      pub bytes : List ℕ
      pub is : ask ≡ asks.Done bytes
      pub counted : None ≡ count_refusal limits.asks frame.answers asked
      pub short : None ≡ value_refusal limits.value bytes
      pub no_reach : frame.reach ≡ None
      pub some : outer ≢ []
      pub held : x ≡ value_held (unreached frame bytes)
      pub stack : s.frames ≡ outer
      pub count : s.asked ≡ asked + 1

    held_value : (bytes : List ℕ) (fs : List Frame) (x : HeldAnswer) → value_need fs (unreached frame bytes) ≡ needs.Resume x
        → (fs ≢ []) × (x ≡ value_held (unreached frame bytes))
    held_value bytes [] x is = let no : needs.Value (unreached frame bytes) ≡ needs.Resume x = is in absurd (cc)
    held_value bytes (y ∷ fs) x is =
        let same : needs.Resume (value_held (unreached frame bytes)) ≡ needs.Resume x = is in
        let held : x ≡ value_held (unreached frame bytes) = cc in
        (λ none. let no : y ∷ fs ≡ [] = none in absurd (cc), held)

    handed_done : (bytes : List ℕ) (x : HeldAnswer) (r : Option Interval) → frame.reach ≡ r → s.need ≡ Some (needs.Resume x)
        → count_refusal limits.asks frame.answers asked ≡ None → value_refusal limits.value bytes ≡ None
        → DoneTransition outer (asked + 1) frame r bytes (with_activity objects frame.key.function idle) (stays_held outer asked frame (Ok s)) (Ok s)
        → IsHeld (asks.Done bytes) x
    handed_done bytes x (Some r) is needed counted short transition =
        let no = needs_by outer (asked + 1) (needs.Insert (entry_of_frame frame bytes r)) (needs.Resume x) (with_activity objects frame.key.function idle) transition needed in absurd (cc)
    handed_done bytes x None is needed counted short transition =
        let e : s ≡ record { frames = outer; asked = asked + 1; need = Some (value_need outer (unreached frame bytes)); objects = with_activity objects frame.key.function idle } = cc in
        let two = held_value bytes outer x (needs_by outer (asked + 1) (value_need outer (unreached frame bytes)) (needs.Resume x) (with_activity objects frame.key.function idle) transition needed) in
        record {
          bytes = bytes;
          is = refl;
          counted = sym counted;
          short = sym short;
          no_reach = is;
          some = two.0;
          held = two.1;
          stack = ap (λ (st : Standing). st.frames) e;
          count = ap (λ (st : Standing). st.asked) e;
        }

    handed_by : (ask : Ask) (x : HeldAnswer) → s.need ≡ Some (needs.Resume x) → count_refusal limits.asks frame.answers asked ≡ None → form_refusal limits.value frame.key.function ask ≡ None
        → AllowedTransition outer (asked + 1) frame ask objects (stays_held outer asked frame (Ok s)) (Ok s) → IsHeld ask x
    handed_by (asks.Query q) x needed counted may transition =
        let no = needs_by (frame ∷ outer) (asked + 1) (needs.Query q) (needs.Resume x) objects transition needed in absurd (cc)
    handed_by (asks.Call k) x needed counted may transition =
        let no = needs_by (frame ∷ outer) (asked + 1) (needs.Lookup k) (needs.Resume x) objects transition needed in absurd (cc)
    handed_by (asks.Done bytes) x needed counted may transition = handed_done bytes x frame.reach refl needed counted may transition

    pub held_for : (ask : Ask) (x : HeldAnswer) → s.need ≡ Some (needs.Resume x) → AfterOneAsk limits outer asked frame ask objects (Ok s) → IsHeld ask x
    held_for ask x needed transition = handed_by ask x needed (counted_of ask transition) (allowed_of ask transition).0 (allowed_of ask transition).1

    -- ---- no function begins at once

    hand_begins_none : (fs : List Frame) (o : Outcome) (k : Call) → value_need fs o ≡ needs.Begin k → ⊥
    hand_begins_none [] o k is = let no : needs.Value o ≡ needs.Begin k = is in absurd (cc)
    hand_begins_none (x ∷ fs) o k is = let no : needs.Resume (value_held o) ≡ needs.Begin k = is in absurd (cc)

    done_begins_none : (bytes : List ℕ) (k : Call) (r : Option Interval) → s.need ≡ Some (needs.Begin k)
        → DoneTransition outer (asked + 1) frame r bytes (with_activity objects frame.key.function idle) (stays_held outer asked frame (Ok s)) (Ok s) → ⊥
    done_begins_none bytes k (Some r) needed transition =
        let no = needs_by outer (asked + 1) (needs.Insert (entry_of_frame frame bytes r)) (needs.Begin k) (with_activity objects frame.key.function idle) transition needed in absurd (cc)
    done_begins_none bytes k None needed transition =
        hand_begins_none outer (unreached frame bytes) k (needs_by outer (asked + 1) (value_need outer (unreached frame bytes)) (needs.Begin k) (with_activity objects frame.key.function idle) transition needed)

    begins_none_by : (ask : Ask) (k : Call) → s.need ≡ Some (needs.Begin k)
        → AllowedTransition outer (asked + 1) frame ask objects (stays_held outer asked frame (Ok s)) (Ok s) → ⊥
    begins_none_by (asks.Query q) k needed transition =
        let no = needs_by (frame ∷ outer) (asked + 1) (needs.Query q) (needs.Begin k) objects transition needed in absurd (cc)
    begins_none_by (asks.Call j) k needed transition =
        let no = needs_by (frame ∷ outer) (asked + 1) (needs.Lookup j) (needs.Begin k) objects transition needed in absurd (cc)
    begins_none_by (asks.Done bytes) k needed transition = done_begins_none bytes k frame.reach needed transition

    pub begins_none : (ask : Ask) (k : Call) → s.need ≡ Some (needs.Begin k) → AfterOneAsk limits outer asked frame ask objects (Ok s) → ⊥
    begins_none ask k needed transition = begins_none_by ask k needed (allowed_of ask transition).1

-- the objects after what was asked, by a test
pub with_ask_by : (objects os : Objects) (f g : ℕ) (ask : Ask) (b : Bool) → g ≡ f → b ≡ is_done ask → os ≡ (if b then with_activity objects g idle else objects) → os ≡ with_ask objects f ask
with_ask_by objects os f g ask b is done after =
    subst (λ (n : ℕ). os ≡ with_ask objects n ask) is (subst (λ (d : Bool). os ≡ (if d then with_activity objects g idle else objects)) done after)

-- the effect of an ask by limits is that by equal ones
pub at_limits : (one two : Limits) (outer : List Frame) (asked : ℕ) (frame : Frame) (ask : Ask) (objects : Objects) (turn : Turn) → one ≡ two
    → AfterOneAsk one outer asked frame ask objects turn → AfterOneAsk two outer asked frame ask objects turn
at_limits one two outer asked frame ask objects turn same = subst (λ (l : Limits). AfterOneAsk l outer asked frame ask objects turn) same

-- an answer reaches the innermost frame, whose function asks this
pub ran_resume : (limits : Limits) (frames frames' : List Frame) (asked : ℕ) (x : HeldAnswer) (ask : Ask) (objects : Objects) (r : Result Need CallError) (stack : List Frame) (n : ℕ) → frames ≢ []
    → ((frame : Frame) (outer : List Frame) → frames ≡ frame ∷ outer → frames' ≡ given frame x.reach x.tags ∷ outer)
    → ((frame : Frame) (outer : List Frame) (os : Objects) → frames' ≡ frame ∷ outer → AfterOneAsk limits outer asked frame ask os (turn_of r stack n (with_ask os frame.key.function ask)))
    → AfterRan limits frames asked objects (needs.Resume x) ask (turn_of r stack n (objects_after objects frames (needs.Resume x) ask))
ran_resume limits [] frames' asked x ask objects r stack n some is transition = absurd (some refl)
ran_resume limits (frame ∷ outer) frames' asked x ask objects r stack n some is transition =
    inr (transition (given frame x.reach x.tags) outer (with_answer objects frame.key.function x.answer) (is frame outer refl))

-- the first of frames that each asked no more than they may
pub first_few : (most : ℕ) (fs : List Frame) → fs ≢ [] → AreFew most fs → (x : Frame) × (rest : List Frame) × (fs ≡ x ∷ rest) × (x.answers < most) × ReachesMeet x.reach None
first_few most [] some few = absurd (some refl)
first_few most (x ∷ xs) some few = (x, xs, refl, few.0, meets_none x.reach)

-- ---- replies

-- the effect of the need after a reply is the effect of the reply
pub replied_onward : (next : Next) (top : Call) (frames : List Frame) (asked : ℕ) (objects : Objects) (need : Need) (reply : Reply) (turn : Turn)
    → NeedFits next objects top (Some need) frames → ReplyFits need reply
    → AfterNeed next frames asked objects (need_after frames need reply) turn → AfterReply next frames asked objects need reply turn
replied_onward next top frames asked objects (needs.Lookup k) replies.Miss turn fits ok transition = transition
replied_onward next top [] asked objects (needs.Lookup k) (replies.Hit hit) turn fits ok transition = transition
replied_onward next top (frame ∷ outer) asked objects (needs.Lookup k) (replies.Hit hit) turn fits ok transition = transition
replied_onward next top [] asked objects (needs.Query q) (replies.Found found) turn fits ok transition = absurd (fits.1 refl)
replied_onward next top (frame ∷ outer) asked objects (needs.Query q) (replies.Found found) turn fits ok transition = transition
replied_onward next top [] asked objects (needs.Insert e) replies.Inserted turn fits ok transition = transition
replied_onward next top (frame ∷ outer) asked objects (needs.Insert e) replies.Inserted turn fits ok transition = transition
replied_onward next top frames asked objects need reply turn fits ok transition = absurd ok
