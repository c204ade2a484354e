-- What crates above may use of the proofs.
use Rattle.std.proofs.Common.{◌≡◌, ◌⊎◌, inl, inr, ℕ, ◌+◌, ◌<◌, ◌≤◌, nat_le, List, [], ◌∷◌, Option, None, Some, Ok, Err, refl, sym, subst, arith}
use Rattle.txc_stamp.specs.Interval.{Interval}
use Rattle.txc_tags.specs.Keys.{Call}
use Rattle.txc_app.specs.declared.ask.Ask.{Ask}
use Rattle.txc_app.specs.declared.ask.Ask.TheVariants as asks
use Rattle.txc_app.specs.Eval.{Next}
use Rattle.txc_call_registry.specs.Activity.{idle}
use Rattle.txc_call_registry.specs.Objects.{Objects, with_activity, AllIdle}
use Rattle.txc_call.specs.declared.frame.Frame.{Frame}
use Rattle.txc_call.specs.declared.frames.TheConstants.{MAX_CALL_ASKS}
use Rattle.txc_call.specs.declared.need.HeldAnswer.{HeldAnswer}
use Rattle.txc_call.specs.declared.need.Need.{Need}
use Rattle.txc_call.specs.declared.need.Need.TheVariants as needs
use Rattle.txc_call.specs.declared.need.Outcome.{Outcome}
use Rattle.txc_call.specs.declared.reply.Reply.{Reply}
use Rattle.txc_call.specs.declared.reply.Reply.TheVariants as replies
use Rattle.txc_call.specs.Frames.{begun_frame, given, released, IsStack}
use Rattle.txc_call.specs.Needs.{NeedFits, ReplyFits}
use Rattle.txc_call.specs.CallSteps.{value_need, stays_held, need_after, due_ask, with_resumed, AfterRan, AfterOneAsk, FunctionExists}
use Rattle.txc_call.specs.MachineTurn.{Standing, ask_refusal, count_refusal, value_refusal, outcome_of, outwards, rows_held, value_held, unreached, with_answer, with_begun, AfterAsk, AfterReply, AfterValue, AllowedTransition, AnswerTransition, DoneTransition}
use Rattle.txc_call.proofs.OneAsk.{one_allowed, one_counts, call_let, let_through}

-- once its value is taken, no call is open
pub finished : (next : Next) (objects : Objects) (top : Call) (o : Outcome) (frames : List Frame) → NeedFits next objects top (Some (needs.Value o)) frames
    → NeedFits next objects top None frames
finished next objects top o frames fits = (
  fits.1,
  subst (λ (fs : List Frame). AllIdle (released fs objects)) fits.1 fits.0.open_frames.free,
)

-- what a call is done with is all that is left of it
pub value_fits : (next : Next) (objects : Objects) (top : Call) (need : Option Need) (frames : List Frame) (o : Outcome) → need ≡ Some (needs.Value o) → NeedFits next objects top need frames
    → (frames ≡ []) × AllIdle objects × (o.key ≡ top)
value_fits next objects top need frames o is h =
    let done = subst (λ (n : Option Need). NeedFits next objects top n frames) is h in
    let at_bottom : asks.Call o.key ≡ asks.Call top = subst (λ (fs : List Frame). IsStack next objects top (asks.Call o.key) fs) done.1 done.0.open_frames.stack in
    (done.1, (finished next objects top o frames done).1, cc)

-- ---- an induction over what comes of a reply

-- a call that needs this
abbrev pub standing : List Frame → ℕ → Need → Objects → Standing
standing frames asked need objects = record { frames = frames; asked = asked; need = Some need; objects = objects }

-- each ask of a needed function leads from B to B again, and to A
abbrev pub EachAskKeeps : Next → (Standing → Type 0) → (Standing → Type 0) → Type 0
EachAskKeeps next B A = (frames : List Frame) (asked : ℕ) (os : Objects) (need : Need) (ask : Ask) (after : Standing)
    → due_ask next os frames need ≡ Some ask → FunctionExists (with_resumed os frames need) ask
    → AfterRan next.limits frames asked os need ask (Ok after) → B (standing frames asked need os) → B after × A after

-- A reply that is taken leads to B. Then functions ask until the call needs something else, or is done: that is A.
module _ (next : Next) (B A : Standing → Type 0) (ran : EachAskKeeps next B A)
    (done : (asked : ℕ) (o : Outcome) (os : Objects) → B (standing [] asked (needs.Value o) os) → A (standing [] asked (needs.Value o) os)) (s : Standing) where
  module _ (outer : List Frame) (asked : ℕ) (frame : Frame) (os : Objects)
      (on : (o : Outcome) (os : Objects) → B (standing outer (asked + 1) (value_need outer o) os) → AfterValue next outer (asked + 1) o os (Ok s) → A s) where
    abbrev OneKeeps : Ask → Type 0
    OneKeeps ask = (after : Standing) → FunctionExists os ask → AfterOneAsk next.limits outer asked frame ask os (Ok after) → B after × A after

    module _ (counted : None ≡ count_refusal next.limits.asks frame.answers asked) where
      done_keeps : (bytes : List ℕ) (r : Option Interval) → frame.reach ≡ r → None ≡ value_refusal next.limits.value bytes → OneKeeps (asks.Done bytes)
          → DoneTransition outer (asked + 1) frame r bytes (with_activity os frame.key.function idle) (outwards next outer asked frame (Ok s)) (Ok s) → A s
      done_keeps bytes (Some r) is short one transition =
          (one s tt (one_allowed next.limits outer asked frame os (asks.Done bytes) (Ok s) counted short
          (subst (λ (reach : Option Interval). DoneTransition outer (asked + 1) frame reach bytes (with_activity os frame.key.function idle) (stays_held outer asked frame (Ok s)) (Ok s)) (sym is) transition))).1
      done_keeps bytes None is short one transition =
          let held : Standing = standing outer (asked + 1) (value_need outer (unreached frame bytes)) (with_activity os frame.key.function idle) in
          on (unreached frame bytes) (with_activity os frame.key.function idle)
          (one held tt (one_allowed next.limits outer asked frame os (asks.Done bytes) (Ok held) counted short
          (subst (λ (reach : Option Interval). DoneTransition outer (asked + 1) frame reach bytes (with_activity os frame.key.function idle) (stays_held outer asked frame (Ok held)) (Ok held)) (sym is) refl))).0
          transition

      allowed_keeps : (ask : Ask) → None ≡ ask_refusal next.limits os frame.key.function ask → OneKeeps ask
          → AllowedTransition outer (asked + 1) frame ask os (outwards next outer asked frame (Ok s)) (Ok s) → A s
      allowed_keeps (asks.Query q) may one transition = (one s tt (one_allowed next.limits outer asked frame os (asks.Query q) (Ok s) counted refl transition)).1
      allowed_keeps (asks.Call k) may one transition =
          let both = call_let os frame.key.function k (nat_le frame.key.function k.function) refl (sym may) in
          (one s both.1 (one_allowed next.limits outer asked frame os (asks.Call k) (Ok s) counted both.0 transition)).1
      allowed_keeps (asks.Done bytes) may one transition = done_keeps bytes frame.reach refl may one transition

    ask_keeps : (ask : Ask) → OneKeeps ask → AfterAsk next outer asked frame ask os (Ok s) → A s
    ask_keeps ask one transition =
        let through = let_through next.limits outer asked frame os s ask (outwards next outer asked frame (Ok s)) transition in
        allowed_keeps through.0 ask through.1 one through.2

  answer_keeps : (outer : List Frame) (asked : ℕ) (frame : Frame) (x : HeldAnswer) (os : Objects)
      → ((o : Outcome) (os : Objects) → B (standing outer (asked + 1) (value_need outer o) os) → AfterValue next outer (asked + 1) o os (Ok s) → A s)
      → B (standing (frame ∷ outer) asked (needs.Resume x) os)
      → AnswerTransition next outer asked frame x os (outwards next outer asked (given frame x.reach x.tags) (Ok s)) (Ok s) → A s
  answer_keeps outer asked frame x os on held transition = elim transition [
    | inl failed ↦ let never : Ok s ≡ Err failed.0 = failed.1 in absurd (cc)
    | inr next_one ↦
        ask_keeps outer asked (given frame x.reach x.tags) (with_answer os frame.key.function x.answer) on next_one.0
        (λ after there one. ran (frame ∷ outer) asked os (needs.Resume x) next_one.0 after next_one.1 there (inr one) held) next_one.2
  ]

  value_keeps : (frames : List Frame) (asked : ℕ) (o : Outcome) (os : Objects) → B (standing frames asked (value_need frames o) os) → AfterValue next frames asked o os (Ok s) → A s
  value_keeps [] asked o os held transition = let e : s ≡ standing [] asked (needs.Value o) os = cc in subst A (sym e) (done asked o os held)
  value_keeps (frame ∷ outer) asked o os held transition = answer_keeps outer asked frame (value_held o) os (value_keeps outer (asked + 1)) held transition

  pub reply_keeps : (frames : List Frame) (asked : ℕ) (os : Objects) (need : Need) (reply : Reply)
      → (ReplyFits need reply → B (standing frames asked (need_after frames need reply) os)) → AfterReply next frames asked os need reply (Ok s) → A s
  reply_keeps frames asked os (needs.Lookup k) replies.Miss taken transition = elim transition [
    | inl failed ↦ let never : Ok s ≡ Err failed.0 = failed.1 in absurd (cc)
    | inr first ↦
        ask_keeps frames asked (begun_frame k) (with_begun os k) (value_keeps frames (asked + 1)) first.0
        (λ after there one. ran frames asked os (needs.Begin k) first.0 after first.1 there (inr one) (taken tt)) first.2
  ]
  reply_keeps frames asked os (needs.Lookup k) (replies.Hit hit) taken transition = value_keeps frames asked (outcome_of k hit.value hit.reach hit.tags) os (taken tt) transition
  reply_keeps [] asked os (needs.Query q) (replies.Found found) taken transition = absurd transition
  reply_keeps (frame ∷ outer) asked os (needs.Query q) (replies.Found found) taken transition =
      answer_keeps outer asked frame (rows_held found) os (value_keeps outer (asked + 1)) (taken tt) transition
  reply_keeps frames asked os (needs.Insert e) replies.Inserted taken transition = value_keeps frames asked (outcome_of e.key e.value e.reach e.tags) os (taken tt) transition
  reply_keeps frames asked os need reply taken transition = absurd transition

-- ---- how often a call asked

-- the call is done, or asked more often than so, and no more than it may
abbrev pub Counts : ℕ → Standing → Type 0
Counts asked s = ((o : Outcome) × (s.need ≡ Some (needs.Value o))) ⊎ ((asked < s.asked) × (s.asked ≤ MAX_CALL_ASKS))

ran_counts : (next : Next) (before : ℕ) → EachAskKeeps next (λ (s : Standing). before ≤ s.asked) (Counts before)
ran_counts next before frames asked os (needs.Begin k) ask after due there transition so_far = elim transition [
  | inl failed ↦ let never : Ok after ≡ Err failed.0 = failed.1 in absurd (cc)
  | inr one ↦ let once = one_counts next.limits frames asked (begun_frame k) (with_begun os k) after ask one in (omega (arith, once.0), inr (omega (arith, once.0), omega (arith, once.0, once.1)))
]
ran_counts next before (frame ∷ outer) asked os (needs.Resume x) ask after due there transition so_far = elim transition [
  | inl failed ↦ let never : Ok after ≡ Err failed.0 = failed.1 in absurd (cc)
  | inr one ↦
      let once = one_counts next.limits outer asked (given frame x.reach x.tags) (with_answer os frame.key.function x.answer) after ask one in
      (omega (arith, once.0), inr (omega (arith, once.0), omega (arith, once.0, once.1)))
]
ran_counts next before frames asked os need ask after due there transition so_far = absurd transition

-- a reply leads a call to its end, or makes it ask more often
pub reply_counts : (next : Next) (s : Standing) (frames : List Frame) (asked : ℕ) (os : Objects) (need : Need) (reply : Reply)
    → AfterReply next frames asked os need reply (Ok s) → Counts asked s
reply_counts next s frames asked os need reply transition =
    reply_keeps next (λ (st : Standing). asked ≤ st.asked) (Counts asked) (ran_counts next asked) (λ n o objects so_far. inl (o, refl)) s frames asked os need reply
    (λ ok. omega arith) transition
