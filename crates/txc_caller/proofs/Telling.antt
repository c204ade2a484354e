-- Which functions are computed after an ask, and what they are told.
use Rattle.std.proofs.Common.{◌≡◌, ◌≢◌, ◌∙◌, ◌⊎◌, ◌<◌, ◌≤◌, ℕ, ◌+◌, Bool, true, false, All, List, [], ◌∷◌, map, Option, Some, None, Ok, Err, inl, inr, refl, ap, sym, subst, arith}
use Rattle.std.specs.Prelude.{unwrap_or, IsSome, Result}
use Rattle.std.specs.Option.{ForSome}
use Rattle.std.proofs.lemmas.List.Elements.{All-map}
use Rattle.txc_stamp.specs.Interval.{Interval}
use Rattle.txc_tags.specs.Keys.{Call}
use Rattle.txc_rows.specs.States.{State}
use Rattle.txc_rows.specs.declared.query.Query.{Query}
use Rattle.txc_db.specs.History.{History, state_at}
use Rattle.txc_cushion.specs.declared.pin.Pin.{Pin}
use Rattle.txc_app.specs.AnswersSoFar.{IsRight}
use Rattle.txc_app.specs.declared.app.Limits.{Limits}
use Rattle.txc_app.specs.Eval.{Next}
use Rattle.txc_app.specs.declared.ask.Answer.{Answer}
use Rattle.txc_app.specs.declared.ask.Answer.TheVariants as answers
use Rattle.txc_app.specs.declared.ask.Ask.{Ask}
use Rattle.txc_app.specs.declared.ask.Ask.TheVariants as asks
use Rattle.txc_node.specs.declared.entry.Entry.{Entry}
use Rattle.txc_call_registry.specs.Activity.{Activity, activation_in, answered, begun, idle, running}
use Rattle.txc_call_registry.specs.Objects.{activation_of, activity_of, with_activity, Objects}
use Rattle.txc_call_registry.proofs.Offered.{elsewhere}
use Rattle.txc_call.specs.CallMachine.{started, Calling}
use Rattle.txc_call.specs.declared.error.CallError.{CallError}
use Rattle.txc_call.specs.declared.frame.Frame.{Frame}
use Rattle.txc_call.specs.declared.need.HeldAnswer.{HeldAnswer}
use Rattle.txc_call.specs.declared.need.Need.{Need}
use Rattle.txc_call.specs.declared.need.Need.TheVariants as needs
use Rattle.txc_call.specs.declared.need.Outcome.{Outcome}
use Rattle.txc_call.specs.Frames.{answers_in, begun_frame, given, FramesAscendFrom, IsStack}
use Rattle.txc_call.specs.Needs.{NeedFits}
use Rattle.txc_call.specs.CallSteps.{form_refusal, is_done, objects_after, stays_held, value_need, AfterOneAsk, AfterRan, NeedsFunction}
use Rattle.txc_call.specs.MachineTurn.{Standing, Turn, AllowedTransition, DoneTransition, IsOutOfMemory, UnlessMemory, UnlessRefused, count_refusal, entry_of_frame, needing, unreached, value_held, with_answer, with_begun}
use Rattle.txc_txn_ports.specs.declared.turn.Turn.TheVariants.{Ask as Asks, Ended}
use Rattle.txc_txn_ports.specs.Turns.{PortTurn, IsAsk}
use Rattle.txc_call_ghosts.specs.Steps.{objects_after_ask, objects_after_need}
use Rattle.txc_txn.specs.declared.pinning.Pinning.{Pinning}
use Rattle.txc_txn.specs.declared.pinning.PinStep.TheVariants.{Asked}
use Rattle.txc_txn.specs.ByHand.{HandTransition, HandTurn, HasAskedByHand, IsUnended, ObjectsLeft}
use Rattle.txc_txn.specs.TxnCore.{first_call, CoreHolds, CoreValue, IsCore, IsIdle, PinningFits, WaitsForPin}
use Rattle.txc_txn.specs.RunningTxn.{HasBegunCall, IsTxn, TxnValue}
use Rattle.txc_txn.proofs.Held.{held_is_right}
use Rattle.txc_caller.specs.CallerTxn.{open_states}
use Rattle.txc_caller.specs.ActRequests.{FunctionAfter, IsHeldFor, ObjectsAfter, WaitsForCall}
use Rattle.txc_caller.specs.ComputedFunctions.{calls_of, computed_calls, computed_in, told_answer, told_in, ContinuesWith, HasBegunFunction, IsToldRight, IsToldAfterAsk, ObjectsFollow}
use Rattle.txc_caller.specs.declared.step.CallerError.{CallerError}
use Rattle.txc_caller.specs.declared.step.Step.{Step}
use Rattle.txc_caller.specs.declared.step.Step.TheVariants.{Answered, Compute, Value}
use Rattle.txc_caller.proofs.Lent.{some_need}

-- ---- what is needed after an ask

-- the value that the function of this call gave is to be kept at the node, or goes out to the frames around
abbrev pub IsValueNeed : Call → List Frame → List ℕ → Need → Type 0
IsValueNeed done outer bytes (needs.Insert e) = (e.key ≡ done) × (e.value ≡ bytes)
IsValueNeed done outer bytes need = (o : Outcome) × (o.key ≡ done) × (o.value ≡ bytes) × (need ≡ value_need outer o)

-- what is needed after an ask, with these frames: the calls that were computed are those of the frames, but for one that is done
abbrev pub NeedsNext : List Call → Ask → List Frame → Need → Type 0
NeedsNext computed (asks.Query q) frames need = (calls_of frames ≡ computed) × (need ≡ needs.Query q)
NeedsNext computed (asks.Call k) frames need = (calls_of frames ≡ computed) × (need ≡ needs.Lookup k)
NeedsNext computed (asks.Done bytes) frames need =
    (done : Call) × (computed ≡ done ∷ calls_of frames) × IsValueNeed done frames bytes need

-- .. if it was not refused
abbrev pub StandsNext : List Call → Ask → Turn → Type 0
StandsNext computed ask (Err error) = Unit {0}
StandsNext computed ask (Ok s) = (need : Need) × (s.need ≡ Some need) × NeedsNext computed ask s.frames need

module _ (computed : List Call) (ask : Ask) where
  refused : (turn : Turn) (error : CallError) → turn ≡ Err error → StandsNext computed ask turn
  refused turn error is = subst (StandsNext computed ask) (sym is) tt

  unless : (refusal : Option CallError) (turn : Turn) (rest : Type 0) → UnlessRefused refusal turn rest → (rest → StandsNext computed ask turn)
      → StandsNext computed ask turn
  unless None turn rest h go = go h
  unless (Some error) turn rest h go = refused turn error h

  in_memory : (turn : Turn) (rest : Type 0) → UnlessMemory turn rest → (rest → StandsNext computed ask turn) → StandsNext computed ask turn
  in_memory turn rest (inl out) go = refused turn out.0 out.1
  in_memory turn rest (inr h) go = go h

  needs_next : (frames : List Frame) (asked : ℕ) (need : Need) (after : Objects) (turn : Turn) → turn ≡ needing frames asked need after
      → NeedsNext computed ask frames need → StandsNext computed ask turn
  needs_next frames asked need after turn is h = subst (StandsNext computed ask) (sym is) (need, refl, h)

goes_out : (done : Call) (outer : List Frame) (o : Outcome) (bytes : List ℕ) → o.key ≡ done → o.value ≡ bytes → IsValueNeed done outer bytes (value_need outer o)
goes_out done [] o bytes key value = (o, key, value, refl)
goes_out done (frame ∷ outer) o bytes key value = (o, key, value, refl)

module _ (outer : List Frame) (asked : ℕ) (frame : Frame) (turn : Turn) where
  done_next : (reach : Option Interval) (bytes : List ℕ) (objects : Objects) → DoneTransition outer asked frame reach bytes objects (λ after value. turn ≡ needing outer asked (value_need outer (unreached frame value)) after) turn
      → StandsNext (frame.key ∷ calls_of outer) (asks.Done bytes) turn
  done_next (Some reach) bytes objects is =
      needs_next (frame.key ∷ calls_of outer) (asks.Done bytes) outer asked (needs.Insert (entry_of_frame frame bytes reach)) objects turn is (frame.key, refl, (refl, refl))
  done_next None bytes objects is =
      needs_next (frame.key ∷ calls_of outer) (asks.Done bytes) outer asked (value_need outer (unreached frame bytes)) objects turn is
      (frame.key, refl, goes_out frame.key outer (unreached frame bytes) bytes refl refl)

allowed_next : (outer : List Frame) (asked : ℕ) (frame : Frame) (ask : Ask) (objects : Objects) (turn : Turn)
    → AllowedTransition outer (asked + 1) frame ask objects (stays_held outer asked frame turn) turn → StandsNext (frame.key ∷ calls_of outer) ask turn
allowed_next outer asked frame (asks.Query q) objects turn is =
    needs_next (frame.key ∷ calls_of outer) (asks.Query q) (frame ∷ outer) (asked + 1) (needs.Query q) objects turn is (refl, refl)
allowed_next outer asked frame (asks.Call k) objects turn is =
    needs_next (frame.key ∷ calls_of outer) (asks.Call k) (frame ∷ outer) (asked + 1) (needs.Lookup k) objects turn is (refl, refl)
allowed_next outer asked frame (asks.Done bytes) objects turn is =
    done_next outer (asked + 1) frame turn frame.reach bytes (with_activity objects frame.key.function idle) is

one_next : (limits : Limits) (outer : List Frame) (asked : ℕ) (frame : Frame) (ask : Ask) (objects : Objects) (turn : Turn) → AfterOneAsk limits outer asked frame ask objects turn
    → StandsNext (frame.key ∷ calls_of outer) ask turn
one_next limits outer asked frame ask objects turn h =
    unless (frame.key ∷ calls_of outer) ask (count_refusal limits.asks frame.answers asked) turn _ h
    (λ counted. unless (frame.key ∷ calls_of outer) ask (form_refusal limits.value frame.key.function ask) turn _ counted (allowed_next outer asked frame ask objects turn))

pub ran_next : (limits : Limits) (frames : List Frame) (asked : ℕ) (objects : Objects) (need : Need) (ask : Ask) (turn : Turn) → AfterRan limits frames asked objects need ask turn
    → StandsNext (computed_in frames (Some need)) ask turn
ran_next limits frames asked objects (needs.Begin k) ask turn h =
    in_memory (k ∷ calls_of frames) ask turn _ h (one_next limits frames asked (begun_frame k) ask (with_begun objects k) turn)
ran_next limits (frame ∷ outer) asked objects (needs.Resume x) ask turn h =
    in_memory (frame.key ∷ calls_of outer) ask turn _ h
    (one_next limits outer asked (given frame x.reach x.tags) ask (with_answer objects frame.key.function x.answer) turn)
ran_next limits frames asked objects need ask turn h = absurd h

-- .. and in the core that goes on
pub hand_next : (computed : List Call) (ask : Ask) (stands : Turn) (new : CoreValue) (turn : HandTurn) → StandsNext computed ask stands → HandTransition stands new turn
    → IsUnended turn → (need : Need) × (new.call.need ≡ Some need) × NeedsNext computed ask new.call.frames need
hand_next computed ask (Err error) new turn next transition on = absurd (subst IsUnended transition on)
hand_next computed ask (Ok s) new None next transition on =
    (next.0, transition.2 ∙ next.1, subst (λ (fs : List Frame). NeedsNext computed ask fs next.0) (sym transition.0) next.2)
hand_next computed ask (Ok s) new (Some (Asks request)) next transition on =
    (next.0, transition.1.2 ∙ next.1, subst (λ (fs : List Frame). NeedsNext computed ask fs next.0) (sym transition.1.0) next.2)
hand_next computed ask (Ok s) new (Some (Ended outcome)) next transition on = absurd on

-- a value neither begins a function nor is looked up
no_value_begin : (frames : List Frame) (o : Outcome) (k : Call) → needs.Begin k ≡ value_need frames o → ⊥
no_value_begin [] o k is = cc is
no_value_begin (frame ∷ frames) o k is = cc is

pub no_value_lookup : (frames : List Frame) (o : Outcome) (k : Call) → needs.Lookup k ≡ value_need frames o → ⊥
no_value_lookup [] o k is = cc is
no_value_lookup (frame ∷ frames) o k is = cc is

no_begin_next : (computed : List Call) (ask : Ask) (frames : List Frame) (k : Call) → NeedsNext computed ask frames (needs.Begin k) → ⊥
no_begin_next computed (asks.Query q) frames k h = cc (h.1)
no_begin_next computed (asks.Call j) frames k h = cc (h.1)
no_begin_next computed (asks.Done bytes) frames k h = no_value_begin frames h.2.0 k h.2.3

-- ---- what the innermost function asks

-- the innermost function of these asks this by the answers of its object, if there is one
abbrev pub InnermostAsks : Next → Objects → List Call → Ask → Type 0
InnermostAsks next objects calls ask = (k : Call) (around : List Call) → calls ≡ k ∷ around → next.says k.function k.args (answers_in objects k.function) ≡ Some ask

module _ (next : Next) (objects : Objects) (top : Call) (ask : Ask) where
  stack_asks : (frames : List Frame) → IsStack next objects top ask frames → InnermostAsks next objects (calls_of frames) ask
  stack_asks [] stack = λ k around is. absurd (cc is)
  stack_asks (frame ∷ frames) stack = λ k around is.
      let same : frame.key ≡ k = cc is in
      subst (λ (j : Call). next.says j.function j.args (answers_in objects j.function) ≡ Some ask) same stack.0.asks

-- another object does what it did
answers_else : (objects : Objects) (f g : ℕ) (a : Activity) → g ≢ f → answers_in (with_activity objects f a) g ≡ answers_in objects g
answers_else objects f g a apart = ap (λ (o : Option Activity). (activation_in (unwrap_or o idle)).answers) (elsewhere f g a apart objects)

-- the function around one that is done asks the call of that still
around_asks : (next : Next) (objects : Objects) (k : Call) (a b : Activity) (frames : List Frame) → FramesAscendFrom k.function frames
    → InnermostAsks next objects (calls_of frames) (asks.Call k)
    → InnermostAsks next (with_activity (with_activity objects k.function a) k.function b) (calls_of frames) (asks.Call k)
around_asks next objects k a b [] rising h = λ j around is. absurd (cc is)
around_asks next objects k a b (frame ∷ frames) rising h = λ j around is.
    let same : frame.key ≡ j = cc is in
    let apart : j.function ≢ k.function = subst (λ (i : Call). i.function ≢ k.function) same (λ e. absurd (omega (arith, rising.0, e))) in
    ap (λ (xs : List Answer). next.says j.function j.args xs)
    (answers_else (with_activity objects k.function a) k.function j.function b apart ∙ answers_else objects k.function j.function a apart)
    ∙ h j around is

module _ (next : Next) (objects : Objects) (top : Call) (bytes : List ℕ) where
  done_as : (frames : List Frame) (k : Call) (a : Activity) → FramesAscendFrom k.function frames → IsStack next objects top (asks.Call k) frames
      → (done : Call) (around : List Call) → k ∷ calls_of frames ≡ done ∷ around
      → InnermostAsks next (with_activity (with_activity objects k.function a) k.function idle) around (asks.Call done)
  done_as frames k a rising stack done around is =
      let one : k ≡ done = cc is in
      let other : calls_of frames ≡ around = cc is in
      let os = with_activity (with_activity objects k.function a) k.function idle in
      subst (λ (d : Call). InnermostAsks next os around (asks.Call d)) one
      (subst (λ (ks : List Call). InnermostAsks next os ks (asks.Call k)) other (around_asks next objects k a idle frames rising (stack_asks next objects top (asks.Call k) frames stack)))

  -- once a function is done, the one around it is that which asked the call of that
  pub done_around : (frames : List Frame) (need : Need) → NeedFits next objects top (Some need) frames → NeedsFunction (Some need)
      → (done : Call) (around : List Call) → computed_in frames (Some need) ≡ done ∷ around
      → InnermostAsks next (objects_after objects frames need (asks.Done bytes)) around (asks.Call done)
  done_around frames (needs.Begin k) fits runs done around is =
      done_as frames k (running (begun k.args)) fits.1 fits.0.open_frames.stack done around is
  done_around [] (needs.Resume x) fits runs done around is = absurd (fits.1 refl)
  done_around (frame ∷ frames) (needs.Resume x) fits runs done around is =
      done_as frames frame.key (running (answered (activation_of objects frame.key.function) x.answer)) fits.0.1.open_frames.rising fits.0.1.open_frames.stack.1 done around is
  done_around frames need fits runs done around is = absurd runs

-- what waits for an answer asked that
pub asked_by : (next : Next) (objects : Objects) (top : Call) (frames : List Frame) (need : Option Need) → NeedFits next objects top need frames
    → ((q : Query) → need ≡ Some (needs.Query q) → InnermostAsks next objects (calls_of frames) (asks.Query q))
    × ((k : Call) → need ≡ Some (needs.Lookup k) → InnermostAsks next objects (calls_of frames) (asks.Call k))
    × ((e : Entry) → need ≡ Some (needs.Insert e) → InnermostAsks next objects (calls_of frames) (asks.Call e.key))
asked_by next objects top frames need fits = (
  λ q is. stack_asks next objects top (asks.Query q) frames (subst (λ (n : Option Need). NeedFits next objects top n frames) is fits).0.open_frames.stack,
  λ k is. stack_asks next objects top (asks.Call k) frames (subst (λ (n : Option Need). NeedFits next objects top n frames) is fits).0.open_frames.stack,
  λ e is. stack_asks next objects top (asks.Call e.key) frames (subst (λ (n : Option Need). NeedFits next objects top n frames) is fits).0.open_frames.stack,
)

-- ---- what it is told

module _ (next : Next) (objects : Objects) (L : History) (c : CoreValue) (ask : Ask) (x : HeldAnswer) (holds : CoreHolds next L objects c) (need : c.call.need ≡ Some (needs.Resume x))
    (asked : InnermostAsks next objects (calls_of c.call.frames) ask) where
  -- the answer is right at every member
  told_right : (frames : List Frame) → c.call.frames ≡ frames → frames ≢ [] → IsToldRight next (map (λ (m : Pin). state_at L m.stamp) c.pins.members) c.call ask x.answer
  told_right [] at some = absurd (some refl)
  told_right (frame ∷ outer) at some = record {
    function = frame.key;
    around = calls_of outer;
    is = ap (λ (n : Option Need). computed_in c.call.frames n) need ∙ ap calls_of at;
    right = All-map (λ (s : State). IsRight next frame.key.function s (Some ask) x.answer) (λ (m : Pin). state_at L m.stamp) c.pins.members
        (subst (λ (o : Option Ask). All (λ (p : Pin). IsRight next frame.key.function (state_at L p.stamp) o x.answer) c.pins.members)
        (asked frame.key (calls_of outer) (ap calls_of at)) (held_is_right next objects L c x frame outer holds need at));
  }

-- what stands after an ask, with the function that is to go on
module _ (next : Next) (computed : List Call) (mid new : CoreValue) (objects : Objects) (turn : HandTurn) (fits_mid : IsCore next objects mid) (fits : IsCore next objects new)
    (holds : CoreHolds next new.seen.history objects new) where
  lookup_of : (need : Need) (k : Call) → mid.call.need ≡ Some need → WaitsForCall mid k → need ≡ needs.Lookup k
  lookup_of need k is (inl at) = let one : Some need ≡ Some (needs.Lookup k) = sym is ∙ at in cc one
  lookup_of need k is (inr first) = absurd (go mid.pinning refl first)
    where
      go : (p : Option Pinning) → mid.pinning ≡ p → first_call p ≡ Some k → ⊥
      go None at called = cc called
      go (Some p) at called =
          let waits = (subst (λ (o : Option Pinning). PinningFits o mid.pins mid.call.need) at fits_mid.pinning).1 in
          let none = (subst (λ (o : Option Call). WaitsForPin o mid.call.need mid.pins.members) called waits).0 in
          let no : None ≡ Some need = sym none ∙ is in cc no

  begun_so : (ask : Ask) (need : Need) → mid.call.need ≡ Some need → NeedsNext computed ask mid.call.frames need → (k : Call) → WaitsForCall mid k
      → new.call.need ≡ Some (needs.Begin k) → new.call.frames ≡ mid.call.frames → (old : Calling) → computed_calls old ≡ computed → HasBegunFunction old ask new.call
  begun_so (asks.Query q) need is h k waits begins frames old same =
      let no : needs.Query q ≡ needs.Lookup k = sym h.1 ∙ lookup_of need k is waits in absurd (cc no)
  begun_so (asks.Call j) need is h k waits begins frames old same =
      let one : needs.Lookup j ≡ needs.Lookup k = sym h.1 ∙ lookup_of need k is waits in
      let called : k ≡ j = cc one in (
        ap (λ (n : Option Need). computed_in new.call.frames n) begins ∙ ap (λ (fs : List Frame). k ∷ calls_of fs) frames
            ∙ ap (λ (ks : List Call). k ∷ ks) (h.0 ∙ sym same) ∙ ap (λ (i : Call). i ∷ computed_calls old) called,
        ap told_in begins,
      )
  begun_so (asks.Done bytes) need is h k waits begins frames old same = absurd (value_not need (lookup_of need k is waits) h.2)
    where
      value_not : (n : Need) → n ≡ needs.Lookup k → IsValueNeed h.0 mid.call.frames bytes n → ⊥
      value_not (needs.Insert e) at v = cc at
      value_not (needs.Lookup j) at v = no_value_lookup mid.call.frames v.0 j v.3
      value_not (needs.Query q) at v = cc at
      value_not (needs.Value o) at v = cc at
      value_not (needs.Begin j) at v = cc at
      value_not (needs.Resume x) at v = cc at

  module _ (x : HeldAnswer) (resumes : new.call.need ≡ Some (needs.Resume x)) (frames : new.call.frames ≡ mid.call.frames) where
    right_by : (ask : Ask) → InnermostAsks next objects (calls_of mid.call.frames) ask → IsToldRight next (open_states new) new.call ask x.answer
    right_by ask asked =
        told_right next objects new.seen.history new ask x holds resumes
        (subst (λ (fs : List Frame). InnermostAsks next objects (calls_of fs) ask) (sym frames) asked) new.call.frames refl
        (subst (λ (n : Option Need). NeedFits next objects new.call.top n new.call.frames) resumes fits.call).1

    computed_new : computed_calls new.call ≡ calls_of mid.call.frames
    computed_new = ap (λ (n : Option Need). computed_in new.call.frames n) resumes ∙ ap calls_of frames

    continues_so : (ask : Ask) (need : Need) → mid.call.need ≡ Some need → NeedsNext computed ask mid.call.frames need → IsHeldFor mid.call.need x
        → ((bytes : List ℕ) (done : Call) (around : List Call) → ask ≡ asks.Done bytes → computed ≡ done ∷ around → InnermostAsks next objects around (asks.Call done))
        → (old : Calling) → computed_calls old ≡ computed → ContinuesWith next (open_states new) old ask new.call x.answer
    continues_so (asks.Query q) need is h held around old same =
        (computed_new ∙ h.0 ∙ sym same, right_by (asks.Query q) ((asked_by next objects mid.call.top mid.call.frames mid.call.need fits_mid.call).0 q (is ∙ ap Some h.1)))
    continues_so (asks.Call k) need is h held around old same =
        (computed_new ∙ h.0 ∙ sym same, right_by (asks.Call k) ((asked_by next objects mid.call.top mid.call.frames mid.call.need fits_mid.call).1 k (is ∙ ap Some h.1)))
    continues_so (asks.Done bytes) need is h held around old same = (
      h.0,
      same ∙ h.1 ∙ ap (λ (ks : List Call). h.0 ∷ ks) (sym computed_new),
      value_of_need need h.2 (subst (λ (n : Option Need). IsHeldFor n x) is held),
      right_by (asks.Call h.0) (around bytes h.0 (calls_of mid.call.frames) refl h.1),
    )
      where
        some : mid.call.frames ≢ []
        some = λ no. (subst (λ (n : Option Need). NeedFits next objects new.call.top n new.call.frames) resumes fits.call).1 (frames ∙ no)

        out : (fs : List Frame) → fs ≢ [] → (o : Outcome) → o.value ≡ bytes → (n : Need) → n ≡ value_need fs o → IsHeldFor (Some n) x → x.answer ≡ answers.Value bytes
        out [] there o value n at held = absurd (there refl)
        out (f ∷ fs) there o value n at held =
            let same : x ≡ value_held o = subst (λ (m : Need). IsHeldFor (Some m) x) at held in
            ap (λ (y : HeldAnswer). y.answer) same ∙ ap answers.Value value

        value_of_need : (n : Need) → IsValueNeed h.0 mid.call.frames bytes n → IsHeldFor (Some n) x → x.answer ≡ answers.Value bytes
        value_of_need (needs.Insert e) v held = held ∙ ap answers.Value v.1
        value_of_need (needs.Lookup k) v held = out mid.call.frames some v.0 v.2 (needs.Lookup k) v.3 held
        value_of_need (needs.Query q) v held = out mid.call.frames some v.0 v.2 (needs.Query q) v.3 held
        value_of_need (needs.Value o) v held = out mid.call.frames some v.0 v.2 (needs.Value o) v.3 held
        value_of_need (needs.Begin k) v held = out mid.call.frames some v.0 v.2 (needs.Begin k) v.3 held
        value_of_need (needs.Resume y) v held = out mid.call.frames some v.0 v.2 (needs.Resume y) v.3 held

-- ---- what an act tells

module _ (next : Next) (old mid : TxnValue) (ask : Ask) (turn : HandTurn) (asked : HasAskedByHand next.limits old.core ask mid.core turn) (runs : NeedsFunction old.core.call.need) where
  pub stands_next : IsUnended turn → (need : Need) × (mid.core.call.need ≡ Some need) × NeedsNext (computed_calls old.core.call) ask mid.core.call.frames need
  stands_next on =
      let n = some_need old.core.call.need runs in
      let transition = asked.transition n.0 n.1 [] in
      hand_next (computed_calls old.core.call) ask transition.0 mid.core turn
      (subst (λ (o : Option Need). StandsNext (computed_in old.core.call.frames o) ask transition.0) (sym n.1)
      (ran_next next.limits old.core.call.frames old.core.call.asked [] n.0 ask transition.0 transition.1)) transition.2 on

  -- no function begins without a request
  pub no_begun : (k : Call) → turn ≡ None → mid.core.call.need ≢ Some (needs.Begin k)
  no_begun k none is =
      let n = stands_next (subst IsUnended (sym none) tt) in
      let one : Some n.0 ≡ Some (needs.Begin k) = sym n.1 ∙ is in
      let same : n.0 ≡ needs.Begin k = cc one in
      no_begin_next (computed_calls old.core.call) ask mid.core.call.frames k (subst (NeedsNext (computed_calls old.core.call) ask mid.core.call.frames) same n.2)

  module _ (fits_old : IsCore next old.objects old.core) (left : ObjectsLeft (objects_after_ask old.objects old.core.call ask) turn mid.objects)
      (fits_mid : IsCore next mid.objects mid.core) (new : TxnValue) (valid : IsTxn next new) where
    unended_left : (t : HandTurn) → IsUnended t → ObjectsLeft (objects_after_ask old.objects old.core.call ask) t mid.objects
        → mid.objects ≡ objects_after_ask old.objects old.core.call ask
    unended_left None on is = is
    unended_left (Some (Asks request)) on is = is
    unended_left (Some (Ended outcome)) on is = absurd on

    fits_at : IsUnended turn → new.objects ≡ objects_after_ask old.objects old.core.call ask → IsCore next new.objects mid.core
    fits_at on same = subst (λ (os : Objects). IsCore next os mid.core) (unended_left turn on left ∙ sym same) fits_mid

    around : new.objects ≡ objects_after_ask old.objects old.core.call ask → (bytes : List ℕ) (done : Call) (calls : List Call) → ask ≡ asks.Done bytes
        → computed_calls old.core.call ≡ done ∷ calls → InnermostAsks next new.objects calls (asks.Call done)
    around same bytes done calls is computed =
        let n = some_need old.core.call.need runs in
        let fits = subst (λ (o : Option Need). NeedFits next old.objects old.core.call.top o old.core.call.frames) n.1 fits_old.call in
        let after : objects_after old.objects old.core.call.frames n.0 (asks.Done bytes) ≡ new.objects =
        sym (same ∙ ap (λ (o : Option Need). objects_after_need old.objects old.core.call.frames o ask) n.1 ∙ ap (λ (a : Ask). objects_after old.objects old.core.call.frames n.0 a) is) in
        subst (λ (os : Objects). InnermostAsks next os calls (asks.Call done)) after
        (done_around next old.objects old.core.call.top bytes old.core.call.frames n.0 fits (subst NeedsFunction n.1 runs) done calls
        (sym (ap (λ (o : Option Need). computed_in old.core.call.frames o) n.1) ∙ computed))

    pub told_so : (step : Result Step CallerError) → FunctionAfter mid.core turn new.core.call step → ObjectsAfter (objects_after_ask old.objects old.core.call ask) new.objects step
        → IsToldAfterAsk next (open_states new.core) old.core.call ask new.core.call step
    told_so (Ok Compute) goes same =
        let n = stands_next goes.0 in
        begun_so next (computed_calls old.core.call) mid.core new.core new.objects turn (fits_at goes.0 same) valid.fits valid.holds ask n.0 n.1 n.2
        goes.1.0 goes.1.1 goes.1.2 goes.1.3 old.core.call refl
    told_so (Ok Answered) goes same =
        let n = stands_next goes.0 in (
          goes.1.0.answer,
          ap told_in goes.1.1,
          continues_so next (computed_calls old.core.call) mid.core new.core new.objects turn (fits_at goes.0 same) valid.fits valid.holds goes.1.0 goes.1.1 goes.1.2 ask n.0 n.1 n.2
              goes.1.3 (around same) old.core.call refl,
        )
    told_so (Ok (Value value)) goes same = tt
    told_so (Err error) goes same = tt

-- what each function was told until now
pub follow_so : (old : Objects) (call : Calling) (ask : Ask) (new : Objects) (step : Result Step CallerError) → ObjectsAfter (objects_after_ask old call ask) new step
    → ObjectsFollow old call ask new step
follow_so old call ask new (Ok step) h = h
follow_so old call ask new (Err error) h = h

-- ---- what the outermost call tells

module _ (next : Next) (old mid new : TxnValue) (key : Call) (turn : PortTurn) (begun : HasBegunCall old key mid turn) (idle : IsIdle old.core)
    (there : IsSome (activity_of old.objects key.function)) (fits_old : IsCore next old.objects old.core) (valid : IsTxn next new) where
  no_frames : old.core.call.frames ≡ []
  no_frames = (subst (λ (n : Option Need). NeedFits next old.objects old.core.call.top n old.core.call.frames) idle.0 fits_old.call).0

  -- no frame is open yet, and no other call waits
  first_waits : (members : List Pin) → old.core.pins.members ≡ members → (mid.core.call.frames ≡ []) × ((k : Call) → WaitsForCall mid.core k → k ≡ key)
  first_waits [] is =
      let pins = begun.transition.pins is in
      (ap (λ (c : Calling). c.frames) pins.same_call ∙ no_frames, λ k waits. go k pins.same_call pins.waits waits)
    where
      go : (k : Call) → mid.core.call ≡ old.core.call → mid.core.pinning ≡ Some (record { step = Asked; first = Some key }) → WaitsForCall mid.core k → k ≡ key
      go k call at (inl need) = let no : None ≡ Some (needs.Lookup k) = sym (ap (λ (c : Calling). c.need) call ∙ idle.0) ∙ need in absurd (cc no)
      go k call at (inr first) = let one : Some key ≡ Some k = sym (ap first_call at) ∙ first in cc one
  first_waits (m ∷ ms) is =
      let start = ((begun.transition.begins (λ no. let one : m ∷ ms ≡ [] = sym is ∙ no in absurd (cc one))).there there).0 in
      (ap (λ (c : Calling). c.frames) start.call, λ k waits. go k start.call start.none waits)
    where
      go : (k : Call) → mid.core.call ≡ started key → mid.core.pinning ≡ None → WaitsForCall mid.core k → k ≡ key
      go k call none (inl need) = let one : Some (needs.Lookup key) ≡ Some (needs.Lookup k) = sym (ap (λ (c : Calling). c.need) call) ∙ need in cc one
      go k call none (inr first) = let no : None ≡ Some k = sym (ap first_call none) ∙ first in absurd (cc no)

  pub first_told : (step : Result Step CallerError) → FunctionAfter mid.core (Some turn) new.core.call step
      → IsToldAfterAsk next (open_states new.core) old.core.call (asks.Call key) new.core.call step
  first_told (Ok Compute) goes =
      let at = first_waits old.core.pins.members refl in (
        ap (λ (n : Option Need). computed_in new.core.call.frames n) goes.1.2 ∙ ap (λ (fs : List Frame). goes.1.0 ∷ calls_of fs) (goes.1.3 ∙ at.0)
            ∙ ap (λ (k : Call). k ∷ []) (at.1 goes.1.0 goes.1.1) ∙ ap (λ (n : Option Need). key ∷ computed_in old.core.call.frames n) (sym idle.0),
        ap told_in goes.1.2,
      )
  first_told (Ok Answered) goes =
      let at = first_waits old.core.pins.members refl in
      absurd ((subst (λ (n : Option Need). NeedFits next new.objects new.core.call.top n new.core.call.frames) goes.1.1 valid.fits.call).1 (goes.1.2 ∙ at.0))
  first_told (Ok (Value value)) goes = tt
  first_told (Err error) goes = tt

  pub first_follow : (step : Result Step CallerError) → ObjectsAfter old.objects new.objects step → ObjectsFollow old.objects old.core.call (asks.Call key) new.objects step
  first_follow (Ok step) h = h ∙ ap (λ (n : Option Need). objects_after_need old.objects old.core.call.frames n (asks.Call key)) (sym idle.0)
  first_follow (Err error) h = h
