-- What comes of an act of a transaction that writes.
use Rattle.std.proofs.Common.{◌≡◌, ◌≢◌, ◌∙◌, ◌⊎◌, ⊎_elim, inl, inr, ℕ, false, List, [], ◌∷◌, ◌++◌, All, Option, Some, None, Ok, Err, append-nil, refl, ap, sym, subst}
use Rattle.std.specs.Prelude.{Vec, Result, IfErr, IfOk, OnErr, OnOk}
use Rattle.std.proofs.lemmas.List.Elements.{All-nil, All-push}
use Rattle.txc_tags.specs.Keys.{Call}
use Rattle.std.specs.declared.alloc.Global.{Global}
use Rattle.txc_rows.specs.States.{RowValue, State, answer}
use Rattle.txc_rows.specs.declared.query.Query.{Query}
use Rattle.txc_validity.specs.declared.answer.Found.{Found}
use Rattle.txc_db.specs.DatabaseValue.{DatabaseValue}
use Rattle.txc_db.specs.History.{History, state_at}
use Rattle.txc_db.specs.declared.error.DbError.{DbError}
use Rattle.txc_app.specs.AnswersSoFar.{IsRight}
use Rattle.txc_app.specs.declared.app.Limits.{Limits}
use Rattle.txc_app.specs.Eval.{Next}
use Rattle.txc_app.specs.declared.ask.Answer.TheVariants as answers
use Rattle.txc_app.specs.declared.ask.Ask.{Ask}
use Rattle.txc_app.specs.declared.ask.Ask.TheVariants as asks
use Rattle.txc_call_registry.specs.Objects.{Objects}
use Rattle.txc_call.specs.declared.frame.Frame.{Frame}
use Rattle.txc_call.specs.declared.need.HeldAnswer.{HeldAnswer}
use Rattle.txc_call.specs.declared.need.Need.{Need}
use Rattle.txc_call.specs.declared.need.Need.TheVariants as needs
use Rattle.txc_call.specs.declared.need.Outcome.{Outcome}
use Rattle.txc_call.specs.CallMachine.{Calling, IsCalling}
use Rattle.txc_call.specs.Needs.{NeedFits}
use Rattle.txc_call.specs.Frames.{answers_in}
use Rattle.txc_call.specs.CallSteps.{AfterRan, is_done, objects_after, value_need, NeedsFunction}
use Rattle.txc_call.specs.MachineTurn.{Standing, Turn, outcome_of, value_held}
use Rattle.txc_txn_ports.specs.declared.turn.Turn.TheVariants.{Ask as AskTurn, Ended}
use Rattle.txc_txn_ports.specs.declared.error.TxnError.{TxnError}
use Rattle.txc_txn_ports.specs.Refusals.{refused_request}
use Rattle.txc_call_ghosts.specs.Steps.{objects_after_ask}
use Rattle.txc_txn.specs.TxnCore.{running_call}
use Rattle.txc_txn_rw.specs.declared.given.Given.{Given}
use Rattle.txc_txn_rw.specs.declared.given.Given.TheVariants as given
use Rattle.txc_txn_rw.specs.ByHand.{RwHandTurn, RwHandTransition, RwHearTransition, RwObjectsLeft, without_node, answers_by_hand, IsRwHandTurn, IsRwUnended}
use Rattle.txc_txn_rw.specs.RwCore.{IsFoundAt, IsRightReply, RwValue}
use Rattle.txc_txn_rw.specs.Transitions.{IsQueryLeft, RowsTransition}
use Rattle.txc_caller.specs.ComputedFunctions.{ContinuesWith, IsNextStep, IsToldRight, IsToldAfterAsk, ObjectsFollow, calls_of, computed_calls, computed_in, ended_step, told_in, top_call}
use Rattle.txc_db.specs.Calls.{IsQueryRefused}
use Rattle.txc_caller.specs.CallerWrite.{HasLed, IsActRefused, IsAskedQueryRefused, IsHeard, IsOwnReadRefused, IsReplyAt, IsStepAfter, IsWritingStep, queried_for}
use Rattle.txc_caller.specs.declared.step.CallerError.{CallerError}
use Rattle.txc_caller.specs.declared.step.CallerError.TheVariants.{Txn}
use Rattle.txc_caller.specs.declared.step.Step.{Step}
use Rattle.txc_caller.specs.declared.step.Step.TheVariants.{Answered, Compute, Value}
use Rattle.txc_caller.proofs.Telling.{asked_by, done_around, InnermostAsks, IsValueNeed, NeedsNext, StandsNext}

-- ---- what the core does after an ask, before the database answers a query

-- the value that these bytes are is held for the innermost frame
pub record IsValueHeld (call : Calling) (bytes : List ℕ) : Type 0 where
  pub frame : Frame
  pub outer : List Frame
  pub held : HeldAnswer
  pub at : call.frames ≡ frame ∷ outer
  pub need : call.need ≡ Some (needs.Resume held)
  pub value : held.answer ≡ answers.Value bytes

-- a function is to begin or to continue at once
abbrev pub GoesOnFrom : List Call → Ask → Calling → Type 0
GoesOnFrom computed (asks.Query q) call = ⊥
GoesOnFrom computed (asks.Call k) call = (calls_of call.frames ≡ computed) × (call.need ≡ Some (needs.Begin k))
GoesOnFrom computed (asks.Done bytes) call = (done : Call) × (computed ≡ done ∷ calls_of call.frames) × IsValueHeld call bytes

-- a query is asked
abbrev pub AsksFrom : List Call → Ask → List Frame → Query → Type 0
AsksFrom computed (asks.Query q) frames p = (calls_of frames ≡ computed) × (p ≡ q)
AsksFrom computed (asks.Call k) frames p = ⊥
AsksFrom computed (asks.Done bytes) frames p = ⊥

-- the call has its value
abbrev pub IsDoneBy : Ask → Type 0
IsDoneBy (asks.Query q) = ⊥
IsDoneBy (asks.Call k) = ⊥
IsDoneBy (asks.Done bytes) = Unit {0}

abbrev pub HasAskedFrom : List Call → Ask → Calling → RwHandTurn → Type 0
HasAskedFrom computed ask call None = GoesOnFrom computed ask call
HasAskedFrom computed ask call (Some (AskTurn q)) = AsksFrom computed ask call.frames q
HasAskedFrom computed ask call (Some (Ended (Ok value))) = IsDoneBy ask
HasAskedFrom computed ask call (Some (Ended (Err error))) = Unit {0}

-- a value that goes out is held for the innermost frame, if there is one
held_out : (frames : List Frame) (o : Outcome) (bytes : List ℕ) → o.value ≡ bytes → NeedsFunction (Some (value_need frames o))
    → (frame : Frame) × (outer : List Frame) × (x : HeldAnswer) × (frames ≡ frame ∷ outer) × (value_need frames o ≡ needs.Resume x) × (x.answer ≡ answers.Value bytes)
held_out [] o bytes is runs = absurd runs
held_out (frame ∷ outer) o bytes is runs = (frame, outer, value_held o, refl, refl, ap answers.Value is)

abbrev HeldWithout : List Frame → List ℕ → Option Need → Type 0
HeldWithout frames bytes need =
    (frame : Frame) × (outer : List Frame) × (x : HeldAnswer) × (frames ≡ frame ∷ outer) × (need ≡ Some (needs.Resume x)) × (x.answer ≡ answers.Value bytes)

held_some : (frames : List Frame) (o : Outcome) (bytes : List ℕ) → o.value ≡ bytes → NeedsFunction (Some (value_need frames o)) → HeldWithout frames bytes (Some (value_need frames o))
held_some frames o bytes is runs =
    let h = held_out frames o bytes is runs in
    (h.0, h.1, h.2, h.3, ap (λ (n : Need). Some n) h.4, h.5)

without_value : (frames : List Frame) (o : Outcome) → without_node frames (Some (value_need frames o)) ≡ Some (value_need frames o)
without_value [] o = refl
without_value (frame ∷ outer) o = refl

held_value : (frames : List Frame) (need : Need) (o : Outcome) (bytes : List ℕ) → o.value ≡ bytes → need ≡ value_need frames o → NeedsFunction (without_node frames (Some need))
    → HeldWithout frames bytes (without_node frames (Some need))
held_value frames need o bytes value is runs =
    let same : without_node frames (Some need) ≡ Some (value_need frames o) = ap (λ (n : Need). without_node frames (Some n)) is ∙ without_value frames o in
    subst (λ (n : Option Need). HeldWithout frames bytes n) (sym same)
    (held_some frames o bytes value (subst (λ (n : Option Need). NeedsFunction n) same runs))

held_for : (done : Call) (frames : List Frame) (need : Need) (bytes : List ℕ) → IsValueNeed done frames bytes need → NeedsFunction (without_node frames (Some need))
    → HeldWithout frames bytes (without_node frames (Some need))
held_for done frames (needs.Insert e) bytes h runs = held_some frames (outcome_of e.key e.value e.reach e.tags) bytes h.1 runs
held_for done frames (needs.Lookup k) bytes h runs = held_value frames (needs.Lookup k) h.0 bytes h.2 h.3 runs
held_for done frames (needs.Query q) bytes h runs = held_value frames (needs.Query q) h.0 bytes h.2 h.3 runs
held_for done frames (needs.Value o) bytes h runs = held_value frames (needs.Value o) h.0 bytes h.2 h.3 runs
held_for done frames (needs.Begin k) bytes h runs = held_value frames (needs.Begin k) h.0 bytes h.2 h.3 runs
held_for done frames (needs.Resume x) bytes h runs = held_value frames (needs.Resume x) h.0 bytes h.2 h.3 runs

-- it is no query
value_no_query : (frames : List Frame) (o : Outcome) (q : Query) → Some (value_need frames o) ≡ Some (needs.Query q) → ⊥
value_no_query [] o q is = absurd (cc is)
value_no_query (frame ∷ outer) o q is = absurd (cc is)

no_query_by : (frames : List Frame) (need : Need) (o : Outcome) (q : Query) → need ≡ value_need frames o → without_node frames (Some need) ≡ Some (needs.Query q) → ⊥
no_query_by frames need o q is asked =
    value_no_query frames o q (sym (without_value frames o) ∙ (ap (λ (n : Need). without_node frames (Some n)) (sym is) ∙ asked))

no_query : (done : Call) (frames : List Frame) (need : Need) (bytes : List ℕ) (q : Query) → IsValueNeed done frames bytes need → without_node frames (Some need) ≡ Some (needs.Query q) → ⊥
no_query done frames (needs.Insert e) bytes q h asked = value_no_query frames (outcome_of e.key e.value e.reach e.tags) q asked
no_query done frames (needs.Lookup k) bytes q h asked = no_query_by frames (needs.Lookup k) h.0 q h.3 asked
no_query done frames (needs.Query p) bytes q h asked = no_query_by frames (needs.Query p) h.0 q h.3 asked
no_query done frames (needs.Value o) bytes q h asked = no_query_by frames (needs.Value o) h.0 q h.3 asked
no_query done frames (needs.Begin k) bytes q h asked = no_query_by frames (needs.Begin k) h.0 q h.3 asked
no_query done frames (needs.Resume x) bytes q h asked = no_query_by frames (needs.Resume x) h.0 q h.3 asked

module _ (computed : List Call) (frames : List Frame) (need : Need) (call : Calling) where
  -- a function is needed
  goes_on_from : (ask : Ask) → NeedsNext computed ask frames need → call.frames ≡ frames → call.need ≡ without_node frames (Some need) → NeedsFunction call.need
      → GoesOnFrom computed ask call
  goes_on_from (asks.Query q) next at is runs =
      let e : call.need ≡ Some (needs.Query q) = is ∙ ap (λ (n : Need). without_node frames (Some n)) next.1 in
      subst (λ (n : Option Need). NeedsFunction n) e runs
  goes_on_from (asks.Call k) next at is runs =
      (ap (λ (fs : List Frame). calls_of fs) at ∙ next.0, is ∙ ap (λ (n : Need). without_node frames (Some n)) next.1)
  goes_on_from (asks.Done bytes) next at is runs =
      let h = held_for next.0 frames need bytes next.2 (subst (λ (n : Option Need). NeedsFunction n) is runs) in (
        next.0,
        next.1 ∙ ap (λ (fs : List Frame). next.0 ∷ calls_of fs) (sym at),
        record { frame = h.0; outer = h.1; held = h.2; at = at ∙ h.3; need = is ∙ h.4; value = h.5 },
      )

  -- a query is needed
  asks_from : (ask : Ask) (p : Query) → NeedsNext computed ask frames need → call.frames ≡ frames → call.need ≡ without_node frames (Some need) → call.need ≡ Some (needs.Query p)
      → AsksFrom computed ask call.frames p
  asks_from (asks.Query q) p next at is asked =
      let e : Some (needs.Query p) ≡ Some (needs.Query q) = sym asked ∙ (is ∙ ap (λ (n : Need). without_node frames (Some n)) next.1) in
      let same : p ≡ q = cc e in
      (ap (λ (fs : List Frame). calls_of fs) at ∙ next.0, same)
  asks_from (asks.Call k) p next at is asked =
      let e : Some (needs.Query p) ≡ Some (needs.Begin k) = sym asked ∙ (is ∙ ap (λ (n : Need). without_node frames (Some n)) next.1) in
      absurd (cc e)
  asks_from (asks.Done bytes) p next at is asked = no_query next.0 frames need bytes p next.2 (sym is ∙ asked)

  -- a value is there
  done_from : (ask : Ask) (o : Outcome) → NeedsNext computed ask frames need → without_node frames (Some need) ≡ Some (needs.Value o) → IsDoneBy ask
  done_from (asks.Query q) o next is =
      let e : Some (needs.Query q) ≡ Some (needs.Value o) = sym (ap (λ (n : Need). without_node frames (Some n)) next.1) ∙ is in absurd (cc e)
  done_from (asks.Call k) o next is =
      let e : Some (needs.Begin k) ≡ Some (needs.Value o) = sym (ap (λ (n : Need). without_node frames (Some n)) next.1) ∙ is in absurd (cc e)
  done_from (asks.Done bytes) o next is = tt

pub asked_from : (computed : List Call) (ask : Ask) (stands : Turn) (mid : RwValue) (turn : RwHandTurn) → StandsNext computed ask stands → RwHandTransition stands mid turn
    → IsRwHandTurn mid turn → HasAskedFrom computed ask mid.call turn
asked_from computed ask (Err error) mid None next transition fits = absurd (cc transition)
asked_from computed ask (Err error) mid (Some (AskTurn q)) next transition fits = absurd (cc transition)
asked_from computed ask (Err error) mid (Some (Ended (Ok value))) next transition fits = absurd (cc transition)
asked_from computed ask (Err error) mid (Some (Ended (Err other))) next transition fits = tt
asked_from computed ask (Ok s) mid None next transition fits =
    goes_on_from computed s.frames next.0 mid.call ask next.2 transition.0 (transition.2 ∙ ap (λ (n : Option Need). without_node s.frames n) next.1) fits.1
asked_from computed ask (Ok s) mid (Some (AskTurn q)) next transition fits =
    let now : Standing = record { frames = mid.call.frames; asked = mid.call.asked; need = mid.call.need; objects = s.objects } in
    let both = transition.1 in
    let e : now ≡ record s { need = without_node s.frames s.need } = cc both in
    asks_from computed s.frames next.0 mid.call ask q next.2 (ap (λ (st : Standing). st.frames) e)
    (ap (λ (st : Standing). st.need) e ∙ ap (λ (n : Option Need). without_node s.frames n) next.1) fits.1
asked_from computed ask (Ok s) mid (Some (Ended (Ok value))) next transition fits =
    done_from computed s.frames next.0 mid.call ask transition.1.0 next.2 (sym (ap (λ (n : Option Need). without_node s.frames n) next.1) ∙ transition.1.1)
asked_from computed ask (Ok s) mid (Some (Ended (Err other))) next transition fits = tt

-- ---- and once it has

-- what was found at the base is a right reply
pub right_reply_to : (L : History) (c : RwValue) (base : ℕ) (reply : Result Found DbError) (q : Query) → base ≡ c.base → c.reading ≡ Some q → IfOk reply (IsFoundAt L base q)
    → IsRightReply L c reply
right_reply_to L c base (Err error) q at asked found = tt
right_reply_to L c base (Ok f) q at asked found = λ other asked'.
    let two : Some q ≡ Some other = sym asked ∙ asked' in
    let same : q ≡ other = cc two in
    subst (λ (p : Query). IsFoundAt L c.base p f) same (subst (λ (b : ℕ). IsFoundAt L b q f) at found)

-- no query is asked then
pub heard_after : (old : RwValue) (q : Query) (reply : Result Found DbError) (new : RwValue) (last : RwHandTurn) → RwHearTransition old q reply new last → IsHeard last
heard_after old q (Ok found) new last heard = subst (λ (t : RwHandTurn). IsHeard t) (sym heard.0) tt
heard_after old q (Err error) new last heard = subst (λ (t : RwHandTurn). IsHeard t) (sym heard.0) tt

module _ (d : DatabaseValue) (mid new : RwValue) where
  -- only these fields change
  abbrev StateTransition : Type 0
  StateTransition = new ≡ record mid { queried = new.queried; call = new.call; reading = new.reading }

  leads_heard : (n : RwValue) → new ≡ n → n ≡ record mid { queried = n.queried; call = n.call; reading = n.reading } → StateTransition
  leads_heard n is h = subst (λ (v : RwValue). v ≡ record mid { queried = v.queried; call = v.call; reading = v.reading }) (sym is) h

  pub led_same : (turn last : RwHandTurn) → HasLed d mid turn new last → StateTransition
  led_same None last led = leads_heard mid led.0 refl
  led_same (Some (Ended outcome)) last led = leads_heard mid led.0 refl
  led_same (Some (AskTurn q)) last (Ok found, at, heard) = leads_heard _ heard.1 refl
  led_same (Some (AskTurn q)) last (Err error, at, heard) = leads_heard _ heard.1 refl

  -- the outermost call stays
  pub led_top : (turn last : RwHandTurn) → HasLed d mid turn new last → new.call.top ≡ mid.call.top
  led_top None last led = ap (λ (v : RwValue). v.call.top) led.0
  led_top (Some (Ended outcome)) last led = ap (λ (v : RwValue). v.call.top) led.0
  led_top (Some (AskTurn q)) last (Ok found, at, heard) = ap (λ (v : RwValue). v.call.top) heard.1
  led_top (Some (AskTurn q)) last (Err error, at, heard) = ap (λ (v : RwValue). v.call.top) heard.1

  -- a call that has not ended had not before
  pub led_unended : (turn last : RwHandTurn) → HasLed d mid turn new last → IsRwUnended last → IsRwUnended turn
  led_unended None last led on = tt
  led_unended (Some (Ended outcome)) last led on = subst (λ (t : RwHandTurn). IsRwUnended t) led.1 on
  led_unended (Some (AskTurn q)) last led on = tt

  -- a query that was answered gives no value yet
  pub led_answers : (before : List Given) (k : Call) (turn last : RwHandTurn) → HasLed d mid turn new last → answers_by_hand before k turn ≡ answers_by_hand before k last
  led_answers before k None last led = ap (answers_by_hand before k) (sym led.1)
  led_answers before k (Some (Ended outcome)) last led = ap (answers_by_hand before k) (sym led.1)
  led_answers before k (Some (AskTurn q)) last (Ok found, at, heard) = ap (answers_by_hand before k) (sym heard.0)
  led_answers before k (Some (AskTurn q)) last (Err error, at, heard) = ap (answers_by_hand before k) (sym heard.0)

-- a call that asks no query reads none
pub rests_after : (c : RwValue) (last : RwHandTurn) → IsRwHandTurn c last → IsHeard last → c.reading ≡ None
rests_after c None fits heard = fits.0
rests_after c (Some (Ended outcome)) fits heard = fits.1
rests_after c (Some (AskTurn q)) fits heard = absurd heard

-- ---- the step

runs_top : (need : Option Need) (top : Call) → NeedsFunction need → running_call need top ≡ Some top
runs_top None top runs = absurd runs
runs_top (Some need) top runs = refl

-- the outermost call of one that is open
pub is_top : (call : Calling) (k : Call) → top_call call ≡ Some k → call.top ≡ k
is_top call k is = is_top_by call.need call.top k is
  where
    is_top_by : (need : Option Need) (top k : Call) → running_call need top ≡ Some k → top ≡ k
    is_top_by None top k is = absurd (cc is)
    is_top_by (Some need) top k is = cc is

module _ (before : List Given) (k : Call) (new : RwValue) where
  told_by_next : (step : Step) → IsNextStep new.call step → new.answers ≡ before → top_call new.call ≡ Some k → NeedsFunction new.call.need
      → IsWritingStep (record new { answers = before }) new k (Ok step)
  told_by_next Compute next same top runs = (same, record { top = top; computing = runs; told_is = ap (λ (n : Option Need). told_in n) next.1 })
  told_by_next Answered next same top runs = (same, (next.0.answer, record { top = top; computing = runs; told_is = ap (λ (n : Option Need). told_in n) next.1 }))
  told_by_next (Value value) next same top runs = absurd next

  pub stepped : (last : RwHandTurn) (result : Result Step CallerError) → IsRwHandTurn new last → IsStepAfter new.call last result
      → new.answers ≡ answers_by_hand before k last → (IsRwUnended last → new.call.top ≡ k) → IsWritingStep (record new { answers = before }) new k result
  stepped None result fits (step, is, next) same goes_on =
      let top : top_call new.call ≡ Some k = runs_top new.call.need new.call.top fits.1 ∙ ap (λ (j : Call). Some j) (goes_on tt) in
      subst (λ (r : Result Step CallerError). IsWritingStep (record new { answers = before }) new k r) (sym is) (told_by_next step next same top fits.1)
  stepped (Some (Ended (Ok value))) result fits is same goes_on =
      subst (λ (r : Result Step CallerError). IsWritingStep (record new { answers = before }) new k r) (sym is) (same, fits.0)
  stepped (Some (Ended (Err error))) result fits is same goes_on =
      subst (λ (r : Result Step CallerError). IsWritingStep (record new { answers = before }) new k r) (sym is) (same, fits.0)
  stepped (Some (AskTurn q)) result fits is same goes_on = absurd is

-- ---- the objects

pub objects_follow : (before left after : Objects) (call at : Calling) (ask : Ask) (last : RwHandTurn) (result : Result Step CallerError) → left ≡ objects_after_ask before call ask
    → RwObjectsLeft left last after → IsStepAfter at last result → ObjectsFollow before call ask after result
objects_follow before left after call at ask None result is same (step, says, next) =
    subst (λ (r : Result Step CallerError). ObjectsFollow before call ask after r) (sym says) (same ∙ is)
objects_follow before left after call at ask (Some (Ended (Ok value))) result is same says =
    subst (λ (r : Result Step CallerError). ObjectsFollow before call ask after r) (sym says) (same ∙ is)
objects_follow before left after call at ask (Some (Ended (Err error))) result is idle says =
    subst (λ (r : Result Step CallerError). ObjectsFollow before call ask after r) (sym says) idle
objects_follow before left after call at ask (Some (AskTurn q)) result is same says = absurd says

-- ---- the queries that count as read

-- the call was refused
abbrev pub IsEndedBadly : RwHandTurn → Type 0
IsEndedBadly last = (error : TxnError) × (last ≡ Some (Ended (Err error)))

on_ok : (result : Result Step CallerError) (P : Type 0) → P → OnOk result P
on_ok (Ok step) P h = h
on_ok (Err error) P h = tt

on_err : (result : Result Step CallerError) (P : Type 0) → P → OnErr result P
on_err (Ok step) P h = tt
on_err (Err error) P h = h

not_ok : (at : Calling) (last : RwHandTurn) (result : Result Step CallerError) (P : Type 0) → IsEndedBadly last → IsStepAfter at last result → OnOk result P
not_ok at last result P (error, is) says =
    let err : result ≡ Err (Txn error) = subst (λ (t : RwHandTurn). IsStepAfter at t result) is says in
    subst (λ (r : Result Step CallerError). OnOk r P) (sym err) tt

not_err : (at : Calling) (last : RwHandTurn) (result : Result Step CallerError) (P : Type 0) → last ≡ None → IsStepAfter at last result → OnErr result P
not_err at last result P is says =
    let ok = subst (λ (t : RwHandTurn). IsStepAfter at t result) is says in
    subst (λ (r : Result Step CallerError). OnErr r P) (sym ok.1) tt

module _ (d : DatabaseValue) (computed : List Call) (mid new : RwValue) where
  unread_by : (ask : Ask) → GoesOnFrom computed ask mid.call → queried_for ask ≡ []
  unread_by (asks.Query q) goes = absurd goes
  unread_by (asks.Call k) goes = refl
  unread_by (asks.Done bytes) goes = refl

  done_unread : (ask : Ask) → IsDoneBy ask → queried_for ask ≡ []
  done_unread (asks.Query q) done = absurd done
  done_unread (asks.Call k) done = refl
  done_unread (asks.Done bytes) done = refl

  read_by : (ask : Ask) (p : Query) → AsksFrom computed ask mid.call.frames p → queried_for ask ≡ p ∷ []
  read_by (asks.Query q) p asked = ap (λ (x : Query). x ∷ []) (sym asked.1)
  read_by (asks.Call k) p asked = absurd asked
  read_by (asks.Done bytes) p asked = absurd asked

  none_more : (qs : List Query) (ask : Ask) → queried_for ask ≡ [] → qs ≡ qs ++ queried_for ask
  none_more qs ask none = sym (append-nil qs) ∙ ap (λ (more : List Query). qs ++ more) (sym none)

  -- once it was answered
  read_when_led : (ask : Ask) (turn last : RwHandTurn) → HasAskedFrom computed ask mid.call turn → HasLed d mid turn new last
      → (new.queried ≡ mid.queried ++ queried_for ask) ⊎ (IsEndedBadly last × (new.queried ≡ mid.queried))
  read_when_led ask None last asked led = inl (ap (λ (v : RwValue). v.queried) led.0 ∙ none_more mid.queried ask (unread_by ask asked))
  read_when_led ask (Some (Ended (Ok value))) last asked led = inl (ap (λ (v : RwValue). v.queried) led.0 ∙ none_more mid.queried ask (done_unread ask asked))
  read_when_led ask (Some (Ended (Err error))) last asked led = inr ((error, led.1), ap (λ (v : RwValue). v.queried) led.0)
  read_when_led ask (Some (AskTurn p)) last asked (Ok found, at, heard) =
      inl (ap (λ (v : RwValue). v.queried) heard.1 ∙ ap (λ (more : List Query). mid.queried ++ more) (sym (read_by ask p asked)))
  read_when_led ask (Some (AskTurn p)) last asked (Err error, at, heard) = inr ((refused_request error, heard.0), ap (λ (v : RwValue). v.queried) heard.1)

  pub read_once : (ask : Ask) (turn last : RwHandTurn) (result : Result Step CallerError) → HasAskedFrom computed ask mid.call turn → HasLed d mid turn new last
      → IsStepAfter new.call last result → OnOk result (new.queried ≡ mid.queried ++ queried_for ask)
  read_once ask turn last result asked led says =
      ⊎_elim
      (λ (more : new.queried ≡ mid.queried ++ queried_for ask). on_ok result (new.queried ≡ mid.queried ++ queried_for ask) more)
      (λ (bad : IsEndedBadly last × (new.queried ≡ mid.queried)). not_ok new.call last result (new.queried ≡ mid.queried ++ queried_for ask) bad.0 says)
      (read_when_led ask turn last asked led)

  -- if it was refused
  unread_when_led : (turn last : RwHandTurn) → HasLed d mid turn new last → (new.queried ≡ mid.queried) ⊎ (last ≡ None)
  unread_when_led None last led = inr led.1
  unread_when_led (Some (Ended outcome)) last led = inl (ap (λ (v : RwValue). v.queried) led.0)
  unread_when_led (Some (AskTurn p)) last (Ok found, at, heard) = inr heard.0
  unread_when_led (Some (AskTurn p)) last (Err error, at, heard) = inl (ap (λ (v : RwValue). v.queried) heard.1)

  pub unread_once : (turn last : RwHandTurn) (result : Result Step CallerError) → HasLed d mid turn new last → IsStepAfter new.call last result
      → OnErr result (new.queried ≡ mid.queried)
  unread_once turn last result led says =
      ⊎_elim
      (λ (same : new.queried ≡ mid.queried). on_err result (new.queried ≡ mid.queried) same)
      (λ (none : last ≡ None). not_err new.call last result (new.queried ≡ mid.queried) none says)
      (unread_when_led turn last led)

-- ---- the answers

module _ (computed : List Call) (before : List Given) (k : Call) where
  -- only a function that is done gives a value
  undone_by : (ask : Ask) → IsDoneBy ask → is_done ask ≡ false → ⊥
  undone_by (asks.Query q) done undone = done
  undone_by (asks.Call j) done undone = done
  undone_by (asks.Done bytes) done undone = absurd (cc undone)

  pub no_answer_more : (ask : Ask) (call : Calling) (turn : RwHandTurn) → HasAskedFrom computed ask call turn → is_done ask ≡ false → answers_by_hand before k turn ≡ before
  no_answer_more ask call None asked undone = refl
  no_answer_more ask call (Some (AskTurn q)) asked undone = refl
  no_answer_more ask call (Some (Ended (Ok value))) asked undone = absurd (undone_by ask asked undone)
  no_answer_more ask call (Some (Ended (Err error))) asked undone = refl

-- ---- what the function is told

-- the function of this call, by the answers that its object was given, asks this
abbrev pub AsksAt : Next → Objects → Call → Ask → Type 0
AsksAt next objects k ask = next.says k.function k.args (answers_in objects k.function) ≡ Some ask

-- what is right in one state is right in all of them
in_all : (P : State → Type 0) (s : State) → P s → All P (s ∷ [])
in_all P s h = All-push P [] s (All-nil P) h

module _ (next : Next) (after : Objects) (s : State) (old call : Calling) where
  -- a held answer is right for what the innermost function asked
  abbrev HeldIsRight : Type 0
  HeldIsRight = (x : HeldAnswer) (frame : Frame) (outer : List Frame) → call.need ≡ Some (needs.Resume x) → call.frames ≡ frame ∷ outer
      → IsRight next frame.key.function s (next.says frame.key.function frame.key.args (answers_in after frame.key.function)) x.answer

  told_right : (ask : Ask) (x : HeldAnswer) (frame : Frame) (outer : List Frame) → HeldIsRight → call.need ≡ Some (needs.Resume x) → call.frames ≡ frame ∷ outer
      → AsksAt next after frame.key ask → IsToldRight next (s ∷ []) call ask x.answer
  told_right ask x frame outer right is at asks_this = record {
    function = frame.key;
    around = calls_of outer;
    is = ap (λ (need : Option Need). computed_in call.frames need) is ∙ ap (λ (fs : List Frame). calls_of fs) at;
    right = in_all (λ (t : State). IsRight next frame.key.function t (Some ask) x.answer) s
        (subst (λ (o : Option Ask). IsRight next frame.key.function s o x.answer) asks_this (right x frame outer is at));
  }

  -- a function that is done was computed for the one around it
  pub told_value : (bytes : List ℕ) (done : Call) → HeldIsRight → computed_calls old ≡ done ∷ calls_of call.frames → (held : IsValueHeld call bytes)
      → AsksAt next after held.frame.key (asks.Call done) → ContinuesWith next (s ∷ []) old (asks.Done bytes) call held.held.answer
  told_value bytes done right computed held asks_this = (
    done,
    computed ∙ ap (λ (ks : List Call). done ∷ ks) (sym (ap (λ (need : Option Need). computed_in call.frames need) held.need)),
    held.value,
    told_right (asks.Call done) held.held held.frame held.outer right held.need held.at asks_this,
  )

  -- .. or it continues with the rows of its query
  pub told_rows : (q : Query) (x : HeldAnswer) (frame : Frame) (outer : List Frame) → HeldIsRight → call.need ≡ Some (needs.Resume x) → call.frames ≡ frame ∷ outer
      → calls_of call.frames ≡ computed_calls old → AsksAt next after frame.key (asks.Query q) → ContinuesWith next (s ∷ []) old (asks.Query q) call x.answer
  told_rows q x frame outer right is at same asks_this =
      (ap (λ (need : Option Need). computed_in call.frames need) is ∙ same, told_right (asks.Query q) x frame outer right is at asks_this)

  -- with this answer it continues
  pub told_this : (ask : Ask) (x : HeldAnswer) (step : Step) → call.need ≡ Some (needs.Resume x) → IsNextStep call step → ContinuesWith next (s ∷ []) old ask call x.answer
      → IsToldAfterAsk next (s ∷ []) old ask call (Ok step)
  told_this ask x Compute is says h =
      let e : Some (needs.Begin says.0) ≡ Some (needs.Resume x) = sym says.1 ∙ is in absurd (cc e)
  told_this ask x Answered is says h = (x.answer, ap (λ (need : Option Need). told_in need) is, h)
  told_this ask x (Value value) is says h = absurd says

  -- it begins
  pub told_nothing : (k : Call) (step : Step) → calls_of call.frames ≡ computed_calls old → call.need ≡ Some (needs.Begin k) → IsNextStep call step
      → IsToldAfterAsk next (s ∷ []) old (asks.Call k) call (Ok step)
  told_nothing k Compute same is says =
      (ap (λ (need : Option Need). computed_in call.frames need) is ∙ ap (λ (ks : List Call). k ∷ ks) same, ap (λ (need : Option Need). told_in need) is)
  told_nothing k Answered same is says =
      let e : Some (needs.Begin k) ≡ Some (needs.Resume says.0) = sym is ∙ says.1 in absurd (cc e)
  told_nothing k (Value value) same is says = absurd says

  -- the function around one that is done asked the call of that
  abbrev pub AroundAsked : Ask → Type 0
  AroundAsked ask = (bytes : List ℕ) (done : Call) (calls : List Call) → ask ≡ asks.Done bytes → computed_calls old ≡ done ∷ calls → InnermostAsks next after calls (asks.Call done)

  -- a function goes on at once
  told_at_once : (ask : Ask) (step : Step) → AroundAsked ask → HeldIsRight → GoesOnFrom (computed_calls old) ask call → IsNextStep call step
      → IsToldAfterAsk next (s ∷ []) old ask call (Ok step)
  told_at_once (asks.Query q) step asked right goes says = absurd goes
  told_at_once (asks.Call k) step asked right goes says = told_nothing k step goes.0 goes.1 says
  told_at_once (asks.Done bytes) step asked right (done, computed, held) says =
      told_this (asks.Done bytes) held.held step held.need says
      (told_value bytes done right computed held
      (asked bytes done (calls_of call.frames) refl computed held.frame.key (calls_of held.outer) (ap calls_of held.at)))

  -- .. or once its query was answered
  told_once_read : (ask : Ask) (q : Query) (x : HeldAnswer) (step : Step) (frames : List Frame) → HeldIsRight → AsksFrom (computed_calls old) ask call.frames q
      → InnermostAsks next after (calls_of call.frames) (asks.Query q) → call.need ≡ Some (needs.Resume x) → call.frames ≡ frames → frames ≢ [] → IsNextStep call step
      → IsToldAfterAsk next (s ∷ []) old ask call (Ok step)
  told_once_read (asks.Query p) q x step [] right from asked is at some says = absurd (some refl)
  told_once_read (asks.Query p) q x step (frame ∷ outer) right from asked is at some says =
      told_this (asks.Query p) x step is says
      (told_rows p x frame outer right is at from.0
      (subst (λ (r : Query). AsksAt next after frame.key (asks.Query r)) from.1 (asked frame.key (calls_of outer) (ap calls_of at))))
  told_once_read (asks.Call k) q x step frames right from asked is at some says = absurd from
  told_once_read (asks.Done bytes) q x step frames right from asked is at some says = absurd from

  told_ended : (ask : Ask) (outcome : Result (List ℕ) TxnError) → IsToldAfterAsk next (s ∷ []) old ask call (ended_step outcome)
  told_ended ask (Ok value) = tt
  told_ended ask (Err error) = tt

-- what the function is told after an act
module _ (next : Next) (after : Objects) (s : State) (old : Calling) (d : DatabaseValue) (mid new : RwValue) (ask : Ask) (result : Result Step CallerError) where
  abbrev ToldSo : Result Step CallerError → Type 0
  ToldSo r = IsToldAfterAsk next (s ∷ []) old ask new.call r

  pub told_when_led : (turn last : RwHandTurn) → (last ≡ None → AroundAsked next after s old new.call ask) → HeldIsRight next after s old new.call
      → ((q : Query) → turn ≡ Some (AskTurn q) → last ≡ None → IsCalling next after mid.call) → IsRwHandTurn mid turn → IsCalling next after new.call
      → HasAskedFrom (computed_calls old) ask mid.call turn → HasLed d mid turn new last → IsStepAfter new.call last result → ToldSo result
  told_when_led None last asked right at_mid fits_mid fits from led says =
      let then = subst (λ (t : RwHandTurn). IsStepAfter new.call t result) led.1 says in
      subst ToldSo (sym then.1)
      (told_at_once next after s old new.call ask then.0 (asked led.1) right (subst (λ (v : RwValue). GoesOnFrom (computed_calls old) ask v.call) (sym led.0) from) then.2)
  told_when_led (Some (Ended outcome)) last asked right at_mid fits_mid fits from led says =
      let ends : result ≡ ended_step outcome = subst (λ (t : RwHandTurn). IsStepAfter new.call t result) led.1 says in
      subst ToldSo (sym ends) (told_ended next after s old new.call ask outcome)
  told_when_led (Some (AskTurn q)) last asked right at_mid fits_mid fits from (Ok found, at, heard) says =
      let then = subst (λ (t : RwHandTurn). IsStepAfter new.call t result) heard.0 says in
      let frames : new.call.frames ≡ mid.call.frames = ap (λ (v : RwValue). v.call.frames) heard.1 in
      let need = ap (λ (v : RwValue). v.call.need) heard.1 in
      let this = (asked_by next after mid.call.top mid.call.frames mid.call.need (at_mid q refl heard.0)).0 q fits_mid.1 in
      subst ToldSo (sym then.1)
      (told_once_read next after s old new.call ask q _ then.0 new.call.frames right
      (subst (λ (fs : List Frame). AsksFrom (computed_calls old) ask fs q) (sym frames) from)
      (subst (λ (fs : List Frame). InnermostAsks next after (calls_of fs) (asks.Query q)) (sym frames) this) need refl
      (subst (λ (n : Option Need). NeedFits next after new.call.top n new.call.frames) need fits).1 then.2)
  told_when_led (Some (AskTurn q)) last asked right at_mid fits_mid fits from (Err error, at, heard) says =
      let ends : result ≡ ended_step (Err (refused_request error)) = subst (λ (t : RwHandTurn). IsStepAfter new.call t result) heard.0 says in
      subst ToldSo (sym ends) (told_ended next after s old new.call ask (Err (refused_request error)))

-- the function around one that is done asked its call, by what it owes
pub around_asked : (next : Next) (objects after : Objects) (s : State) (old call : Calling) (need : Need) (ask : Ask) → old.need ≡ Some need → IsCalling next objects old
    → NeedsFunction old.need → after ≡ objects_after objects old.frames need ask → AroundAsked next after s old call ask
around_asked next objects after s old call need ask is calling runs left = λ bytes done calls same at.
    let fits : NeedFits next objects old.top (Some need) old.frames = subst (λ (n : Option Need). NeedFits next objects old.top n old.frames) is calling in
    let in_need : computed_in old.frames (Some need) ≡ computed_calls old = sym (ap (λ (n : Option Need). computed_in old.frames n) is) in
    subst (λ (os : Objects). InnermostAsks next os calls (asks.Call done)) (sym (left ∙ ap (λ (a : Ask). objects_after objects old.frames need a) same))
    (done_around next objects old.top bytes old.frames need fits (subst (λ (n : Option Need). NeedsFunction n) is runs) done calls (in_need ∙ at))

-- ---- what stays

pub same_but : (old mid new : RwValue) → mid ≡ record old { answers = mid.answers; call = mid.call; reading = mid.reading }
    → new ≡ record mid { queried = new.queried; call = new.call; reading = new.reading } → new.reading ≡ None → old.reading ≡ None
    → new ≡ record old { queried = new.queried; answers = new.answers; call = new.call }
same_but old mid new first then rests none =
    let both : new ≡ record old { queried = new.queried; answers = mid.answers; call = new.call; reading = new.reading } =
    then ∙ ap (λ (v : RwValue). record v { queried = new.queried; call = new.call; reading = new.reading }) first in
    both ∙ (ap (λ (xs : List Given). record old { queried = new.queried; answers = xs; call = new.call; reading = new.reading }) (sym (ap (λ (v : RwValue). v.answers) then))
    ∙ ap (λ (r : Option Query). record old { queried = new.queried; answers = new.answers; call = new.call; reading = r }) (rests ∙ sym none))

-- ---- why it was refused

module _ (limits : Limits) (d : DatabaseValue) (computed : List Call) (old mid new : RwValue) (objects : Objects) (need : Need) (ask : Ask) (needed : old.call.need ≡ Some need) where
  first_refused : (stands : Turn) (error : TxnError) → AfterRan limits old.call.frames old.call.asked objects need ask stands → RwHandTransition stands mid (Some (Ended (Err error)))
      → IsActRefused limits d old objects ask (Txn error)
  first_refused (Err cause) error after transition = inr (inl (record { need = need; needed = needed; cause = cause; after = after; is = cc transition }))
  first_refused (Ok s) error after transition = inl transition.1

  query_refused : (a : Ask) (q : Query) (cause : DbError) → AsksFrom computed a mid.call.frames q → mid.base ≡ old.base → IsQueryRefused d q mid.base cause
      → IsAskedQueryRefused d old.base a (refused_request cause)
  query_refused (asks.Query p) q cause from base refused =
      (cause, subst (λ (x : Query). IsQueryRefused d x old.base cause) from.1 (subst (λ (b : ℕ). IsQueryRefused d q b cause) base refused), refl)
  query_refused (asks.Call k) q cause from base refused = absurd from
  query_refused (asks.Done bytes) q cause from base refused = absurd from

  pub why_refused : (stands : Turn) (turn last : RwHandTurn) (result : Result Step CallerError) → AfterRan limits old.call.frames old.call.asked objects need ask stands
      → RwHandTransition stands mid turn → HasAskedFrom computed ask mid.call turn → mid.base ≡ old.base → HasLed d mid turn new last → IsStepAfter new.call last result
      → IfErr result (IsActRefused limits d old objects ask)
  why_refused stands None last result after transition from base led says =
      let then = subst (λ (t : RwHandTurn). IsStepAfter new.call t result) led.1 says in
      subst (λ (r : Result Step CallerError). IfErr r (IsActRefused limits d old objects ask)) (sym then.1) tt
  why_refused stands (Some (Ended (Ok value))) last result after transition from base led says =
      let ends : result ≡ ended_step (Ok value) = subst (λ (t : RwHandTurn). IsStepAfter new.call t result) led.1 says in
      subst (λ (r : Result Step CallerError). IfErr r (IsActRefused limits d old objects ask)) (sym ends) tt
  why_refused stands (Some (Ended (Err error))) last result after transition from base led says =
      let ends : result ≡ ended_step (Err error) = subst (λ (t : RwHandTurn). IsStepAfter new.call t result) led.1 says in
      subst (λ (r : Result Step CallerError). IfErr r (IsActRefused limits d old objects ask)) (sym ends) (first_refused stands error after transition)
  why_refused stands (Some (AskTurn q)) last result after transition from base (Ok found, at, heard) says =
      let then = subst (λ (t : RwHandTurn). IsStepAfter new.call t result) heard.0 says in
      subst (λ (r : Result Step CallerError). IfErr r (IsActRefused limits d old objects ask)) (sym then.1) tt
  why_refused stands (Some (AskTurn q)) last result after transition from base (Err cause, at, heard) says =
      let ends : result ≡ ended_step (Err (refused_request cause)) = subst (λ (t : RwHandTurn). IsStepAfter new.call t result) heard.0 says in
      subst (λ (r : Result Step CallerError). IfErr r (IsActRefused limits d old objects ask)) (sym ends) (inr (inr (query_refused ask q cause from base at)))

-- ---- a query of its own

pub reply_at : (d : DatabaseValue) (base : ℕ) (q : Query) (reply : Result Found DbError) → IfOk reply (IsFoundAt d.history base q) → IfErr reply (IsQueryRefused d q base)
    → IsReplyAt d base q reply
reply_at d base q (Ok found) at refused = at
reply_at d base q (Err error) at refused = refused

module _ (d : DatabaseValue) (core mid new : RwValue) (q : Query) (asking : mid ≡ record core { reading = Some q }) (none : core.reading ≡ None) where
  pub read_answer : (base : ℕ) (reply : Result Found DbError) (result : Result (Vec RowValue Global) TxnError) → RowsTransition mid q reply new result → IsReplyAt d base q reply
      → IfOk result (λ rows. rows.items ≡ answer q (state_at d.history base))
  read_answer base (Ok found) (Ok rows) transition at = transition.0 ∙ at.rows
  read_answer base (Ok found) (Err error) transition at = tt
  read_answer base (Err cause) result transition at =
      subst (λ (r : Result (Vec RowValue Global) TxnError). IfOk r (λ rows. rows.items ≡ answer q (state_at d.history base))) (sym transition.0) tt

  pub read_after : (reply : Result Found DbError) (result : Result (Vec RowValue Global) TxnError) → RowsTransition mid q reply new result
      → IfOk result (λ rows. new ≡ record core { queried = core.queried ++ q ∷ []; answers = core.answers ++ given.Rows q rows.items ∷ [] })
  read_after (Ok found) (Ok rows) transition =
      transition.1
      ∙ (ap (λ (v : RwValue). record v { queried = v.queried ++ q ∷ []; answers = v.answers ++ given.Rows q rows.items ∷ []; reading = None }) asking
      ∙ ap (λ (r : Option Query). record core { queried = core.queried ++ q ∷ []; answers = core.answers ++ given.Rows q rows.items ∷ []; reading = r }) (sym none))
  read_after (Ok found) (Err error) transition = tt
  read_after (Err cause) result transition =
      subst (λ (r : Result (Vec RowValue Global) TxnError). IfOk r (λ rows. new ≡ record core { queried = core.queried ++ q ∷ []; answers = core.answers ++ given.Rows q rows.items ∷ [] })) (sym transition.0) tt

  pub read_refused : (base : ℕ) (reply : Result Found DbError) (result : Result (Vec RowValue Global) TxnError) → RowsTransition mid q reply new result → IsReplyAt d base q reply
      → IfErr result (IsOwnReadRefused d base q)
  read_refused base (Ok found) (Ok rows) transition at = tt
  read_refused base (Ok found) (Err error) transition at = inl transition.0
  read_refused base (Err cause) result transition at =
      subst (λ (r : Result (Vec RowValue Global) TxnError). IfErr r (IsOwnReadRefused d base q)) (sym transition.0) (inr (cause, at, refl))

  pub read_left : (reply : Result Found DbError) (result : Result (Vec RowValue Global) TxnError) → RowsTransition mid q reply new result → IfErr result (IsQueryLeft core q new)
  read_left (Ok found) (Ok rows) transition = tt
  read_left (Ok found) (Err error) transition =
      inr (
        transition.0,
        transition.1
            ∙ (ap (λ (v : RwValue). record v { queried = v.queried ++ q ∷ []; reading = None }) asking
            ∙ ap (λ (r : Option Query). record core { queried = core.queried ++ q ∷ []; reading = r }) (sym none)),
      )
  read_left (Err cause) result transition =
      subst (λ (r : Result (Vec RowValue Global) TxnError). IfErr r (IsQueryLeft core q new)) (sym transition.0)
      (inl (transition.1 ∙ (ap (λ (v : RwValue). record v { reading = None }) asking ∙ ap (λ (r : Option Query). record core { reading = r }) (sym none))))

  pub read_call : (reply : Result Found DbError) (result : Result (Vec RowValue Global) TxnError) → RowsTransition mid q reply new result → new.call ≡ core.call
  read_call (Ok found) (Ok rows) transition = ap (λ (v : RwValue). v.call) transition.1 ∙ ap (λ (v : RwValue). v.call) asking
  read_call (Ok found) (Err error) transition = ap (λ (v : RwValue). v.call) transition.1 ∙ ap (λ (v : RwValue). v.call) asking
  read_call (Err cause) result transition = ap (λ (v : RwValue). v.call) transition.1 ∙ ap (λ (v : RwValue). v.call) asking

  pub read_rests : (reply : Result Found DbError) (result : Result (Vec RowValue Global) TxnError) → RowsTransition mid q reply new result → new.reading ≡ None
  read_rests (Ok found) (Ok rows) transition = ap (λ (v : RwValue). v.reading) transition.1
  read_rests (Ok found) (Err error) transition = ap (λ (v : RwValue). v.reading) transition.1
  read_rests (Err cause) result transition = ap (λ (v : RwValue). v.reading) transition.1
