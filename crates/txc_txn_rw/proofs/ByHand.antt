-- What a transaction keeps whose caller runs the functions of its calls.
use Rattle.std.proofs.Common.{◌≡◌, ◌≢◌, inl, inr, ℕ, List, [], ◌∷◌, ◌++◌, take, Option, Some, None, IsSome, refl, sym, ap, subst, ◌∙◌}
use Rattle.txc_stamp.specs.Interval.{Interval}
use Rattle.std.specs.Prelude.{Result, Ok, Err}
use Rattle.txc_tags.specs.declared.tag.Tag.{Tag}
use Rattle.txc_tags.specs.Keys.{Call}
use Rattle.txc_txn_ports.specs.declared.error.TxnError.{TxnError}
use Rattle.txc_txn_ports.specs.declared.turn.Turn.TheVariants.{Ended}
use Rattle.txc_rows.specs.declared.query.Query.{Query}
use Rattle.txc_rows.specs.declared.query.Change.{Change}
use Rattle.txc_rows.specs.States.{State, answer}
use Rattle.txc_db.specs.History.{History, state_at}
use Rattle.txc_app.specs.AnswersSoFar.{IsRight, queries_of}
use Rattle.txc_app.specs.Claims.{HoldsOver}
use Rattle.txc_app.specs.Eval.{Next}
use Rattle.txc_call_registry.specs.Objects.{Objects, AllIdle}
use Rattle.txc_call.specs.declared.frame.Frame.{Frame}
use Rattle.txc_call.specs.declared.need.HeldAnswer.{HeldAnswer}
use Rattle.txc_call.specs.declared.need.Need.{Need}
use Rattle.txc_call.specs.declared.need.Need.TheVariants as needs
use Rattle.txc_call.specs.declared.need.Outcome.{Outcome}
use Rattle.txc_call.specs.declared.reply.Reply.{Reply}
use Rattle.txc_call.specs.declared.reply.Reply.TheVariants as replies
use Rattle.txc_call.specs.CallMachine.{Calling, CallHolds, InCall, IsCalling}
use Rattle.txc_call.specs.Frames.{answers_in, InAll}
use Rattle.txc_call.specs.Needs.{reply_reach, InNeed, NeedFits, NeedHolds, ReplyFits}
use Rattle.txc_call.specs.Reaches.{InReach}
use Rattle.txc_call.specs.CallSteps.{need_after, value_need, NeedsFunction}
use Rattle.txc_call.specs.MachineTurn.{outcome_of, rows_held}
use Rattle.txc_app.specs.declared.ask.Answer.TheVariants as answers
use Rattle.txc_validity.specs.declared.answer.Found.{Found}
use Rattle.txc_txn_rw.specs.Answers.{committed, state_of}
use Rattle.txc_txn_rw.specs.RwCore.{needs_no_node, only_one, QueryTurn, ReadingFits, IsRw, IsRwIdle, RwHolds, RwValue}
use Rattle.txc_txn_rw.specs.ByHand.{without_node, IsRwByHand, RwHandTransition, RwHearTransition, RwObjectsLeft}
use Rattle.txc_txn_rw.specs.Transitions.{standing_of, RwStandingTransition}
use Rattle.txc_txn_rw.proofs.Resting.{holds_at_rest}
use Rattle.txc_txn_rw.proofs.Reached.{changes_of, reached}

-- ---- without a node

-- the reply of no cache gives what the call needs without a node
pub passed_by : (frames : List Frame) (need : Need) (reply : Reply) → ReplyFits need reply → reply_reach reply ≡ None
    → Some (need_after frames need reply) ≡ without_node frames (Some need)
passed_by frames (needs.Lookup k) replies.Miss fits none = refl
passed_by frames (needs.Lookup k) (replies.Hit hit) fits none = cc none
passed_by frames (needs.Query q) (replies.Found found) fits none = cc none
passed_by frames (needs.Insert e) replies.Inserted fits none = refl
passed_by frames need reply fits none = absurd fits

pub passes_none : (frames : List Frame) (need : Option Need) → needs_no_node need → without_node frames need ≡ need
passes_none frames None free = refl
passes_none frames (Some (needs.Lookup k)) free = absurd free
passes_none frames (Some (needs.Query q)) free = refl
passes_none frames (Some (needs.Insert e)) free = absurd free
passes_none frames (Some (needs.Value o)) free = refl
passes_none frames (Some (needs.Begin k)) free = refl
passes_none frames (Some (needs.Resume x)) free = refl

value_free : (frames : List Frame) (o : Outcome) → needs_no_node (Some (value_need frames o))
value_free [] o = tt
value_free (frame ∷ frames) o = tt

pub without_is_free : (frames : List Frame) (need : Option Need) → needs_no_node (without_node frames need)
without_is_free frames None = tt
without_is_free frames (Some (needs.Lookup k)) = tt
without_is_free frames (Some (needs.Query q)) = tt
without_is_free frames (Some (needs.Insert e)) = value_free frames (outcome_of e.key e.value e.reach e.tags)
without_is_free frames (Some (needs.Value o)) = tt
without_is_free frames (Some (needs.Begin k)) = tt
without_is_free frames (Some (needs.Resume x)) = tt

pub without_is_some : (frames : List Frame) (need : Option Need) → IsSome need → IsSome (without_node frames need)
without_is_some frames None some = some
without_is_some frames (Some (needs.Lookup k)) some = refl
without_is_some frames (Some (needs.Query q)) some = refl
without_is_some frames (Some (needs.Insert e)) some = refl
without_is_some frames (Some (needs.Value o)) some = refl
without_is_some frames (Some (needs.Begin k)) some = refl
without_is_some frames (Some (needs.Resume x)) some = refl

-- what needs no node, and is neither a query nor a value, is a function
pub runs_else : (need : Option Need) → IsSome need → needs_no_node need → ((q : Query) → need ≢ Some (needs.Query q)) → ((o : Outcome) → need ≢ Some (needs.Value o)) → NeedsFunction need
runs_else None some free no_query no_value = cc some
runs_else (Some (needs.Lookup k)) some free no_query no_value = free
runs_else (Some (needs.Query q)) some free no_query no_value = absurd (no_query q refl)
runs_else (Some (needs.Insert e)) some free no_query no_value = free
runs_else (Some (needs.Value o)) some free no_query no_value = absurd (no_value o refl)
runs_else (Some (needs.Begin k)) some free no_query no_value = tt
runs_else (Some (needs.Resume x)) some free no_query no_value = tt

-- ---- what fits

-- a core whose call was given up
pub given_up_fits : (next : Next) (after : Objects) (c : RwValue) → c.call.frames ≡ [] → c.call.need ≡ None → c.reading ≡ None → AllIdle after → IsRwByHand next after c
given_up_fits next after c empty none unread idle = record {
  call = subst (λ (n : Option Need). NeedFits next after c.call.top n c.call.frames) (sym none) (empty, idle);
  at_one = subst (λ (n : Option Need). InNeed 1 n c.call.frames) (sym none) (tt, subst (λ (fs : List Frame). InAll 1 fs) (sym empty) tt);
  reading = inl (subst (λ (r : Option Query). ReadingFits r c.call.need) (sym unread) none);
}

-- a core that asks its call's query
pub asking_fits : (next : Next) (objects : Objects) (c : RwValue) (q : Query) → c.call.need ≡ Some (needs.Query q) → IsCalling next objects c.call → InCall 1 c.call
    → IsRwByHand next objects (record c { reading = Some q })
asking_fits next objects c q is calling at_one = record {
  call = calling;
  at_one = at_one;
  reading = inl (subst (λ (n : Option Need). ReadingFits (Some q) n) (sym is) refl);
}

-- a core whose call has just begun
pub begun_fits : (next : Next) (objects : Objects) (c : RwValue) (k : Call) → c.call ≡ record { top = k; asked = 0; frames = []; need = Some (needs.Begin k) } → IsCalling next objects c.call
    → c.reading ≡ None → IsRwByHand next objects c
begun_fits next objects c k is calling unread = record {
  call = calling;
  at_one = subst (λ (call : Calling). InCall 1 call) (sym is) (tt, tt);
  reading = inr (unread, subst (λ (call : Calling). NeedsFunction call.need) (sym is) tt);
}

-- a core whose call has ended with this
module _ (next : Next) (objects after : Objects) (c : RwValue) (idle : IsRwIdle c) (fits : IsRw next objects c) where
  ended_fits : AllIdle after → IsRwByHand next after c
  ended_fits free = record {
    call = subst (λ (n : Option Need). NeedFits next after c.call.top n c.call.frames) (sym idle.0) ((subst (λ (n : Option Need). NeedFits next objects c.call.top n c.call.frames) idle.0 fits.call).0, free);
    at_one = fits.at_one;
    reading = inl fits.reading;
  }

  same_fits : IsRwByHand next objects c
  same_fits = record { call = fits.call; at_one = fits.at_one; reading = inl fits.reading }

  pub kept_fits : (r : Result (List ℕ) TxnError) → RwObjectsLeft objects (Some (Ended r)) after → IsRwByHand next after c
  kept_fits (Ok value) left = subst (λ (os : Objects). IsRwByHand next os c) (sym left) same_fits
  kept_fits (Err error) left = ended_fits left

  pub kept_holds : (L : History) → RwHolds next L objects c → RwHolds next L after c
  kept_holds L h = holds_at_rest next L objects after c (subst (λ (n : Option Need). NeedFits next objects c.call.top n c.call.frames) idle.0 fits.call).0 idle.0 h

-- ---- what comes of an ask

pub value_settled : (need : Option Need) (o : Outcome) → need ≡ Some (needs.Value o) → ¬ (NeedsFunction need)
value_settled need o is runs = subst (λ (n : Option Need). NeedsFunction n) is runs

pub query_settled : (need : Option Need) (q : Query) → need ≡ Some (needs.Query q) → ¬ (NeedsFunction need)
query_settled need q is runs = subst (λ (n : Option Need). NeedsFunction n) is runs

module _ (old mid : Calling) (objects : Objects) (new : RwValue) (is : mid ≡ record old { need = without_node old.frames old.need }) where
  -- the core asks, or its call has ended
  pub hand_turns : (turn : QueryTurn) → (¬ (NeedsFunction mid.need)) → RwStandingTransition (standing_of mid objects) new objects turn
      → RwHandTransition (standing_of old objects) new (Some turn)
  hand_turns turn settled transition = (
    subst (λ (call : Calling). ¬ (NeedsFunction call.need)) is settled,
    subst (λ (call : Calling). RwStandingTransition (standing_of call objects) new objects turn) is transition,
  )

  -- the call needs a function
  pub hand_waits : new.call ≡ mid → RwHandTransition (standing_of old objects) new None
  hand_waits at =
      let same = at ∙ is in
      (ap (λ (call : Calling). call.frames) same, ap (λ (call : Calling). call.asked) same, ap (λ (call : Calling). call.need) same)

-- what comes of the rows of its query, as the call gets them
pub heard_leads : (was : RwValue) (q : Query) (found got : Found) (queried : List Query) (call : Calling) (reading : Option Query)
    → got.rows ≡ found.rows → got.tags ≡ found.tags → got.reach ≡ only_one → queried ≡ was.queried ++ q ∷ []
    → call ≡ record was.call { need = Some (needs.Resume (rows_held got)) } → reading ≡ None
    → RwHearTransition was q (Ok found) (record was { queried = queried; call = call; reading = reading }) None
heard_leads was q found got queried call reading rows tags reach more is none =
    let held : rows_held got ≡ record { answer = answers.Rows found.rows.items; reach = Some only_one; tags = found.tags } =
    λ i. record { answer = answers.Rows ((rows i).items); reach = Some (reach i); tags = tags i } in
    let given : call ≡ record was.call { need = Some (needs.Resume (record { answer = answers.Rows found.rows.items; reach = Some only_one; tags = found.tags })) } =
    is ∙ ap (λ (x : HeldAnswer). record was.call { need = Some (needs.Resume x) }) held in
    (refl, λ i. record was { queried = more i; call = given i; reading = none i })

-- ---- the held answer

right_at : (L : History) (right : State → Type 0) (rests : State → List Query) (reach : Option Interval) (tags : List Tag) (t : ℕ)
    → HoldsOver L right rests reach tags → InReach t reach → right (state_at L t)
right_at L right rests None tags t h inside = (h (state_at L t)).0
right_at L right rests (Some reach) tags t h inside = h.holds t inside

-- it is right at the base
pub held_at_base : (next : Next) (objects : Objects) (L : History) (c : RwValue) (x : HeldAnswer) (frame : Frame) (outer : List Frame)
    → InCall 1 c.call → RwHolds next L objects c → c.call.need ≡ Some (needs.Resume x) → c.call.frames ≡ frame ∷ outer
    → IsRight next frame.key.function (state_at L c.base) (next.says frame.key.function frame.key.args (answers_in objects frame.key.function)) x.answer
held_at_base next objects L c x frame outer at_one h is at =
    let asked = next.says frame.key.function frame.key.args (answers_in objects frame.key.function) in
    let changes : List Change = changes_of (take c.base L) in
    let same : state_at L c.base ≡ state_of changes = reached L c.base in
    let call : CallHolds next (committed changes) objects c.call = h.call changes (λ q there. ap (λ (s : State). answer q s) (sym same)) in
    let right : NeedHolds next (committed changes) objects (Some (needs.Resume x)) (frame ∷ outer) =
    subst (λ (fs : List Frame). NeedHolds next (committed changes) objects (Some (needs.Resume x)) fs) at
    (subst (λ (n : Option Need). NeedHolds next (committed changes) objects n c.call.frames) is call) in
    let inside : InReach 1 x.reach = (subst (λ (n : Option Need). InNeed 1 n c.call.frames) is at_one).0 in
    subst (λ (s : State). IsRight next frame.key.function s asked x.answer) (sym same)
    (right_at (committed changes) (λ (s : State). IsRight next frame.key.function s asked x.answer)
    (λ (s : State). queries_of next s asked) x.reach x.tags 1 right.0 inside)
