-- What is true of a transaction, step by step.
use Rattle.std.proofs.Common.{◌≡◌, ℕ, ◌≤◌, List, [], ◌∷◌, ◌++◌, length, length-append, take, Option, Some, None, refl, sym, ap, subst, ◌∙◌, arith}
use Rattle.std.specs.Prelude.{Vec, vec_len, vec_capacity, Result, Ok, Err}
use Rattle.std.specs.declared.alloc.Global.{Global}
use Rattle.std.proofs.lemmas.List.Elements.{All-nil, All-push, Contains-append_left, Contains-push}
use mathlib.Core.List.{IsPrefix}
use Rattle.txc_stamp.specs.Interval.{Interval}
use Rattle.txc_tags.specs.declared.tag.Tag.{Tag}
use Rattle.txc_tags.specs.Keys.{Call}
use Rattle.txc_tags.specs.Tags.{with_tag}
use Rattle.txc_rows.specs.RowTags.{query_tag}
use Rattle.txc_validity.specs.declared.answer.Found.{Found}
use Rattle.txc_db.specs.declared.error.DbError.{DbError}
use Rattle.txc_txn_ports.specs.declared.error.TxnError.{TxnError}
use Rattle.txc_txn_ports.specs.declared.error.TxnError.TheVariants.{Memory}
use Rattle.txc_txn_ports.specs.Refusals.{refused_request}
use Rattle.txc_rows.specs.declared.query.Query.{Query}
use Rattle.txc_rows.specs.declared.query.Change.{Change}
use Rattle.txc_rows.specs.States.{RowValue, State, answer}
use Rattle.txc_db.specs.History.{History, state_at}
use Rattle.txc_db.specs.Laws.{StatesStay}
use Rattle.txc_app.specs.declared.ask.Ask.TheVariants as asks
use Rattle.txc_app.specs.Eval.{Next, eval}
use Rattle.txc_app.specs.Claims.{RowsHold, ValueHolds}
use Rattle.txc_call_registry.specs.Objects.{Objects}
use Rattle.txc_call.specs.declared.need.Need.{Need}
use Rattle.txc_call.specs.declared.need.Need.TheVariants as needs
use Rattle.txc_call.specs.declared.need.Outcome.{Outcome}
use Rattle.txc_call.specs.Reaches.{InReach}
use Rattle.txc_call.proofs.Offered.{value_fits}
use Rattle.txc_call.specs.declared.reply.Reply.{Reply}
use Rattle.txc_call.specs.declared.reply.Reply.TheVariants as replies
use Rattle.txc_call.specs.Needs.{reach_of, reply_reach, NeedHolds, ReplyFits, ReplyHolds}
use Rattle.txc_call.specs.CallMachine.{Calling, CallHolds, InCall, IsCalling}
use Rattle.txc_txn_rw.specs.declared.given.Given.{Given}
use Rattle.txc_txn_rw.specs.declared.given.Given.TheVariants as given
use Rattle.txc_txn_rw.specs.Transitions.{RowsTransition}
use Rattle.txc_txn_rw.specs.Answers.{AgreeOn, AreRightIn, IsRightIn, committed, state_of}
use Rattle.txc_txn_rw.specs.RwCore.{RwValue, RwHolds, IsBegun, IsFoundAt, IsRwState, IsReady, IsRightReply, IsRw, only_one, tags_of}
use Rattle.txc_txn_rw.specs.declared.reading.Reading.{Reading}
use Rattle.txc_txn_rw.proofs.Lists.{tags_push}
use Rattle.txc_txn_rw.proofs.Reached.{changes_of, reached}

-- ---- agreement

agree_fewer : (qs : List Query) (q : Query) (s t : State) → AgreeOn (qs ++ q ∷ []) s t → AgreeOn qs s t
agree_fewer qs q s t h = λ p there. h p (Contains-append_left qs (q ∷ []) p there)

agree_last : (qs : List Query) (q : Query) (s t : State) → AgreeOn (qs ++ q ∷ []) s t → answer q t ≡ answer q s
agree_last qs q s t h = h q (Contains-push qs q)

-- ---- what is kept where the transaction moves on

module _ (next : Next) (L : History) (objects : Objects) (c : RwValue) (h : RwHolds next L objects c) where
  -- its call goes on
  pub holds_moved : (objects' : Objects) (call : Calling) (reading : Option Query)
      → ((M : History) → CallHolds next M objects c.call → CallHolds next M objects' call)
      → RwHolds next L objects' (record c { call = call; reading = reading })
  holds_moved objects' call reading on = record {
    within = h.within;
    answers = h.answers;
    call = λ changes agree. on (committed changes) (h.call changes agree);
  }

  -- it has one answer more
  pub holds_more : (objects' : Objects) (call : Calling) (x : Given)
      → ((changes : List Change) → AgreeOn c.queried (state_at L c.base) (state_of changes) → IsRightIn next (state_of changes) x)
      → ((M : History) → CallHolds next M objects c.call → CallHolds next M objects' call)
      → RwHolds next L objects' (record c { answers = c.answers ++ x ∷ []; call = call })
  holds_more objects' call x right on = record {
    within = h.within;
    answers = λ changes agree. All-push (IsRightIn next (state_of changes)) c.answers x (h.answers changes agree) (right changes agree);
    call = λ changes agree. on (committed changes) (h.call changes agree);
  }

  -- one query more was answered
  pub holds_queried : (q : Query) (objects' : Objects) (call : Calling) (queried : List Query) (reading : Option Query)
      → queried ≡ c.queried ++ q ∷ [] → reading ≡ None
      → ((changes : List Change) → answer q (state_of changes) ≡ answer q (state_at L c.base)
      → CallHolds next (committed changes) objects c.call → CallHolds next (committed changes) objects' call)
      → RwHolds next L objects' (record c { queried = queried; call = call; reading = reading })
  holds_queried q objects' call queried reading one_more none on =
      let fewer : (s t : State) → AgreeOn queried s t → AgreeOn (c.queried ++ q ∷ []) s t = λ s t agree. subst (λ (qs : List Query). AgreeOn qs s t) one_more agree in
      record {
        within = h.within;
        answers = λ changes agree.
            h.answers changes (agree_fewer c.queried q (state_at L c.base) (state_of changes) (fewer (state_at L c.base) (state_of changes) agree));
        call = λ changes agree.
            let both = fewer (state_at L c.base) (state_of changes) agree in
            on changes (agree_last c.queried q (state_at L c.base) (state_of changes) both)
            (h.call changes (agree_fewer c.queried q (state_at L c.base) (state_of changes) both));
      }

  -- each answer is right at the base, and where the queries give what they give there
  pub right_where : (t : ℕ) → AgreeOn c.queried (state_at L c.base) (state_at L t) → AreRightIn next (state_at L t) c.answers
  right_where t agree =
      let same = reached L t in
      subst (λ (s : State). AreRightIn next s c.answers) (sym same)
      (h.answers (changes_of (take t L)) (subst (λ (s : State). AgreeOn c.queried (state_at L c.base) s) same agree))

  pub right_at_base : AreRightIn next (state_at L c.base) c.answers
  right_at_base = right_where c.base (λ q there. refl)

-- its call is given up
pub at_rest_holds : (next : Next) (M : History) (objects : Objects) (call : Calling) → call.frames ≡ [] → call.need ≡ None → CallHolds next M objects call
at_rest_holds next M objects call empty none = rw (none, empty) tt

pub given_up : (next : Next) (L : History) (objects : Objects) (c : RwValue) → RwHolds next L objects c
    → (objects' : Objects) (call : Calling) (reading : Option Query) → call.frames ≡ [] → call.need ≡ None
    → RwHolds next L objects' (record c { call = call; reading = reading })
given_up next L objects c h objects' call reading empty none =
    holds_moved next L objects c h objects' call reading (λ M hold. at_rest_holds next M objects' call empty none)

-- a query of its own was answered, and its rows are one answer more, or were dropped
module _ (next : Next) (L : History) (objects : Objects) (c : RwValue) (q : Query) (h : RwHolds next L objects c) where
  counted_read : RwHolds next L objects (record c { queried = c.queried ++ q ∷ []; reading = None })
  counted_read = holds_queried next L objects c h q objects c.call (c.queried ++ q ∷ []) None refl refl (λ changes agree hold. hold)

  pub rows_lead : (c' : RwValue) (reply : Result Found DbError) (result : Result (Vec RowValue Global) TxnError) → c.reading ≡ Some q → IsRightReply L c reply → RowsTransition c q reply c' result
      → RwHolds next L objects c'
  rows_lead c' (Ok found) (Ok rows) asked right transition =
      subst (RwHolds next L objects) (sym transition.1)
      (holds_more next L objects (record c { queried = c.queried ++ q ∷ []; reading = None }) counted_read objects c.call (given.Rows q rows.items)
      (λ changes agree. transition.0 ∙ (right q asked).rows ∙ sym (agree_last c.queried q (state_at L c.base) (state_of changes) agree)) (λ M hold. hold))
  rows_lead c' (Ok found) (Err error) asked right transition = subst (RwHolds next L objects) (sym transition.1) counted_read
  rows_lead c' (Err cause) result asked right transition =
      subst (RwHolds next L objects) (sym transition.1) (holds_moved next L objects c h objects c.call None (λ M hold. hold))

-- what the core does with the answer to a query of its own
module _ (c : RwValue) (q : Query) (reply : Result Found DbError) (queried : List Query) (answers : List Given) (reading : Option Query) (none : reading ≡ None) where
  pub rows_refused : (cause : DbError) (error : TxnError) → reply ≡ Err cause → error ≡ refused_request cause
      → RowsTransition c q reply (record c { reading = reading }) (Err error)
  rows_refused cause error is so =
      let same : record c { reading = reading } ≡ record c { reading = None } = λ i. record c { reading = none i } in
      let both : Err error ≡ Err (refused_request cause) = ap Err so in
      subst (λ (r : Result Found DbError). RowsTransition c q r (record c { reading = reading }) (Err error)) (sym is) (both, same)

  pub rows_dropped : (found : Found) → reply ≡ Ok found → queried ≡ c.queried ++ q ∷ [] → answers ≡ c.answers
      → RowsTransition c q reply (record c { queried = queried; answers = answers; reading = reading }) (Err Memory)
  rows_dropped found is more left =
      let same : record c { queried = queried; answers = answers; reading = reading } ≡ record c { queried = c.queried ++ q ∷ []; reading = None } =
      λ i. record c { queried = more i; answers = left i; reading = none i } in
      subst (λ (r : Result Found DbError). RowsTransition c q r (record c { queried = queried; answers = answers; reading = reading }) (Err Memory)) (sym is) (refl, same)

  pub rows_kept : (found : Found) (copy : Vec RowValue Global) → reply ≡ Ok found → queried ≡ c.queried ++ q ∷ [] → copy.items ≡ found.rows.items
      → answers ≡ c.answers ++ given.Rows q found.rows.items ∷ []
      → RowsTransition c q reply (record c { queried = queried; answers = answers; reading = reading }) (Ok copy)
  rows_kept found copy is more copied kept =
      let one_more : answers ≡ c.answers ++ given.Rows q copy.items ∷ [] = kept ∙ ap (λ (rows : List RowValue). c.answers ++ given.Rows q rows ∷ []) (sym copied) in
      let same : record c { queried = queried; answers = answers; reading = reading } ≡ record c { queried = c.queried ++ q ∷ []; answers = c.answers ++ given.Rows q copy.items ∷ []; reading = None } =
      λ i. record c { queried = more i; answers = one_more i; reading = none i } in
      subst (λ (r : Result Found DbError). RowsTransition c q r (record c { queried = queried; answers = answers; reading = reading }) (Ok copy)) (sym is) (copied, same)

-- and so for the query that is waited for, whatever it is called
pub rows_led_for : (old was new : RwValue) (q p : Query) (reply : Result Found DbError) (result : Result (Vec RowValue Global) TxnError) → was ≡ old → was.reading ≡ Some q → old.reading ≡ Some p
    → RowsTransition was q reply new result → RowsTransition old p reply new result
rows_led_for old was new q p reply result same asked is transition =
    let two : Some q ≡ Some p = sym asked ∙ (ap (λ (w : RwValue). w.reading) same ∙ is) in
    let one : q ≡ p = cc in
    subst (λ (x : Query). RowsTransition old x reply new result) one (subst (λ (w : RwValue). RowsTransition w q reply new result) same transition)

-- ---- rows

-- rows that are those of the query hold at the stamp 1
pub rows_at_one : (changes : List Change) (q : Query) (rows : List RowValue) (tags : List Tag) → rows ≡ answer q (state_of changes)
    → RowsHold (committed changes) q rows (Some only_one) tags
rows_at_one changes q rows tags is = record {
  within = omega arith;
  holds = λ t inside.
      let low = inside.0 in
      let high = inside.1 in
      let one : t ≡ 1 = omega (arith, low, high) in
      subst (λ (n : ℕ). rows ≡ answer q (state_at (committed changes) n)) (sym one) is;
  covered = λ still t inside. cc still;
}

-- what was found for the query that was asked
pub reply_found : (L : History) (c : RwValue) (reply : Result Found DbError) (found : Found) (q : Query) → reply ≡ Ok found → c.reading ≡ Some q → IsRightReply L c reply
    → IsFoundAt L c.base q found
reply_found L c reply found q is asked right = subst (λ (r : Result Found DbError). IsRightReply L c r) is right q asked

-- and, as the call gets it, it holds at the stamp 1
pub found_at_one : (L : History) (base : ℕ) (changes : List Change) (q : Query) (found told : Found) → told.rows ≡ found.rows → told.reach ≡ only_one → IsFoundAt L base q found
    → answer q (state_of changes) ≡ answer q (state_at L base) → RowsHold (committed changes) q told.rows.items (Some told.reach) told.tags
found_at_one L base changes q found told rows reach right agree =
    subst (λ (i : Interval). RowsHold (committed changes) q told.rows.items (Some i) told.tags) (sym reach)
    (rows_at_one changes q told.rows.items told.tags (ap (λ (v : Vec RowValue Global). v.items) rows ∙ right.rows ∙ sym agree))

-- the query that was asked is what the call needs
pub need_of_asked : (c : RwValue) (q p : Query) → c.reading ≡ Some q → c.reading ≡ Some p → c.call.need ≡ Some (needs.Query p) → c.call.need ≡ Some (needs.Query q)
need_of_asked c q p asked is need =
    let two : Some p ≡ Some q = sym is ∙ asked in
    let same : p ≡ q = cc in
    need ∙ ap (λ (x : Query). Some (needs.Query x)) same

-- the query that was answered is kept
pub kept_more : (tags : List Tag) (old new : Vec Query Global) (changes : List Change) (reading after : Option Reading) (x : Reading) → IsRwState tags old changes reading
    → reading ≡ Some x → after ≡ None → new.items ≡ old.items ++ x.query ∷ [] → IsRwState x.tags new changes after
kept_more tags old new changes reading after x h is none items =
    let ready = subst (λ (r : Option Reading). IsReady r tags (vec_len old) (vec_capacity old)) is h.ready in
    record {
      exact = ready.0 ∙ ap (λ (set : List Tag). with_tag (query_tag x.query) set) h.exact ∙ sym (tags_push old.items x.query) ∙ ap (λ (qs : List Query). tags_of qs) (sym items);
      few = h.few;
      ready = rw none tt;
    }

-- ---- values

-- a value that holds at the stamp 1 is what the call gives
pub value_at_one : (next : Next) (changes : List Change) (k : Call) (bytes : List ℕ) (reach : Option Interval) (tags : List Tag)
    → InReach 1 reach → ValueHolds next (committed changes) k bytes reach tags → eval next k (state_of changes) ≡ Some bytes
value_at_one next changes k bytes None tags here h = (h (state_of changes)).0
value_at_one next changes k bytes (Some reach) tags here h = h.holds 1 here

module _ (next : Next) (objects : Objects) (call : Calling) (o : Outcome) (is : call.need ≡ Some (needs.Value o)) (calling : IsCalling next objects call) where
  pub done_fits : IsCalling next objects (record call { need = None })
  done_fits = let three = value_fits next objects call.top call.need call.frames o is calling in (three.0, three.1)

  pub done_holds : (M : History) → CallHolds next M objects call → CallHolds next M objects (record call { need = None })
  done_holds M h = (subst (λ (n : Option Need). NeedHolds next M objects n call.frames) is h).1

  pub done_value : (changes : List Change) → InCall 1 call → CallHolds next (committed changes) objects call → eval next o.key (state_of changes) ≡ Some o.value
  done_value changes inside h =
      value_at_one next changes o.key o.value o.reach o.tags
      (subst (λ (n : Option Need). InReach 1 (reach_of n)) is inside.0)
      (subst (λ (n : Option Need). NeedHolds next (committed changes) objects n call.frames) is h).0

-- a transaction whose call is done
module _ (next : Next) (objects : Objects) (c : RwValue) (o : Outcome) (is : c.call.need ≡ Some (needs.Value o)) (calling : IsCalling next objects c.call) (inside : InCall 1 c.call) where
  -- the call is given up, or its value was recorded
  pub ended : (answers : List Given) → c.reading ≡ None → IsRw next objects (record c { answers = answers; call = record c.call { need = None } })
  ended answers none = record {
    call = done_fits next objects c.call o is calling;
    at_one = (tt, inside.1);
    reading = rw none refl;
  }

  pub dropped : (L : History) → RwHolds next L objects c → RwHolds next L objects (record c { call = record c.call { need = None } })
  dropped L h = holds_moved next L objects c h objects (record c.call { need = None }) c.reading (done_holds next objects c.call o is calling)

  pub recorded : (L : History) → RwHolds next L objects c
      → RwHolds next L objects (record c { answers = c.answers ++ given.Value o.key o.value ∷ []; call = record c.call { need = None } })
  recorded L h =
      holds_more next L objects c h objects (record c.call { need = None }) (given.Value o.key o.value)
      (λ changes agree. done_value next objects c.call o is calling changes inside (h.call changes agree))
      (done_holds next objects c.call o is calling)

-- ---- beginnings, and longer histories

pub holds_at_first : (next : Next) (L : History) (objects : Objects) (base : ℕ) (c : RwValue) → IsBegun base c → base ≤ length L → RwHolds next L objects c
holds_at_first next L objects base c new within = record {
  within = let at_base = new.at_base in omega (arith, within, at_base);
  answers = λ changes agree. subst (λ (xs : List Given). AreRightIn next (state_of changes) xs) (sym new.answers) (All-nil (IsRightIn next (state_of changes)));
  call = λ changes agree. rw (new.need, new.frames) tt;
}

pub holds_in_longer : StatesStay → (next : Next) (L M : History) (objects : Objects) (c : RwValue) → IsPrefix L M → RwHolds next L objects c → RwHolds next M objects c
holds_in_longer stay next L M objects c begins h =
    let same : state_at M c.base ≡ state_at L c.base = subst (λ (l : History). state_at l c.base ≡ state_at L c.base) begins.1 (stay L begins.0 c.base h.within) in
    record {
      within =
          let within = h.within in
          let long = length-append L begins.0 in
          let all = ap (λ (l : History). length l) begins.1 in
          omega (arith, within, long, all);
      answers = λ changes agree. h.answers changes (subst (λ (s : State). AgreeOn c.queried s (state_of changes)) same agree);
      call = λ changes agree. h.call changes (subst (λ (s : State). AgreeOn c.queried s (state_of changes)) same agree);
    }

-- a reply that hands in nothing is right
pub nothing_handed_in : (next : Next) (L : History) (need : Need) (reply : Reply) → ReplyFits need reply → reply_reach reply ≡ None → ReplyHolds next L need reply
nothing_handed_in next L (needs.Lookup k) replies.Miss fits none = tt
nothing_handed_in next L (needs.Lookup k) (replies.Hit hit) fits none = cc none
nothing_handed_in next L (needs.Query q) (replies.Found found) fits none = cc none
nothing_handed_in next L (needs.Insert e) replies.Inserted fits none = tt
nothing_handed_in next L need reply fits none = absurd fits
