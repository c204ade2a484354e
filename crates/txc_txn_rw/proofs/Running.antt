-- How a call was led, step by step.
use Rattle.std.proofs.Common.{◌≡◌, ◌⊎◌, inl, inr, ℕ, List, [], ◌∷◌, ◌++◌, Some, None, Ok, Err, refl, sym, ap, subst, ◌∙◌, append-nil, append_assoc, Option}
use Rattle.std.specs.Prelude.{Result, Vec, IfErr, IfOk}
use Rattle.std.specs.declared.alloc.Global.{Global}
use Rattle.std.proofs.lemmas.Grind.{flat_map-append}
use Rattle.txc_stream.specs.Names.{Name}
use Rattle.txc_rows.specs.declared.query.Query.{Query}
use Rattle.txc_rows.specs.States.{RowValue, State, answer}
use Rattle.txc_validity.specs.declared.answer.Found.{Found}
use Rattle.txc_db.specs.declared.error.DbError.{DbError}
use Rattle.txc_db.specs.Calls.{IsQueryRefused}
use Rattle.txc_db.specs.DatabaseReply.{MayRefuse}
use Rattle.txc_app.specs.Eval.{Next}
use Rattle.txc_call.specs.declared.need.Need.{Need}
use Rattle.txc_call.specs.declared.need.Need.TheVariants as needs
use Rattle.txc_call.specs.declared.reply.Reply.{Reply}
use Rattle.txc_call.specs.declared.reply.Reply.TheVariants as replies
use Rattle.txc_call.specs.Needs.{reply_reach, ReplyFits}
use Rattle.txc_call_registry.specs.Objects.{Objects}
use Rattle.txc_call.specs.CallMachine.{Calling}
use Rattle.txc_call.specs.MachineTurn.{Turn as CallTurn, AfterReply}
use Rattle.txc_txn_ports.specs.declared.error.TxnError.{TxnError}
use Rattle.txc_txn_ports.specs.declared.turn.Turn.TheVariants.{Ask, Ended}
use Rattle.txc_txn_ports.specs.Refusals.{refused_request}
use Rattle.txc_txn_rw.specs.declared.given.Given.TheVariants as given
use Rattle.txc_txn_rw.specs.RwCore.{QueryTurn, RwValue, queried_after}
use Rattle.txc_txn_rw.specs.Transitions.{query_in, queries_in, standing_of, RwCallTransition, EndsCall, IsLedAt, IsLedTo, IsQueryRefusedAt, IsQueryLeft, IsQueryRefusal, IsUncachedRun, IsStepAt, IsUncached, RowsTransition, RwStandingTransition, Step}

module _ (next : Next) (s : State) where
  led_more : (from mid end : CallTurn) (steps : List Step) (x : Step) → IsLedAt next s from steps mid → IsStepAt next s mid x end → IsLedAt next s from (steps ++ x ∷ []) end
  led_more from mid end [] x led step = (end, subst (λ (t : CallTurn). IsStepAt next s t x end) led step, refl)
  led_more from mid end (y ∷ steps) x led step = (led.0, led.1, led_more led.0 mid end steps x led.2 step)

  led_then : (from mid end : CallTurn) (one two : List Step) → IsLedAt next s from one mid → IsLedAt next s mid two end → IsLedAt next s from (one ++ two) end
  led_then from mid end [] two led on = subst (λ (t : CallTurn). IsLedAt next s t two end) led on
  led_then from mid end (y ∷ one) two led on = (led.0, led.1, led_then led.0 mid end one two led.2 on)

  -- no step yet
  pub not_led : (from : CallTurn) → IsLedTo next s from [] from
  not_led from = record { steps = []; led = refl; answered = refl }

  -- a step more
  pub led_on : (from mid end : CallTurn) (queries : List Query) (x : Step) → IsLedTo next s from queries mid → IsStepAt next s mid x end → IsLedTo next s from (queries ++ query_in x.need) end
  led_on from mid end queries x h step = record {
    steps = h.steps ++ x ∷ [];
    led = led_more from mid end h.steps x h.led step;
    answered =
        flat_map-append (λ (y : Step). query_in y.need) h.steps (x ∷ [])
        ∙ ap (λ (qs : List Query). qs ++ (query_in x.need ++ [])) h.answered
        ∙ ap (λ (qs : List Query). queries ++ qs) (append-nil (query_in x.need));
  }

  -- some steps, and then others
  pub led_both : (from mid end : CallTurn) (one two : List Query) → IsLedTo next s from one mid → IsLedTo next s mid two end → IsLedTo next s from (one ++ two) end
  led_both from mid end one two h on = record {
    steps = h.steps ++ on.steps;
    led = led_then from mid end h.steps on.steps h.led on.led;
    answered =
        flat_map-append (λ (y : Step). query_in y.need) h.steps on.steps
        ∙ ap (λ (qs : List Query). qs ++ queries_in on.steps) h.answered
        ∙ ap (λ (qs : List Query). one ++ qs) on.answered;
  }

-- a reply that hands in nothing is that of no cache, and to no query
pub uncached_of : (s : State) (need : Need) (reply : Reply) → ReplyFits need reply → reply_reach reply ≡ None → IsUncached s need reply × (query_in need ≡ [])
uncached_of s (needs.Lookup k) replies.Miss fits none = (refl, refl)
uncached_of s (needs.Lookup k) (replies.Hit hit) fits none = cc none
uncached_of s (needs.Query q) (replies.Found found) fits none = cc none
uncached_of s (needs.Insert e) replies.Inserted fits none = (refl, refl)
uncached_of s need reply fits none = absurd fits

-- a call that hands in nothing goes on
pub led_by_none : (next : Next) (s : State) (from : CallTurn) (call : Calling) (objects : Objects) (end : CallTurn) (need : Need) (reply : Reply)
    → call.need ≡ Some need → ReplyFits need reply → reply_reach reply ≡ None
    → ((n : Need) → call.need ≡ Some n → AfterReply next call.frames call.asked objects n reply end)
    → IsLedTo next s from [] (standing_of call objects) → IsLedTo next s from [] end
led_by_none next s from call objects end need reply is fits none answer h =
    let both = uncached_of s need reply fits none in
    subst (λ (qs : List Query). IsLedTo next s from qs end) both.1
    (led_on next s from (standing_of call objects) end [] (record { need = need; reply = reply }) h (is, both.0, answer need is))

-- a call goes on with what was found for its query
pub led_by_found : (next : Next) (s : State) (call : Calling) (objects : Objects) (end : CallTurn) (q : Query) (found told : Found)
    → call.need ≡ Some (needs.Query q) → told.rows ≡ found.rows → found.rows.items ≡ answer q s
    → ((n : Need) → call.need ≡ Some n → AfterReply next call.frames call.asked objects n (replies.Found told) end)
    → IsLedTo next s (standing_of call objects) (q ∷ []) end
led_by_found next s call objects end q found told is rows right after =
    led_on next s (standing_of call objects) (standing_of call objects) end [] (record { need = needs.Query q; reply = replies.Found told }) (not_led next s (standing_of call objects))
    (is, ap (λ (v : Vec RowValue Global). v.items) rows ∙ right, after (needs.Query q) is)

-- the reply that is the answer
pub same_found : (reply : Result Found DbError) (one other : Found) → reply ≡ Ok one → reply ≡ Ok other → one ≡ other
same_found reply one other is is' =
    let two : Ok one ≡ Ok other = sym is ∙ is' in
    cc two

-- ---- runs

-- the database refused what the call needs
abbrev pub IsAskRefused : Name → ℕ → CallTurn → QueryTurn → Type 0
IsAskRefused row base (Ok standing) (Ended (Err error)) = (q : Query) × (standing.need ≡ Some (needs.Query q)) × IsQueryRefusedAt row base q error
IsAskRefused row base stands turn = ⊥

-- a call came so far, and the core did this last
pub record IsRunSo (next : Next) (row : Name) (s : State) (from : CallTurn) (old new : RwValue) (objects : Objects) (turn : QueryTurn) : Type 0 where
  pub queries : List Query
  pub stands : CallTurn
  pub led : IsLedTo next s from queries stands
  pub queried : new.queried ≡ old.queried ++ queries
  pub does : RwStandingTransition stands new objects turn ⊎ IsAskRefused row old.base stands turn

-- as the core begins
pub run_begins : (next : Next) (row : Name) (s : State) (from : CallTurn) (old new : RwValue) (objects : Objects) (turn : QueryTurn) → new.queried ≡ old.queried
    → RwCallTransition next s from [] new objects turn → IsRunSo next row s from old new objects turn
run_begins next row s from old new objects turn same transition = record {
  queries = [];
  stands = transition.0;
  led = transition.1;
  queried = same ∙ sym (append-nil old.queried);
  does = inl transition.2;
}

-- as it ends, with its value or a refusal
ends : (row : Name) (base : ℕ) (stands : CallTurn) (new : RwValue) (objects : Objects) (result : Result (List ℕ) TxnError)
    → RwStandingTransition stands new objects (Ended result) ⊎ IsAskRefused row base stands (Ended result) → EndsCall row base stands objects result
ends row base (Ok standing) new objects (Ok v) (inl h) = h
ends row base (Ok standing) new objects (Ok v) (inr h) = absurd h
ends row base (Ok standing) new objects (Err e) (inl h) = inl h
ends row base (Ok standing) new objects (Err e) (inr h) = inr h
ends row base (Err cause) new objects result (inl h) = cc h
ends row base (Err cause) new objects result (inr h) = absurd h

pub run_over : (next : Next) (row : Name) (s : State) (from : CallTurn) (old new : RwValue) (objects : Objects) (result : Result (List ℕ) TxnError)
    → IsRunSo next row s from old new objects (Ended result) → IsUncachedRun next row s from old new objects result
run_over next row s from old new objects result h = record {
  queries = h.queries;
  stands = h.stands;
  led = h.led;
  queried = h.queried;
  ended = ends row old.base h.stands new objects result h.does;
}

-- a core that asks: its call stands as it came so far
run_asks : (next : Next) (row : Name) (s : State) (from : CallTurn) (old core : RwValue) (objects : Objects) (asked : Query) (queries : List Query) (stands : CallTurn)
    → IsLedTo next s from queries stands → RwStandingTransition stands core objects (Ask asked) ⊎ IsAskRefused row old.base stands (Ask asked)
    → IsLedTo next s from queries (standing_of core.call objects)
run_asks next row s from old core objects asked queries (Ok standing) led (inl does) = subst (λ (t : CallTurn). IsLedTo next s from queries t) (sym does) led
run_asks next row s from old core objects asked queries (Ok standing) led (inr does) = absurd does
run_asks next row s from old core objects asked queries (Err e) led (inl does) = cc does
run_asks next row s from old core objects asked queries (Err e) led (inr does) = absurd does

-- and goes on with the database's answer
pub run_goes_on : (next : Next) (row : Name) (s : State) (from : CallTurn) (old core new : RwValue) (objects objects' : Objects) (turn : QueryTurn) (reply : Result Found DbError) (q : Query)
    → IsRunSo next row s from old core objects (Ask q) → core.reading ≡ Some q → core.call.need ≡ Some (needs.Query q)
    → new.queried ≡ queried_after core.queried core.reading reply
    → IfErr reply (MayRefuse row (λ d. IsQueryRefused d q old.base))
    → ((e : DbError) → reply ≡ Err e → turn ≡ Ended (Err (refused_request e)))
    → ((f : Found) → reply ≡ Ok f → RwCallTransition next s (standing_of core.call objects) (q ∷ []) new objects' turn)
    → IsRunSo next row s from old new objects' turn
run_goes_on next row s from old core new objects objects' turn (Ok f) q h reading need queried refused is transition =
    let on = transition f refl in
    let all : new.queried ≡ core.queried ++ q ∷ [] = queried ∙ ap (λ (r : Option Query). queried_after core.queried r (Ok f)) reading in
    record {
      queries = h.queries ++ q ∷ [];
      stands = on.0;
      led = led_both next s from (standing_of core.call objects) on.0 h.queries (q ∷ []) (run_asks next row s from old core objects q h.queries h.stands h.led h.does) on.1;
      queried = all ∙ ap (λ (qs : List Query). qs ++ q ∷ []) h.queried ∙ append_assoc old.queried h.queries (q ∷ []);
      does = inl on.2;
    }
run_goes_on next row s from old core new objects objects' turn (Err e) q h reading need queried refused is transition =
    let all : new.queried ≡ core.queried = queried ∙ ap (λ (r : Option Query). queried_after core.queried r (Err e)) reading in
    record {
      queries = h.queries;
      stands = standing_of core.call objects;
      led = run_asks next row s from old core objects q h.queries h.stands h.led h.does;
      queried = all ∙ h.queried;
      does = inr (subst (λ (t : QueryTurn). IsAskRefused row old.base (standing_of core.call objects) t) (sym (is e refl)) (q, need, (e, refused, refl)));
    }

-- ---- the transaction's own query

-- from the core that was asked it, what comes of the database's answer, said of the core before
module _ (old asking new : RwValue) (q : Query) (same : asking ≡ record old { reading = Some q }) (none : old.reading ≡ None) where
  pub query_after : (reply : Result Found DbError) (result : Result (Vec RowValue Global) TxnError) → RowsTransition asking q reply new result
      → IfOk result (λ rows. new ≡ record old { queried = old.queried ++ q ∷ []; answers = old.answers ++ given.Rows q rows.items ∷ [] })
  query_after (Ok found) (Ok rows) transition =
      transition.1
      ∙ ap (λ (c : RwValue). record c { queried = c.queried ++ q ∷ []; answers = c.answers ++ given.Rows q rows.items ∷ []; reading = None }) same
      ∙ ap (λ (r : Option Query). record old { queried = old.queried ++ q ∷ []; answers = old.answers ++ given.Rows q rows.items ∷ []; reading = r }) (sym none)
  query_after (Err cause) (Ok rows) transition = cc transition.0
  query_after reply (Err error) transition = tt

  pub query_left : (reply : Result Found DbError) (result : Result (Vec RowValue Global) TxnError) → RowsTransition asking q reply new result → IfErr result (IsQueryLeft old q new)
  query_left reply (Ok rows) transition = tt
  query_left (Ok found) (Err error) transition = inr (
    transition.0,
    transition.1
        ∙ ap (λ (c : RwValue). record c { queried = c.queried ++ q ∷ []; reading = None }) same
        ∙ ap (λ (r : Option Query). record old { queried = old.queried ++ q ∷ []; reading = r }) (sym none),
  )
  query_left (Err cause) (Err error) transition = inl (
      transition.1 ∙ ap (λ (c : RwValue). record c { reading = None }) same ∙ ap (λ (r : Option Query). record old { reading = r }) (sym none)
      )

  pub query_refused : (row : Name) (reply : Result Found DbError) (result : Result (Vec RowValue Global) TxnError) → IfErr reply (MayRefuse row (λ d. IsQueryRefused d q old.base))
      → RowsTransition asking q reply new result → IfErr result (IsQueryRefusal row old.base q)
  query_refused row reply (Ok rows) refused transition = tt
  query_refused row (Ok found) (Err error) refused transition = inl transition.0
  query_refused row (Err cause) (Err error) refused transition = let is : error ≡ refused_request cause = cc transition.0 in inr (cause, refused, is)
