-- An open read-write transaction, step by step.
use Rattle.std.proofs.Common.{◌≡◌, ◌∙◌, inl, inr, ℕ, ◌+◌, ◌-◌, arith, List, [], ◌∷◌, ◌++◌, length, take, Option, Some, None, Ok, Err, refl, ap, sym, subst}
use Rattle.std.specs.Prelude.{option_map, Result, Vec}
use Rattle.std.specs.declared.alloc.Global.{Global}
use Rattle.std.proofs.lemmas.List.{length_push, take_at}
use Rattle.txc_tags.specs.Keys.{Call}
use Rattle.txc_rows.specs.declared.query.Query.{Query}
use Rattle.txc_rows.specs.declared.query.Change.{Change}
use Rattle.txc_rows.specs.RowTags.{query_tag}
use Rattle.txc_rows.specs.States.{RowValue, answer}
use Rattle.txc_validity.specs.declared.answer.Found.{Found}
use Rattle.txc_db.specs.declared.error.DbError.{DbError}
use Rattle.txc_db.specs.History.{History, state_at}
use Rattle.txc_app.specs.Eval.{Next}
use Rattle.txc_call_registry.specs.Objects.{Objects}
use Rattle.txc_txn_ports.specs.declared.error.TxnError.{TxnError}
use Rattle.txc_txn_ports.specs.declared.turn.Turn.TheVariants as turns
use Rattle.txc_txn_ports.specs.Turns.{IsAsk}
use Rattle.txc_txn_rw.specs.declared.given.Given.{Given}
use Rattle.txc_txn_rw.specs.declared.given.Given.TheVariants as given
use Rattle.txc_txn_rw.specs.RwCore.{answers_after, queried_after, IsRightReply, IsRw, IsRwIdle, IsRwTurn, QueryTurn, RwHolds, RwValue}
use Rattle.txc_txn_rw.specs.Transitions.{RowsTransition}
use Rattle.txc_txn_ports.specs.Refusals.{refused_request}
use Rattle.txc_world.specs.WriterStep.{with_rows, FindTransitionRw, IsRead}
use Rattle.txc_world.specs.declared.actor.OpenCall.{OpenCall}
use Rattle.txc_world.specs.ActorValues.{opened}
use Rattle.txc_world.specs.Observation.{given_of, writing, writing_on, Writing}
use Rattle.txc_world.specs.Ports.{PortsValue}
use Rattle.txc_world.specs.PortRequests.{QueryTransition}
use Rattle.txc_world.specs.Actors.{told_answers, told_by_turn, HasRwCall, IsNoted}

pub writing_same : (b b' : ℕ) (k k' : Option Call) (a a' : List Given) (c c' : List Change) → b ≡ b' → k ≡ k' → a ≡ a' → c ≡ c'
    → writing (record { base = b; call = k; answers = a; changes = c }) ≡ writing (record { base = b'; call = k'; answers = a'; changes = c' })
writing_same b b' k k' a a' c c' p q r s = rw (p, q, r, s) refl

-- without the last answer
all_but_last : (told now : List Given) (x : Given) → now ≡ told ++ x ∷ [] → take (length now - 1) now ≡ told
all_but_last told now x is =
    let long : length (told ++ x ∷ []) ≡ length told + 1 = length_push told x in
    let less : length told ≡ length (told ++ x ∷ []) - 1 = omega (arith, long) in
    ap (λ (l : List Given). take (length l - 1) l) is ∙ take_at told (x ∷ []) (length (told ++ x ∷ []) - 1) less

-- once a call has ended at its start, all answers but its value are shown
pub told_at_start : (told now : List Given) (key : Call) (turn : QueryTurn) → now ≡ answers_after told key turn → told_by_turn turn now ≡ told
told_at_start told now key (turns.Ask query) is = is
told_at_start told now key (turns.Ended (Ok value)) is = all_but_last told now (given.Value key value) is
told_at_start told now key (turns.Ended (Err error)) is = is

pub answers_at_start : (told now : List Given) (key key' : Call) (turn : QueryTurn) → key ≡ key' → now ≡ answers_after told key turn
    → now ≡ answers_after (told_by_turn turn now) key' turn
answers_at_start told now key key' turn same is =
    subst (λ (k : Call). now ≡ answers_after (told_by_turn turn now) k turn) same
    (subst (λ (xs : List Given). now ≡ answers_after xs key turn) (sym (told_at_start told now key turn is)) is)

-- ---- what is asked

-- the database's answer at the base is right
pub right_answer : (p : PortsValue) (c : RwValue) (query : Query) (base : ℕ) (found : Result Found DbError) → QueryTransition query base p found → base ≡ c.base
    → c.reading ≡ Some query → IsRightReply p.database.history c found
right_answer p c query base (Ok found) transition at asked = λ q is.
    let same : query ≡ q = (let both : Some query ≡ Some q = sym asked ∙ is in cc both) in
    record {
      rows = transition.0.answer.rows ∙ (ap (λ (n : ℕ). answer query (state_at p.database.history n)) at ∙ ap (λ (x : Query). answer x (state_at p.database.history c.base)) same);
      tag = transition.0.tag ∙ ap (λ (x : Query). query_tag x ∷ []) same;
    }
right_answer p c query base (Err error) transition at asked = tt

-- ---- changes

-- other changes leave what is true of a core
pub fits_with : (next : Next) (os : Objects) (c c' : RwValue) (changes : List Change) → c' ≡ record c { changes = changes } → IsRw next os c → IsRw next os c'
fits_with next os c c' changes is h = subst (λ (v : RwValue). IsRw next os v) (sym is) (record { call = h.call; at_one = h.at_one; reading = h.reading })

pub holds_with : (next : Next) (L : History) (os : Objects) (c c' : RwValue) (changes : List Change) → c' ≡ record c { changes = changes } → RwHolds next L os c → RwHolds next L os c'
holds_with next L os c c' changes is h = subst (λ (v : RwValue). RwHolds next L os v) (sym is) (record { within = h.within; answers = h.answers; call = h.call })

pub still_open : (c c' : RwValue) (changes : List Change) (call : Option (OpenCall Query)) → call ≡ None → c' ≡ record c { changes = changes } → HasRwCall c call → HasRwCall c' call
still_open c c' changes call none is h =
    let idle : IsRwIdle c = subst (λ (o : Option (OpenCall Query)). HasRwCall c o) none h in
    let idle' : IsRwIdle c' = subst (λ (v : RwValue). IsRwIdle v) (sym is) idle in
    subst (λ (o : Option (OpenCall Query)). HasRwCall c' o) (sym none) idle'

-- ---- what comes of each step

pub answered_at : (query : Query) (stamp base : ℕ) (p : PortsValue) (found : Result Found DbError) → stamp ≡ base → QueryTransition query stamp p found → QueryTransition query base p found
answered_at query stamp base p found same transition = subst (λ (n : ℕ). QueryTransition query n p found) same transition

pub answered_rows : (query : Query) (base : ℕ) (p : PortsValue) (found : Result Found DbError) (f : Found) → QueryTransition query base p found → found ≡ Ok f
    → f.rows.items ≡ answer query (state_at p.database.history base)
answered_rows query base p found f transition is = (subst (λ (r : Result Found DbError). QueryTransition query base p r) is transition).0.answer.rows

pub queried_so : (queried : List Query) (reading : Option Query) (q : Query) (found : Result Found DbError) (now : List Query) → reading ≡ Some q
    → now ≡ queried_after queried reading found → now ≡ queried_after queried (Some q) found
queried_so queried reading q found now is h = subst (λ (r : Option Query). now ≡ queried_after queried r found) is h

-- ---- a query of its own

-- what comes of the database's answer, said of the core before it was asked
module _ (query : Query) (p : PortsValue) (old asking new : RwValue) (same : asking ≡ record old { reading = Some query }) (none : old.reading ≡ None) where
  pub own_leads : (found : Result Found DbError) (result : Result (Vec RowValue Global) TxnError) → QueryTransition query old.base p found → RowsTransition asking query found new result
      → FindTransitionRw query old.base p result
  own_leads (Ok f) (Ok rows) transition on = (f, transition, on.0)
  own_leads (Ok f) (Err e) transition on = inl on.0
  own_leads (Err cause) (Ok rows) transition on = cc on.0
  own_leads (Err cause) (Err e) transition on = let is : e ≡ refused_request cause = cc on.0 in inr (cause, transition, is)

  pub own_read : (found : Result Found DbError) (result : Result (Vec RowValue Global) TxnError) → RowsTransition asking query found new result → IsRead query old.queried new.queried result
  own_read (Ok f) (Ok rows) on = ap (λ (c : RwValue). c.queried) on.1 ∙ ap (λ (c : RwValue). c.queried ++ query ∷ []) same
  own_read (Ok f) (Err e) on = inl (ap (λ (c : RwValue). c.queried) on.1 ∙ ap (λ (c : RwValue). c.queried ++ query ∷ []) same)
  own_read (Err cause) (Ok rows) on = cc on.0
  own_read (Err cause) (Err e) on = inr (ap (λ (c : RwValue). c.queried) on.1 ∙ ap (λ (c : RwValue). c.queried) same)

  pub own_answers : (found : Result Found DbError) (result : Result (Vec RowValue Global) TxnError) → RowsTransition asking query found new result
      → new.answers ≡ with_rows query old.answers result
  own_answers (Ok f) (Ok rows) on = ap (λ (c : RwValue). c.answers) on.1 ∙ ap (λ (c : RwValue). c.answers ++ given.Rows query rows.items ∷ []) same
  own_answers (Ok f) (Err e) on = ap (λ (c : RwValue). c.answers) on.1 ∙ ap (λ (c : RwValue). c.answers) same
  own_answers (Err cause) (Ok rows) on = cc on.0
  own_answers (Err cause) (Err e) on = ap (λ (c : RwValue). c.answers) on.1 ∙ ap (λ (c : RwValue). c.answers) same

  kept_so : new ≡ record asking { queried = new.queried; answers = new.answers; reading = None } → new ≡ record old { queried = new.queried; answers = new.answers }
  kept_so is =
      is
      ∙ ap (λ (c : RwValue). record c { queried = new.queried; answers = new.answers; reading = None }) same
      ∙ ap (λ (r : Option Query). record old { queried = new.queried; answers = new.answers; reading = r }) (sym none)

  pub own_same : (found : Result Found DbError) (result : Result (Vec RowValue Global) TxnError) → RowsTransition asking query found new result
      → new ≡ record old { queried = new.queried; answers = new.answers }
  own_same (Ok f) (Ok rows) on = kept_so (
      on.1
      ∙ ap (λ (qs : List Query). record asking { queried = qs; answers = asking.answers ++ given.Rows query rows.items ∷ []; reading = None }) (sym (ap (λ (c : RwValue). c.queried) on.1))
      ∙ ap (λ (xs : List Given). record asking { queried = new.queried; answers = xs; reading = None }) (sym (ap (λ (c : RwValue). c.answers) on.1))
      )
  own_same (Ok f) (Err e) on = kept_so (
      on.1
      ∙ ap (λ (qs : List Query). record asking { queried = qs; reading = None }) (sym (ap (λ (c : RwValue). c.queried) on.1))
      ∙ ap (λ (xs : List Given). record asking { queried = new.queried; answers = xs; reading = None }) (sym (ap (λ (c : RwValue). c.answers) on.1))
      )
  own_same (Err cause) result on = kept_so (
      on.1
      ∙ ap (λ (qs : List Query). record asking { queried = qs; reading = None }) (sym (ap (λ (c : RwValue). c.queried) on.1))
      ∙ ap (λ (xs : List Given). record asking { queried = new.queried; answers = xs; reading = None }) (sym (ap (λ (c : RwValue). c.answers) on.1))
      )

-- a core that asked its query is right as before
pub holds_asking : (next : Next) (L : History) (os : Objects) (c c' : RwValue) (query : Query) → c' ≡ record c { reading = Some query } → RwHolds next L os c → RwHolds next L os c'
holds_asking next L os c c' query is h = subst (λ (v : RwValue). RwHolds next L os v) (sym is) (record { within = h.within; answers = h.answers; call = h.call })

-- a query of its own leaves no call open
pub fits_queried : (next : Next) (os : Objects) (c c' : RwValue) → c' ≡ record c { queried = c'.queried; answers = c'.answers } → IsRw next os c → IsRw next os c'
fits_queried next os c c' is h = subst (λ (v : RwValue). IsRw next os v) (sym is) (record { call = h.call; at_one = h.at_one; reading = h.reading })

pub still_idle : (c c' : RwValue) → c' ≡ record c { queried = c'.queried; answers = c'.answers } → IsRwIdle c → IsRwIdle c'
still_idle c c' is idle = (ap (λ (v : RwValue). v.call.need) is ∙ idle.0, ap (λ (v : RwValue). v.reading) is ∙ idle.1)

-- ---- what comes of a turn

-- a call that asks is open with its turn; else none is open
pub rw_call_noted : (c : RwValue) (key : Call) (turn : QueryTurn) (call : Option (OpenCall Query)) (end : Option (Result (List ℕ) TxnError)) → IsNoted (opened key) turn call end
    → IsRwTurn c turn → (IsAsk turn → c.call.top ≡ key) → HasRwCall c call
rw_call_noted c key (turns.Ask query) call end noted turn goes_on =
    subst (HasRwCall c) (sym noted.0) (record { turn = turn; key = goes_on; answers = refl; not_lost = tt })
rw_call_noted c key (turns.Ended result) call end noted turn goes_on = subst (HasRwCall c) (sym noted.0) turn

-- what is shown of it
pub rw_observed_noted : (w : Writing) (base : ℕ) (answers : List Given) (changes : List Change) (key : Call) (turn : QueryTurn) (call : Option (OpenCall Query))
    (end : Option (Result (List ℕ) TxnError)) → IsNoted (opened key) turn call end → base ≡ w.base → w.call ≡ Some key → answers ≡ answers_after w.answers key turn → changes ≡ w.changes
    → writing (record { base = base; call = option_map (λ (c : OpenCall Query). c.key) call; answers = told_answers call answers; changes = changes }) ≡ writing (writing_on end w)
rw_observed_noted w base answers changes key (turns.Ask query) call end noted b k a d =
    rw (noted.0, noted.1) (writing_same base w.base (Some key) w.call answers w.answers changes w.changes b (sym k) a d)
rw_observed_noted w base answers changes key (turns.Ended (Ok value)) call end noted b k a d =
    rw (noted.0, noted.1) (writing_same base w.base None None answers (given_of w.call value w.answers) changes w.changes b refl
    (a ∙ sym (ap (λ (o : Option Call). given_of o value w.answers) k)) d)
rw_observed_noted w base answers changes key (turns.Ended (Err error)) call end noted b k a d =
    rw (noted.0, noted.1) (writing_same base w.base None None answers w.answers changes w.changes b refl a d)
