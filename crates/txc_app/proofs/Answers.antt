-- Activations that were given right answers.
use Rattle.std.proofs.Common.{◌≡◌, ℕ, zero, suc, ◌+◌, ◌-◌, ◌<◌, ◌≤◌, List, [], ◌∷◌, ◌++◌, length, take, append_assoc, append-nil, Option, Some, None, slice_get, cond, refl, sym, ap, subst, ◌∙◌, arith}
use Rattle.std.proofs.lemmas.Bool.{lt-ltb, le-leb}
use Rattle.txc_tags.specs.Keys.{Call}
use Rattle.txc_rows.specs.declared.query.Query.{Query}
use Rattle.txc_rows.specs.States.{State, answer}
use Rattle.txc_app.specs.declared.ask.Ask.{Ask}
use Rattle.txc_app.specs.declared.ask.Ask.TheVariants as asks
use Rattle.txc_app.specs.declared.ask.Answer.{Answer}
use Rattle.txc_app.specs.Eval.{Next, Evaluation, no_value, after_meeting, after_value, after_ask, activation, call_below, evaluation, met}
use Rattle.txc_app.specs.AnswersSoFar.{IsRight, queries_of, queries_after, queries_for}
use Rattle.txc_app.specs.Laws.{RightAnswersGiveTheValue}
use Rattle.txc_app.proofs.Evals.{below_is}

after_both : (xs ys : List Query) (o : Evaluation) → after_meeting xs (after_meeting ys o) ≡ after_meeting (xs ++ ys) o
after_both xs ys o = ap (λ (qs : List Query). record { value = o.value; met = qs }) (sym (append_assoc xs ys o.met))

-- a call of a function below, inside an activation
called : (next : Next) (k g : Call) (s : State) → g.function < k.function → call_below next (λ q. answer q s) k.function g ≡ evaluation next g s
called next k g s low =
    below_is next (λ q. answer q s) k.function g ∙ ap (λ b. cond b (evaluation next g s) no_value) (lt-ltb g.function k.function low)

-- one right answer
step : (next : Next) (k : Call) (s : State) (o : Option Ask) (a : Answer) (rest : Answer → Evaluation) → IsRight next k.function s o a
    → after_ask next.limits.value (λ q. answer q s) (call_below next (λ q. answer q s) k.function) o rest ≡ after_meeting (queries_of next s o) (rest a)
step next k s None a rest h = absurd h
step next k s (Some (asks.Done v)) a rest h = absurd h
step next k s (Some (asks.Query q)) a rest h = rw h refl
step next k s (Some (asks.Call g)) a rest h =
    ap (λ (o : Evaluation). after_meeting o.met (after_value o.value rest)) (called next k g s h.below)
    ∙ (ap (λ (v : Option (List ℕ)). after_meeting (met next g s) (after_value v rest)) h.value
    ∙ ap (λ (x : Answer). after_meeting (met next g s) (rest x)) (sym h.is))

module _ (next : Next) (k : Call) (s : State) where
  -- what is left of the activation
  abbrev left_after : ℕ → List Answer → Evaluation
  left_after n given = activation next.limits.value (next.says k.function k.args) (λ q. answer q s) (call_below next (λ q. answer q s) k.function) n given

  -- these answers are right after those before them
  abbrev RightAfter : List Answer → List Answer → Type 0
  RightAfter before given = (i : ℕ) (a : Answer) → slice_get given i ≡ Some a → IsRight next k.function s (next.says k.function k.args (before ++ take i given)) a

  right_rest : (before given : List Answer) (a : Answer) → RightAfter before (a ∷ given) → RightAfter (before ++ a ∷ []) given
  right_rest before given a h i x is =
      subst (λ (l : List Answer). IsRight next k.function s (next.says k.function k.args l) x) (sym (append_assoc before (a ∷ []) (take i given))) (h (suc i) x is)

  right_first : (before given : List Answer) (a : Answer) → RightAfter before (a ∷ given) → IsRight next k.function s (next.says k.function k.args before) a
  right_first before given a h = subst (λ (l : List Answer). IsRight next k.function s (next.says k.function k.args l) a) (append-nil before) (h 0 a refl)

  continues : (before given : List Answer) (n m : ℕ) → m ≡ length given + n → RightAfter before given
      → left_after m before ≡ after_meeting (queries_after next k s before given) (left_after n (before ++ given))
  unfolding activation
  continues before [] n m e h = let same : m ≡ n = omega arith in rw (same, append-nil before) refl
  continues before (a ∷ given) n zero e h = absurd (omega arith)
  continues before (a ∷ given) n (suc m) e h =
      let rest = continues (before ++ a ∷ []) given n m (omega arith) (right_rest before given a h) in
      let first = queries_of next s (next.says k.function k.args before) in
      step next k s (next.says k.function k.args before) a (λ x. left_after m (before ++ x ∷ [])) (right_first before given a h)
      ∙ (ap (λ (o : Evaluation). after_meeting first o) rest
      ∙ (after_both first (queries_after next k s (before ++ a ∷ []) given) _
      ∙ ap (λ (xs : List Answer). after_meeting (queries_after next k s before (a ∷ given)) (left_after n xs)) (append_assoc before (a ∷ []) given)))

  done_is : (given : List Answer) (bytes : List ℕ) (n : ℕ) → 0 < n → next.says k.function k.args given ≡ Some (asks.Done bytes) → length bytes ≤ next.limits.value
      → left_after n given ≡ record { value = Some bytes; met = [] }
  unfolding activation
  done_is given bytes zero some e short = absurd (omega arith)
  done_is given bytes (suc n) some e short = rw (e, le-leb (length bytes) next.limits.value short) refl

asks_left : (given most : ℕ) → given < most → (n : ℕ) × (most ≡ given + suc n)
asks_left given most few = (most - 1 - given, omega arith)

pub right_answers_give_the_value : RightAnswersGiveTheValue
right_answers_give_the_value next k s given bytes h few e short =
    let n = asks_left (length given) next.limits.asks few in
    let it = continues next k s [] given (suc n.0) next.limits.asks n.1 h
    ∙ ap (λ (o : Evaluation). after_meeting (queries_for next k s given) o) (done_is next k s given bytes (suc n.0) (omega arith) e short) in
    (ap (λ (o : Evaluation). o.value) it, ap (λ (o : Evaluation). o.met) it ∙ append-nil (queries_for next k s given))
