-- What a call gives without a cache.
use Rattle.std.proofs.Common.{◌≡◌, inl, inr, ℕ, zero, suc, List, [], ◌∷◌, ◌++◌, Option, Some, None, Bool, true, false, cond, nat_lt, ◌==◌, refl, sym, ap, ◌∙◌, arith}
use borrow.Author.Tests.{eqb-true}
use Rattle.std.proofs.lemmas.Bool.Decides.{nat_tests}
use Rattle.std.specs.List.{AllByRecursion}
use Rattle.txc_tags.specs.Keys.{Call}
use Rattle.txc_tags.proofs.Lists.{bool_cases}
use Rattle.txc_rows.specs.declared.query.Query.{Query}
use Rattle.txc_rows.specs.States.{RowValue, answer}
use Rattle.txc_app.specs.declared.ask.Ask.{Ask}
use Rattle.txc_app.specs.declared.ask.Ask.TheVariants as asks
use Rattle.txc_app.specs.declared.ask.Answer.{Answer}
use Rattle.txc_app.specs.declared.ask.Answer.TheVariants as answers
use Rattle.txc_app.specs.Eval.{Next, Rows, Calls, Evaluation, no_value, after_meeting, after_value, after_ask, activation, called_with, call_below}
use Rattle.txc_app.specs.Laws.{CallsAreOfFunctionsBelow, EqualAnswersDecide}

-- ---- calls of functions below

lt_here : (g f : ℕ) → g ≡ f → nat_lt g (suc f) ≡ true
lt_here g f e = grind (arith, nat_tests)

lt_none : (g : ℕ) → nat_lt g 0 ≡ false
lt_none g = grind (arith, nat_tests)

lt_other : (g f : ℕ) → (g == f) ≡ false → nat_lt g (suc f) ≡ nat_lt g f
lt_other g f e = grind (arith, nat_tests)

abbrev below : Next → Rows → ℕ → Calls
below next rows f g = cond (nat_lt g.function f) (called_with next rows (call_below next rows g.function) g) no_value

-- a call of a function below f gives what it gives by itself
pub below_is : (next : Next) (rows : Rows) (f : ℕ) (g : Call) → call_below next rows f g ≡ below next rows f g
unfolding call_below
below_is next rows zero g = rw (lt_none g.function) refl
below_is next rows (suc f) g = elim (bool_cases (g.function == f)) [
  | inl here ↦ let same = eqb-true g.function f here in
      rw (here, lt_here g.function f same) (ap (λ n. called_with next rows (call_below next rows n) g) (sym same))
  | inr apart ↦ rw (apart, lt_other g.function f apart) (below_is next rows f g)
]

pub calls_are_of_functions_below : CallsAreOfFunctionsBelow
calls_are_of_functions_below next k s =
    ap (λ (c : Calls). called_with next (λ q. answer q s) c k) (λ i g. below_is next (λ q. answer q s) k.function g i)

-- ---- equal answers

abbrev Agree : Rows → Rows → List Query → Type 0
Agree a b = AllByRecursion (λ q. a q ≡ b q)

agree_left : (a b : Rows) (xs ys : List Query) → Agree a b (xs ++ ys) → Agree a b xs
agree_left a b [] ys h = tt
agree_left a b (x ∷ xs) ys h = (h.0, agree_left a b xs ys h.1)

agree_right : (a b : Rows) (xs ys : List Query) → Agree a b (xs ++ ys) → Agree a b ys
agree_right a b [] ys h = h
agree_right a b (x ∷ xs) ys h = agree_right a b xs ys h.1

value_same : (a b : Rows) (v : Option (List ℕ)) (r t : Answer → Evaluation)
    → ((x : Answer) → Agree a b (r x).met → r x ≡ t x) → Agree a b (after_value v r).met → after_value v r ≡ after_value v t
value_same a b None r t rest h = refl
value_same a b (Some v) r t rest h = rest (answers.Value v) h

ask_same : (most : ℕ) (a b : Rows) (c d : Calls) → ((k : Call) → Agree a b (c k).met → c k ≡ d k) → (o : Option Ask) (r t : Answer → Evaluation)
    → ((x : Answer) → Agree a b (r x).met → r x ≡ t x) → Agree a b (after_ask most a c o r).met → after_ask most a c o r ≡ after_ask most b d o t
ask_same most a b c d calls None r t rest h = refl
ask_same most a b c d calls (Some (asks.Done v)) r t rest h = refl
ask_same most a b c d calls (Some (asks.Query q)) r t rest h =
    ap (λ (o : Evaluation). after_meeting (q ∷ []) o) (rest (answers.Rows (a q)) h.1)
    ∙ ap (λ (rs : List RowValue). after_meeting (q ∷ []) (t (answers.Rows rs))) h.0
ask_same most a b c d calls (Some (asks.Call k)) r t rest h =
    ap (λ (o : Evaluation). after_meeting (c k).met o)
    (value_same a b (c k).value r t rest (agree_right a b (c k).met (after_value (c k).value r).met h))
    ∙ ap (λ (o : Evaluation). after_meeting o.met (after_value o.value t)) (calls k (agree_left a b (c k).met (after_value (c k).value r).met h))

activation_same : (most : ℕ) (says : List Answer → Option Ask) (a b : Rows) (c d : Calls) → ((k : Call) → Agree a b (c k).met → c k ≡ d k)
    → (n : ℕ) (given : List Answer) → Agree a b (activation most says a c n given).met → activation most says a c n given ≡ activation most says b d n given
unfolding activation
activation_same most says a b c d calls zero given h = refl
activation_same most says a b c d calls (suc n) given h =
    ask_same most a b c d calls (says given) (λ x. activation most says a c n (given ++ x ∷ [])) (λ x. activation most says b d n (given ++ x ∷ []))
    (λ x. activation_same most says a b c d calls n (given ++ x ∷ [])) h

call_same : (next : Next) (a b : Rows) (f : ℕ) (k : Call) → Agree a b (call_below next a f k).met → call_below next a f k ≡ call_below next b f k
unfolding call_below
call_same next a b zero k h = refl
call_same next a b (suc f) k h = go (k.function == f) (call_same next a b f) h
  where
    go : (e : Bool) → ((g : Call) → Agree a b (call_below next a f g).met → call_below next a f g ≡ call_below next b f g)
        → Agree a b (cond e (called_with next a (call_below next a f) k) (call_below next a f k)).met
        → cond e (called_with next a (call_below next a f) k) (call_below next a f k) ≡ cond e (called_with next b (call_below next b f) k) (call_below next b f k)
    go true rest h = activation_same next.limits.value (next.says k.function k.args) a b (call_below next a f) (call_below next b f) rest next.limits.asks [] h
    go false rest h = rest k h

pub equal_answers_decide : EqualAnswersDecide
equal_answers_decide next k s t h =
    activation_same next.limits.value (next.says k.function k.args) (λ q. answer q s) (λ q. answer q t)
    (call_below next (λ q. answer q s) k.function) (call_below next (λ q. answer q t) k.function)
    (call_same next (λ q. answer q s) (λ q. answer q t) k.function) next.limits.asks [] h
