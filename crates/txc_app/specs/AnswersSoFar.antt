-- The answers of an activation so far.
use Rattle.std.specs.Prelude.{ℕ, ◌≡◌, ◌<◌, List, [], ◌∷◌, ◌++◌, Option, Some, None}
use Rattle.txc_tags.specs.Keys.{Call}
use Rattle.txc_rows.specs.declared.query.Query.{Query}
use Rattle.txc_rows.specs.States.{State, answer}
use Rattle.txc_app.specs.declared.ask.Ask.{Ask}
use Rattle.txc_app.specs.declared.ask.Ask.TheVariants as asks
use Rattle.txc_app.specs.declared.ask.Answer.{Answer}
use Rattle.txc_app.specs.declared.ask.Answer.TheVariants as answers
use Rattle.txc_app.specs.EachAfter.{EachAfter}
use Rattle.txc_app.specs.Eval.{Next, eval, met}

-- the answer is the value of the call, which is of a function below f
pub record IsValueOf (next : Next) (f : ℕ) (s : State) (k : Call) (a : Answer) : Type 0 where
  pub bytes : List ℕ
  pub is : a ≡ answers.Value bytes
  pub below : k.function < f
  pub value : eval next k s ≡ Some bytes

-- an answer is right for what the function f asked: the rows of a query, or the value of a call
abbrev pub IsRight : Next → ℕ → State → Option Ask → Answer → Type 0
IsRight next f s (Some (asks.Query q)) a = a ≡ answers.Rows (answer q s)
IsRight next f s (Some (asks.Call k)) a = IsValueOf next f s k a
IsRight next f s (Some (asks.Done bytes)) a = ⊥
IsRight next f s None a = ⊥

-- each answer is right for what the call asked after those before it
abbrev pub AreRight : Next → Call → State → List Answer → Type 0
AreRight next k s given =
    EachAfter (λ before a. IsRight next k.function s (next.says k.function k.args before) a) given

-- the queries that an ask meets
abbrev pub queries_of : Next → State → Option Ask → List Query
queries_of next s (Some (asks.Query q)) = q ∷ []
queries_of next s (Some (asks.Call k)) = met next k s
queries_of next s (Some (asks.Done bytes)) = []
queries_of next s None = []

-- the queries met for these answers, given after those before them
abbrev pub queries_after : Next → Call → State → List Answer → List Answer → List Query
queries_after next k s before [] = []
queries_after next k s before (a ∷ given) =
    queries_of next s (next.says k.function k.args before) ++ queries_after next k s (before ++ a ∷ []) given

-- the queries met for these answers
abbrev pub queries_for : Next → Call → State → List Answer → List Query
queries_for next k s given = queries_after next k s [] given
