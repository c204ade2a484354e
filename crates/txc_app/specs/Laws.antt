-- Laws of calls and of claims.
use Rattle.std.specs.Prelude.{ℕ, suc, ◌≡◌, ◌<◌, ◌≤◌, nat_lt, if◌then◌else◌, true, false, List, [], ◌∷◌, length, Some}
use Rattle.std.specs.List.{AllByRecursion}
use mathlib.Core.List.{IsPrefix}
use Rattle.txc_stamp.specs.Interval.{Holds}
use Rattle.txc_tags.specs.declared.tag.Tag.{Tag}
use Rattle.txc_tags.specs.Keys.{Call}
use Rattle.txc_tags.specs.Tags.{sets_match}
use Rattle.txc_rows.specs.declared.query.Query.{Query}
use Rattle.txc_rows.specs.States.{RowValue, State, answer as rows_of}
use Rattle.txc_rows.specs.RowTags.{query_tag}
use Rattle.txc_validity.specs.declared.answer.Found.{Found}
use Rattle.txc_validity.specs.Answers.{IsAnswer}
use Rattle.txc_db.specs.History.{History, state_at, tags_at}
use Rattle.txc_node.specs.declared.entry.Entry.{Entry}
use Rattle.txc_app.specs.declared.ask.Ask.TheVariants as asks
use Rattle.txc_app.specs.declared.ask.Answer.{Answer}
use Rattle.txc_app.specs.declared.ask.Answer.TheVariants as answers
use Rattle.txc_app.specs.Eval.{Calls, Next, no_value, called_with, evaluation, eval, met}
use Rattle.txc_app.specs.AnswersSoFar.{AreRight, queries_for}
use Rattle.txc_app.specs.Claims.{covers_all, RowsHold, IsTrueIn}

-- ---- calls

-- the evaluation of a call is that of its own activation, in which a call of a function below its own has its
-- own evaluation, and any other has no value
abbrev pub CallsAreOfFunctionsBelow : Type 0
CallsAreOfFunctionsBelow = (next : Next) (k : Call) (s : State)
    → evaluation next k s
    ≡ (let within : Calls = λ g. if nat_lt g.function k.function then evaluation next g s else no_value
    in called_with next (λ q. rows_of q s) within k)

-- if the queries that a call meets have equal answers in two states, it has the same evaluation in both
abbrev pub EqualAnswersDecide : Type 0
EqualAnswersDecide = (next : Next) (k : Call) (s t : State)
    → AllByRecursion (λ q. rows_of q s ≡ rows_of q t) (met next k s)
    → evaluation next k s ≡ evaluation next k t

-- an event whose tags do not match tags that cover the queries of a call leaves its evaluation
abbrev pub EventLeaves : Type 0
EventLeaves = (next : Next) (k : Call) (L : History) (t : ℕ) (tags : List Tag)
    → covers_all tags (met next k (state_at L t)) ≡ true → sets_match (tags_at L (suc t)) tags ≡ false
    → evaluation next k (state_at L t) ≡ evaluation next k (state_at L (suc t))

-- an activation that was given right answers, fewer than it may ask, and is then done with a value that is
-- not too long: the call has this value, and meets the queries met for these answers
abbrev pub RightAnswersGiveTheValue : Type 0
RightAnswersGiveTheValue = (next : Next) (k : Call) (s : State) (given : List Answer) (bytes : List ℕ)
    → AreRight next k s given → length given < next.limits.asks
    → next.says k.function k.args given ≡ Some (asks.Done bytes) → length bytes ≤ next.limits.value
    → (eval next k s ≡ Some bytes) × (met next k s ≡ queries_for next k s given)

-- ---- claims

-- a true entry stays true in every history that begins with the one in which it is true
abbrev pub TrueInLonger : Type 0
TrueInLonger = (next : Next) (L M : History) (e : Entry)
    → IsPrefix L M → IsTrueIn next L e → IsTrueIn next M e

-- the database's answer to a query holds over its reach
abbrev pub FoundRowsHold : Type 0
FoundRowsHold = (L : History) (q : Query) (t horizon : ℕ) (found : Found)
    → IsAnswer (state_at L) q t horizon (length L) found → found.tags ≡ query_tag q ∷ []
    → RowsHold L q found.rows.items (Some found.reach) found.tags

-- the call asks this query, and is done with these bytes once it has these rows: within the limits
pub record IsDoneAfter (next : Next) (k : Call) (q : Query) (rows : List RowValue) (bytes : List ℕ)
    : Type 0 where
  pub query : next.says k.function k.args [] ≡ Some (asks.Query q)
  pub done : next.says k.function k.args (answers.Rows rows ∷ []) ≡ Some (asks.Done bytes)
  pub short : length bytes ≤ next.limits.value
  pub few : 2 ≤ next.limits.asks

-- the value of such a call holds over the reach of the rows
abbrev pub DoneAfterIsTrue : Type 0
DoneAfterIsTrue = (next : Next) (L : History) (q : Query) (rows : List RowValue) (e : Entry)
    → RowsHold L q rows (Some e.reach) e.tags → IsDoneAfter next e.key q rows e.value → IsTrueIn next L e

-- ---- another history

-- the entry as it begins there: it is known at one stamp, and still valid
abbrev pub begun_at : ℕ → Entry → Entry
begun_at t e = record e { reach = record { lo = t; known = t; still = true } }

-- two histories have the same state, each at a stamp of its own: an entry that is true in the first, holds at
-- its stamp and is still valid is true in the other, as it begins there
abbrev pub CarriedIsTrue : Type 0
CarriedIsTrue = (next : Next) (L M : History) (e : Entry) (t u : ℕ)
    → state_at L t ≡ state_at M u → u ≤ length M → Holds e.reach t → e.reach.still ≡ true
    → IsTrueIn next L e → IsTrueIn next M (begun_at u e)
