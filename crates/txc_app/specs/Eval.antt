-- The uncached value of a call in a state.
use Rattle.std.specs.Prelude.{ℕ, zero, suc, ◌==◌, nat_le, if◌then◌else◌, List, [], ◌∷◌, ◌++◌, length, Option, Some, None}
use Rattle.txc_tags.specs.Keys.{Call}
use Rattle.txc_rows.specs.declared.query.Query.{Query}
use Rattle.txc_rows.specs.States.{RowValue, State, answer}
use Rattle.txc_node.specs.declared.value.TheConstants.{MAX_VALUE_LEN}
use Rattle.txc_app.specs.declared.app.TheConstants.{MAX_ASKS}
use Rattle.txc_app.specs.declared.app.Limits.{Limits}
use Rattle.txc_app.specs.declared.ask.Ask.{Ask}
use Rattle.txc_app.specs.declared.ask.Ask.TheVariants as asks
use Rattle.txc_app.specs.declared.ask.Answer.{Answer}
use Rattle.txc_app.specs.declared.ask.Answer.TheVariants as answers

-- The meaning of an application: the next step of a function, by its number, its arguments and the answers so
-- far; none if it does not take the arguments. Also the most bytes of a value, and the most steps of an
-- activation.
pub record Next : Type 0 where
  pub says : ℕ → List ℕ → List Answer → Option Ask
  pub limits : Limits

-- the limits of the program
abbrev pub small_limits : Limits
small_limits = record { value = MAX_VALUE_LEN; asks = MAX_ASKS }

-- the evaluation of a call: its value, if it has one, and the queries met on the way
pub record Evaluation : Type 0 where
  pub value : Option (List ℕ)
  pub met : List Query

-- answers of queries
abbrev pub Rows : Type 0
Rows = Query → List RowValue

-- evaluations of calls
abbrev pub Calls : Type 0
Calls = Call → Evaluation

-- no value, and no query met
abbrev pub no_value : Evaluation
no_value = record { value = None; met = [] }

-- done, with these bytes, at most `most`; too many bytes are no value
abbrev pub done_with : ℕ → List ℕ → Evaluation
done_with most bytes = record { value = if nat_le (length bytes) most then Some bytes else None; met = [] }

-- these queries were met first
abbrev pub after_meeting : List Query → Evaluation → Evaluation
after_meeting queries rest = record { value = rest.value; met = queries ++ rest.met }

-- the rest of an activation after the value of a call; without one it has none itself
abbrev pub after_value : Option (List ℕ) → (Answer → Evaluation) → Evaluation
after_value None rest = no_value
after_value (Some bytes) rest = rest (answers.Value bytes)

-- one ask, and the rest of the activation after its answer
abbrev pub after_ask : ℕ → Rows → Calls → Option Ask → (Answer → Evaluation) → Evaluation
after_ask most rows calls None rest = no_value
after_ask most rows calls (Some (asks.Done bytes)) rest = done_with most bytes
after_ask most rows calls (Some (asks.Query q)) rest = after_meeting (q ∷ []) (rest (answers.Rows (rows q)))
after_ask most rows calls (Some (asks.Call k)) rest =
    after_meeting (calls k).met (after_value (calls k).value rest)

-- an activation with a limit on its further steps, after these answers; being done is a step too
unfoldable pub activation : ℕ → (List Answer → Option Ask) → Rows → Calls → ℕ → List Answer → Evaluation
activation most says rows calls zero given = no_value
activation most says rows calls (suc left) given =
    after_ask most rows calls (says given) (λ a. activation most says rows calls left (given ++ a ∷ []))

-- a call, with these evaluations of the calls inside it
abbrev pub called_with : Next → Rows → Calls → Calls
called_with next rows calls k = activation next.limits.value (next.says k.function k.args) rows calls next.limits.asks []

-- a call of a function below f; any other has no value
unfoldable pub call_below : Next → Rows → ℕ → Calls
call_below next rows zero k = no_value
call_below next rows (suc f) k =
    if k.function == f then called_with next rows (call_below next rows f) k else call_below next rows f k

-- the evaluation of a call in a state: queries are answered there, and it may call the functions below its own
abbrev pub evaluation : Next → Call → State → Evaluation
evaluation next k s = called_with next (λ q. answer q s) (call_below next (λ q. answer q s) k.function) k

-- its value, if it has one
abbrev pub eval : Next → Call → State → Option (List ℕ)
eval next k s = (evaluation next k s).value

-- the queries met on the way to it, those of calls inside it too
abbrev pub met : Next → Call → State → List Query
met next k s = (evaluation next k s).met
