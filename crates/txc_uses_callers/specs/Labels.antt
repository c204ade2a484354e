-- The functions of a caller: the value of each is the label of a row.
use Rattle.std.specs.Prelude.{◌≡◌, ℕ, ◌==◌, if◌then◌else◌, List, [], ◌∷◌, Option, Some, None}
use Rattle.txc_tags.specs.Keys.{Call}
use Rattle.txc_rows.specs.Values.{RowValue}
use Rattle.txc_rows.specs.States.{State, answer}
use Rattle.txc_rows.specs.declared.query.Query.TheVariants.{ById}
use Rattle.txc_db.specs.History.{state_at}
use Rattle.txc_cushion.specs.declared.pin.Pin.{Pin}
use Rattle.txc_app.specs.declared.ask.Ask.{Ask}
use Rattle.txc_app.specs.declared.ask.Ask.TheVariants.{Query, Done}
use Rattle.txc_app.specs.declared.ask.Answer.{Answer}
use Rattle.txc_app.specs.declared.ask.Answer.TheVariants.{Rows, Value}
use Rattle.txc_app.specs.Eval.{Next, small_limits}
use Rattle.txc_call.specs.CallMachine.{Calling}
use Rattle.txc_txn.specs.declared.receipt.Receipt.{Receipt}
use Rattle.txc_caller.specs.ComputedFunctions.{computed_calls, told_answer, top_call}

-- the rows of an answer to a function
abbrev pub rows_told : Answer → List RowValue
rows_told (Rows rows) = rows
rows_told (Value bytes) = []

-- the body of the first of these rows; no bytes if there is none
abbrev pub first_body : List RowValue → List ℕ
first_body [] = []
first_body (row ∷ rows) = row.body

-- the group of the first of these rows; 0 if there is none
abbrev pub first_group : List RowValue → ℕ
first_group [] = 0
first_group (row ∷ rows) = row.group

-- The value of the id 0 is empty, without an ask. For any other id a function asks for the row in table 1. If
-- there is none, or its group is 0, the value is its body, if any. Otherwise it asks for the row whose id is
-- the group, and its value is the body of that one.
abbrev pub asks_label : List ℕ → List Answer → Option Ask
asks_label (id ∷ []) [] = if id == 0 then Some (Done []) else Some (Query (ById 1 id))
asks_label (id ∷ []) (told ∷ []) = if first_group (rows_told told) == 0 then Some (Done (first_body (rows_told told)))
    else Some (Query (ById 1 (first_group (rows_told told))))
asks_label (id ∷ []) (told ∷ last ∷ more) = Some (Done (first_body (rows_told last)))
asks_label args given = None

abbrev pub label_says : ℕ → List ℕ → List Answer → Option Ask
label_says f args given = asks_label args given

abbrev pub labels : Next
labels = record { says = label_says; limits = small_limits }

-- the call of the label of a row
abbrev pub label_call : ℕ → Call
label_call id = record { function = 0; args = id ∷ [] }

-- the label that the first of these rows has in a state
abbrev pub label_of : State → List RowValue → List ℕ
label_of s rows = if first_group rows == 0 then first_body rows else first_body (answer (ById 1 (first_group rows)) s)

-- the label of a row in a state
abbrev pub label_in : State → ℕ → List ℕ
label_in s id = if id == 0 then [] else label_of s (answer (ById 1 id) s)

-- the call of the label is open, and its function must begin
pub record BeginsLabel (id : ℕ) (call : Calling) : Type 0 where
  pub top : top_call call ≡ Some (label_call id)
  pub only : computed_calls call ≡ label_call id ∷ []
  pub untold : told_answer call ≡ None

-- the receipt has a pin, and the row has this label in the state of that
pub record ShowsLabel (id : ℕ) (receipt : Receipt) (label : List ℕ) : Type 0 where
  pub pin : Pin
  pub pinned : receipt.pin ≡ Some pin
  pub label_is : label ≡ label_in (state_at receipt.seen.history pin.stamp) id
