-- The results of a read-write transaction, and the queries on which they depend.
use Rattle.std.specs.Prelude.{◌≡◌, List, [], ◌∷◌, Some, All, Contains}
use Rattle.txc_rows.specs.declared.query.Query.{Query}
use Rattle.txc_rows.specs.declared.query.Change.{Change}
use Rattle.txc_rows.specs.States.{State, after_changes, answer}
use Rattle.txc_db.specs.Facts.{commit}
use Rattle.txc_db.specs.History.{History}
use Rattle.txc_app.specs.Eval.{Next, eval}
use Rattle.txc_txn_rw.specs.declared.given.Given.{Given}
use Rattle.txc_txn_rw.specs.declared.given.Given.TheVariants.{Value, Rows}

-- in the state, the result is the uncached value of its call, or the answer of its query
abbrev pub IsRightIn : Next → State → Given → Type 0
IsRightIn next s (Value key value) = eval next key s ≡ Some value
IsRightIn next s (Rows query rows) = rows ≡ answer query s

abbrev pub AreRightIn : Next → State → List Given → Type 0
AreRightIn next s answers = All (IsRightIn next s) answers

-- each of the queries has the same answer in both states
abbrev pub AgreeOn : List Query → State → State → Type 0
AgreeOn queries s t = (q : Query) → Contains queries q → answer q t ≡ answer q s

-- the state that the changes lead to from no row on
abbrev pub state_of : List Change → State
state_of changes = after_changes changes []

-- a history of one event, the commit of the changes; its stamp 1 has their state
abbrev pub committed : List Change → History
committed changes = record { fact = commit changes; tags = [] } ∷ []
