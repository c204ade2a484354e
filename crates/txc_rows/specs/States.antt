-- The state of the tables, what changes make of it, and the answers of queries in it.
use Rattle.std.specs.Prelude.{ℕ, Bool, ◌&&◌, ◌||◌, ◌==◌, nat_le, nat_lt, not, ◌≡◌, true, List, [], ◌∷◌, ◌++◌, filter, if◌then◌else◌, Option, Some, None}
use Rattle.std.specs.List.{AllByRecursion}
use Rattle.txc_rows.specs.declared.query.Query.{Query}
use Rattle.txc_rows.specs.declared.query.Query.TheVariants.{ById, ByGroup, All, Range}
use Rattle.txc_rows.specs.declared.query.Change.{Change}
use Rattle.txc_rows.specs.declared.query.Change.TheVariants.{Put, Remove}
pub use Rattle.txc_rows.specs.Values.{RowValue}

-- the finite map from (table, id) to (group, body), as the list of its rows
abbrev pub State : Type 0
State = List RowValue

-- by table, then id
abbrev pub row_before : RowValue → RowValue → Bool
row_before r s = nat_lt r.table s.table || ((r.table == s.table) && nat_lt r.id s.id)

-- its rows ascend strictly by table and id, so that each map has exactly one list
abbrev pub IsState : State → Type 0
IsState [] = Unit {0}
IsState (r ∷ rs) = AllByRecursion (λ s. row_before r s ≡ true) rs × IsState rs

-- the row has that table and id
abbrev pub is_at : ℕ → ℕ → RowValue → Bool
is_at table id r = (r.table == table) && (r.id == id)

-- the row of a table and id
abbrev pub row_at : ℕ → ℕ → State → Option RowValue
row_at table id [] = None
row_at table id (r ∷ rs) = if is_at table id r then Some r else row_at table id rs

-- after a put: the rows before it, it, and the rows after it; after a removal: the other rows
abbrev pub after_change : Change → State → State
after_change (Put row) s = filter (λ r. row_before r row) s ++ row ∷ filter (λ r. row_before row r) s
after_change (Remove table id) s = filter (λ r. not (is_at table id r)) s

-- in order
abbrev pub after_changes : List Change → State → State
after_changes [] s = s
after_changes (c ∷ cs) s = after_changes cs (after_change c s)

-- the table that a query asks
abbrev pub query_table : Query → ℕ
query_table (ById table id) = table
query_table (ByGroup table group) = table
query_table (All table) = table
query_table (Range table first last) = table

-- the row is one of those that the query asks for
abbrev pub matches : Query → RowValue → Bool
matches (ById table id) r = (r.table == table) && (r.id == id)
matches (ByGroup table group) r = (r.table == table) && (r.group == group)
matches (All table) r = r.table == table
matches (Range table first last) r = (r.table == table) && (nat_le first r.id && nat_le r.id last)

-- the answer of a query: the rows that match, by id
abbrev pub answer : Query → State → List RowValue
answer q s = filter (matches q) s
