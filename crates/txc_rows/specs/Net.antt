-- The net changes of a list of changes.
use Rattle.std.specs.Prelude.{ℕ, Bool, true, ◌&&◌, ◌||◌, ◌==◌, nat_lt, not, ◌≡◌, List, [], ◌∷◌, filter, if◌then◌else◌}
use Rattle.std.specs.List.{list_any, list_all, AllByRecursion}
use Rattle.txc_rows.specs.declared.query.Change.{Change}
use Rattle.txc_rows.specs.declared.query.Change.TheVariants.{Put, Remove}
use Rattle.txc_rows.specs.States.{RowValue, State, is_at, after_changes}
use Rattle.txc_rows.specs.RowTags.{has_row}

-- the table of a change
abbrev pub change_table : Change → ℕ
change_table (Put row) = row.table
change_table (Remove table id) = table

-- the id of a change
abbrev pub change_id : Change → ℕ
change_id (Put row) = row.id
change_id (Remove table id) = id

-- the changes are of one table and id
abbrev pub same_key : Change → Change → Bool
same_key c d = (change_table c == change_table d) && (change_id c == change_id d)

-- by table, then id
abbrev pub key_before : Change → Change → Bool
key_before c d = nat_lt (change_table c) (change_table d)
    || ((change_table c == change_table d) && nat_lt (change_id c) (change_id d))

-- a put of a row that is not in the state, or a removal of one that is
abbrev pub changes_state : State → Change → Bool
changes_state s (Put row) = not (has_row s row)
changes_state s (Remove table id) = list_any (is_at table id) s

-- a change at its place, unless a later one has its key
abbrev pub placed : Change → List Change → List Change
placed c [] = c ∷ []
placed c (d ∷ ds) =
    if same_key c d then d ∷ ds else (if key_before c d then c ∷ (d ∷ ds) else d ∷ placed c ds)

-- the last change of each key, by table and id
abbrev pub settled : List Change → List Change
settled [] = []
settled (c ∷ cs) = placed c (settled cs)

-- the last change of each key, by table and id, if it changes something
abbrev pub net_changes : State → List Change → List Change
net_changes s changes = filter (changes_state s) (settled changes)

-- strictly by table and id
abbrev pub KeysAscend : List Change → Type 0
KeysAscend [] = Unit {0}
KeysAscend (c ∷ cs) = AllByRecursion (λ d. key_before c d ≡ true) cs × KeysAscend cs

-- by table and id, each changing something, and together they lead from the one state to the other
pub record IsNet (old : State) (net : List Change) (new : State) : Type 0 where
  pub rising : KeysAscend net
  pub each : list_all (changes_state old) net ≡ true
  pub transition : after_changes net old ≡ new

-- the rows that a net puts
abbrev pub puts_of : List Change → List RowValue
puts_of [] = []
puts_of (Put row ∷ cs) = row ∷ puts_of cs
puts_of (Remove table id ∷ cs) = puts_of cs

-- the rows of a state at the tables and ids of a net
abbrev pub rows_at : List Change → State → List RowValue
rows_at net s = filter (λ r. list_any (λ c. is_at (change_table c) (change_id c) r) net) s
