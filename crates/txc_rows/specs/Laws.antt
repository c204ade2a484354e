-- Laws of states, answers, net changes and versions.
use Rattle.std.specs.Prelude.{ℕ, suc, ◌≡◌, ◌≢◌, ◌≤◌, ◌↔◌, ◌&&◌, ◌==◌, true, Bool, List, [], ◌++◌, map, false, Option, Some, None, if◌then◌else◌}
use Rattle.std.specs.List.{list_any, flat_map, Contains}
use Rattle.txc_tags.specs.declared.tag.Tag.{Tag}
use Rattle.txc_tags.specs.Tags.{sets_match, set_of}
use Rattle.txc_rows.specs.declared.query.Query.{Query}
use Rattle.txc_rows.specs.declared.query.Change.{Change}
use Rattle.txc_rows.specs.declared.query.Change.TheVariants.{Put, Remove}
use Rattle.txc_rows.specs.declared.version.Versioned.{Versioned}
use Rattle.txc_rows.specs.States.{RowValue, State, IsState, row_at, matches, answer, after_change, after_changes}
use Rattle.txc_rows.specs.Net.{change_table, change_id, net_changes, IsNet, puts_of, rows_at}
use Rattle.txc_rows.specs.RowTags.{tags_of_row, tags_between, covers_query}
use Rattle.txc_rows.specs.Versions.{shown_at, after_net, purged, AreChanges}
use Rattle.txc_rows.specs.VersionsAndStates.{VersionsSay, SaysStates, IdsAscend}

-- ---- states

-- two states with the same rows are equal
abbrev pub StatesAreRows : Type 0
StatesAreRows = (s u : State) → IsState s → IsState u → ((r : RowValue) → Contains s r ↔ Contains u r) → s ≡ u

-- changes of a state leave a state
abbrev pub ChangedIsState : Type 0
ChangedIsState = (changes : List Change) (s : State) → IsState s → IsState (after_changes changes s)

-- the row of a change's table and id after it
abbrev pub made_by : Change → Option RowValue
made_by (Put row) = Some row
made_by (Remove table id) = None

-- the change is one of that table and id
abbrev pub is_change_of : ℕ → ℕ → Change → Bool
is_change_of table id c = (change_table c == table) && (change_id c == id)

-- a change updates the map at its table and id, and nowhere else
abbrev pub ChangeUpdates : Type 0
ChangeUpdates = (c : Change) (s : State) (table id : ℕ) → IsState s
    → row_at table id (after_change c s) ≡ (if is_change_of table id c then made_by c else row_at table id s)

-- puts of the rows of a state make it of no rows
abbrev pub PutsMakeState : Type 0
PutsMakeState = (s : State) → IsState s → after_changes (map Put s) [] ≡ s

-- ---- net changes

-- they lead from the state before all changes to the state after them
abbrev pub NetTransition : Type 0
NetTransition = (s : State) (changes : List Change) → IsState s
    → IsNet s (net_changes s changes) (after_changes changes s)

-- a table and id has a net change exactly if the states before and after differ there
abbrev pub NetIsDifference : Type 0
NetIsDifference = (s : State) (changes : List Change) (table id : ℕ) → IsState s
    → (list_any (is_change_of table id) (net_changes s changes) ≡ true)
    ↔ (row_at table id s ≢ row_at table id (after_changes changes s))

-- the tags between the states are those of the old rows at the net's tables and ids,
-- then those of the rows that it puts
abbrev pub NetTags : Type 0
NetTags = (old new : State) (net : List Change) → IsState old → IsNet old net new
    → tags_between old new ≡ set_of (flat_map tags_of_row (rows_at net old ++ puts_of net))

-- ---- tags

-- if the tags between two states do not match a set that covers a query, its answer is the same in both
abbrev pub TagsAreSound : Type 0
TagsAreSound = (old new : State) (q : Query) (set : List Tag) → IsState old → IsState new
    → sets_match (tags_between old new) set ≡ false → covers_query set q ≡ true → answer q old ≡ answer q new

-- there are none between a state and itself
abbrev pub NoTagsBetween : Type 0
NoTagsBetween = (s : State) → tags_between s s ≡ []

-- ---- versions that describe states

-- no versions describe the empty state at stamp 0
abbrev pub SaysNothing : Type 0
SaysNothing = (states : ℕ → State) → states 0 ≡ [] → SaysStates states 0 0 []

-- only the kept states count
abbrev pub SaysAgree : Type 0
SaysAgree = (states others : ℕ → State) (horizon newest : ℕ) (vs : List Versioned)
    → ((t : ℕ) → horizon ≤ t → t ≤ newest → states t ≡ others t)
    → SaysStates states horizon newest vs → SaysStates others horizon newest vs

-- after a write of net changes at the next stamp the versions describe the state that they lead to, and all
-- those before it
abbrev pub SaysWritten : Type 0
SaysWritten = (states : ℕ → State) (horizon newest : ℕ) (net : List Change) (vs : List Versioned)
    → horizon ≤ newest → states (suc newest) ≡ after_changes net (states newest)
    → SaysStates states horizon newest vs
    → SaysStates states horizon (suc newest) (after_net (suc newest) net vs)

-- a stamp at which no state changes
abbrev pub SaysQuiet : Type 0
SaysQuiet = (states : ℕ → State) (horizon newest : ℕ) (vs : List Versioned) → horizon ≤ newest
    → states (suc newest) ≡ states newest → SaysStates states horizon newest vs
    → SaysStates states horizon (suc newest) vs

-- a purge leaves the description of the states from its horizon on
abbrev pub SaysPurged : Type 0
SaysPurged = (states : ℕ → State) (horizon newest next : ℕ) (vs : List Versioned) → horizon ≤ next
    → SaysStates states horizon newest vs → SaysStates states next newest (purged next vs)

-- the versions that match a query show its answer
abbrev pub SaysAnswer : Type 0
SaysAnswer = (q : Query) (t : ℕ) (vs found : List Versioned) (s : State) → IsState s → VersionsSay t vs s
    → ((v : Versioned) → Contains found v → Contains vs v)
    → ((v : Versioned) → Contains vs v → matches q v.row ≡ true → Contains found v)
    → IdsAscend (shown_at q t found) → shown_at q t found ≡ answer q s

-- net changes of the newest state that versions describe may be written over them at the next stamp
abbrev pub NetIsWritable : Type 0
NetIsWritable = (states : ℕ → State) (horizon newest : ℕ) (net : List Change) (vs : List Versioned)
    (new : State) → horizon ≤ newest → SaysStates states horizon newest vs → IsNet (states newest) net new
    → AreChanges (suc newest) net vs
