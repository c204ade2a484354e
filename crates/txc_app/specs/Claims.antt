-- Claims that hold over a reach of a history, and the queries on which they depend.
use Rattle.std.specs.Prelude.{ℕ, Bool, true, ◌≡◌, ◌≤◌, List, [], ◌∷◌, length, Option, Some, None}
use Rattle.std.specs.List.{list_all}
use Rattle.txc_stamp.specs.Interval.{Interval, Holds}
use Rattle.txc_tags.specs.declared.tag.Tag.{Tag}
use Rattle.txc_tags.specs.Keys.{Call}
use Rattle.txc_rows.specs.declared.query.Query.{Query}
use Rattle.txc_rows.specs.States.{RowValue, State, answer}
use Rattle.txc_rows.specs.RowTags.{covers_query}
use Rattle.txc_db.specs.History.{History, state_at}
use Rattle.txc_node.specs.declared.entry.Entry.{Entry}
use Rattle.txc_node.specs.declared.hit.HitValue.{HitValue}
use Rattle.txc_app.specs.Eval.{Next, eval, met}

-- the set covers each of the queries
abbrev pub covers_all : List Tag → List Query → Bool
covers_all set queries = list_all (covers_query set) queries

-- `right` holds of the state of each stamp of the reach, and, if the reach is still valid, the tags cover each
-- query on which it depends there
pub record HoldsIn (L : History) (right : State → Type 0) (rests : State → List Query)
    (reach : Interval) (tags : List Tag) : Type 0 where
  pub within : reach.known ≤ length L
  pub holds : (t : ℕ) → Holds reach t → right (state_at L t)
  pub covered : reach.still ≡ true → (t : ℕ) → Holds reach t → covers_all tags (rests (state_at L t)) ≡ true

-- over no reach it holds of every state, and rests on no query
abbrev pub HoldsOver : History → (State → Type 0) → (State → List Query) → Option Interval → List Tag → Type 0
HoldsOver L right rests (Some reach) tags = HoldsIn L right rests reach tags
HoldsOver L right rests None tags = (s : State) → right s × (rests s ≡ [])

-- these are the rows of the query over the reach
abbrev pub RowsHold : History → Query → List RowValue → Option Interval → List Tag → Type 0
RowsHold L q rows reach tags = HoldsOver L (λ s. rows ≡ answer q s) (λ s. q ∷ []) reach tags

-- the call has this value over the reach
abbrev pub ValueHolds : Next → History → Call → List ℕ → Option Interval → List Tag → Type 0
ValueHolds next L k bytes reach tags = HoldsOver L (λ s. eval next k s ≡ Some bytes) (met next k) reach tags

-- the entry is true in the history
abbrev pub IsTrueIn : Next → History → Entry → Type 0
IsTrueIn next L e = ValueHolds next L e.key e.value (Some e.reach) e.tags

-- the entry of the call that is shown so
abbrev pub entry_shown : Call → HitValue → Entry
entry_shown key shown = record { key = key; value = shown.value; reach = shown.reach; tags = shown.tags }
