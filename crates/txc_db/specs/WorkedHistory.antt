-- A history worked by hand: put the id 7 in group 2 of table 1, pin 1000, put the id 8 there, pin 2000.
use Rattle.std.specs.Prelude.{◌≡◌, ℕ, [], ◌∷◌, Some, None}
use Rattle.txc_tags.specs.Tags.{id_tag, group_tag}
use Rattle.txc_rows.specs.declared.query.Query.TheVariants.{ById, ByGroup}
use Rattle.txc_rows.specs.declared.query.Change.TheVariants.{Put, Remove}
use Rattle.txc_rows.specs.States.{RowValue, answer}
use Rattle.txc_rows.specs.Net.{net_changes}
use Rattle.txc_db.specs.Facts.{commit, pin}
use Rattle.txc_db.specs.History.{History, state_at, tags_at, moment_at, commit_event}

-- a row of table 1 and group 2
abbrev pub worked_row : ℕ → ℕ → RowValue
worked_row id byte = record { table = 1; id = id; group = 2; body = byte ∷ [] }

-- the id 7 holds an a, and the id 8 a b
abbrev pub worked : History
worked =
    record { fact = commit (Put (worked_row 7 97) ∷ []); tags = id_tag 1 7 ∷ group_tag 1 2 ∷ [] }
    ∷ record { fact = pin 1000; tags = [] }
    ∷ record { fact = commit (Put (worked_row 8 98) ∷ []); tags = id_tag 1 8 ∷ group_tag 1 2 ∷ [] }
    ∷ record { fact = pin 2000; tags = [] }
    ∷ []

-- its states
pub record WorkedStates : Type 0 where
  pub empty : state_at worked 0 ≡ []
  pub put : state_at worked 1 ≡ worked_row 7 97 ∷ []
  pub pinned : state_at worked 2 ≡ worked_row 7 97 ∷ []
  pub put_again : state_at worked 3 ≡ worked_row 7 97 ∷ worked_row 8 98 ∷ []
  pub newest : state_at worked 4 ≡ worked_row 7 97 ∷ worked_row 8 98 ∷ []

-- the tags of its events
pub record WorkedTags : Type 0 where
  pub put : tags_at worked 1 ≡ id_tag 1 7 ∷ group_tag 1 2 ∷ []
  pub pinned : tags_at worked 2 ≡ []
  pub put_again : tags_at worked 3 ≡ id_tag 1 8 ∷ group_tag 1 2 ∷ []
  pub newest : tags_at worked 4 ≡ []

-- the moments of its pins
pub record WorkedMoments : Type 0 where
  pub put : moment_at worked 1 ≡ None
  pub pinned : moment_at worked 2 ≡ Some 1000
  pub newest : moment_at worked 4 ≡ Some 2000
  pub beyond : moment_at worked 5 ≡ None

-- answers of queries in its states
pub record WorkedAnswers : Type 0 where
  pub group : answer (ByGroup 1 2) (state_at worked 2) ≡ worked_row 7 97 ∷ []
  pub newest : answer (ByGroup 1 2) (state_at worked 4) ≡ worked_row 7 97 ∷ worked_row 8 98 ∷ []
  pub none : answer (ById 1 9) (state_at worked 4) ≡ []

-- net changes over its newest state
pub record WorkedNet : Type 0 where
  -- the same row again, and the removal of a row that does not exist
  pub quiet : net_changes (state_at worked 4) (Put (worked_row 7 97) ∷ Remove 1 9 ∷ []) ≡ []
  -- the last change of a row counts
  pub last : net_changes (state_at worked 4) (Put (worked_row 8 99) ∷ Remove 1 8 ∷ []) ≡ Remove 1 8 ∷ []
  -- a row that goes to group 3: its id, its old group and its new one
  pub moved : (commit_event (state_at worked 4)
      (Put (record { table = 1; id = 7; group = 3; body = 97 ∷ [] }) ∷ [])).tags
      ≡ id_tag 1 7 ∷ group_tag 1 2 ∷ group_tag 1 3 ∷ []

-- all of these
pub record WorkedHistory : Type 0 where
  pub states : WorkedStates
  pub tags : WorkedTags
  pub moments : WorkedMoments
  pub answers : WorkedAnswers
  pub net : WorkedNet
