-- A store of versions that describes the kept states of a history.
use Rattle.std.specs.Prelude.{ℕ, ◌≡◌, ◌≤◌, ◌<◌, List}
use Rattle.txc_rows.specs.declared.query.Query.{Query}
use Rattle.txc_rows.specs.declared.query.Change.{Change}
use Rattle.txc_rows.specs.declared.version.Versioned.{Versioned}
use Rattle.txc_rows.specs.States.{State, IsState, answer}
use Rattle.txc_rows.specs.Net.{IsNet}
use Rattle.txc_rows.specs.Versions.{AreVersions, shown_at, purged}
use Rattle.txc_rows.specs.VersionsAndStates.{SaysStates}

-- the versions describe each state from the horizon to the newest stamp, a purge up to the horizon would drop
-- none of them, and those of a table and id follow one another
pub record KeepsStates (states : ℕ → State) (horizon newest : ℕ) (vs : List Versioned) : Type 0 where
  pub kept : horizon ≤ newest
  pub each : (t : ℕ) → horizon ≤ t → t ≤ newest → IsState (states t)
  pub says : SaysStates states horizon newest vs
  pub clean : purged horizon vs ≡ vs
  pub versions : AreVersions vs

-- after the newest stamp the state stays up to the one before the stamp, and there the net changes lead to
-- the next
pub record StateTransition (states : ℕ → State) (newest stamp : ℕ) (net : List Change) : Type 0 where
  pub later : newest < stamp
  pub quiet : (t : ℕ) → newest ≤ t → t < stamp → states t ≡ states newest
  pub changes : IsNet (states newest) net (states stamp)

-- if the old versions keep the states and the net changes lead on at the stamp, the new ones keep the states up
-- to it
abbrev pub KeepsWritten : List Change → ℕ → List Versioned → List Versioned → Type 0
KeepsWritten net stamp old new = (states : ℕ → State) (horizon newest : ℕ)
    → KeepsStates states horizon newest old → StateTransition states newest stamp net
    → KeepsStates states horizon stamp new

-- if the old versions keep the states up to a stamp not before the next horizon, the new ones keep those from
-- that horizon on
abbrev pub KeepsPurged : ℕ → List Versioned → List Versioned → Type 0
KeepsPurged next old new = (states : ℕ → State) (horizon newest : ℕ) → KeepsStates states horizon newest old
    → horizon ≤ next → next ≤ newest → KeepsStates states next newest new

-- if the old versions keep the states up to a stamp, the new ones keep its state as the first one of another
-- history
abbrev pub KeepsBegun : ℕ → List Versioned → List Versioned → Type 0
KeepsBegun stamp old new = (states others : ℕ → State) (horizon : ℕ) → KeepsStates states horizon stamp old
    → others 1 ≡ states stamp → KeepsStates others 1 1 new

-- The rows visible in the found versions at a kept stamp are the query's answer in its state. The found
-- versions of a table and id follow one another: at most one is visible, and if one is born as another dies
-- they differ.
pub record ShowsAnswers (q : Query) (states : ℕ → State) (horizon newest : ℕ) (found : List Versioned)
    : Type 0 where
  pub answers : (t : ℕ) → horizon ≤ t → t ≤ newest → shown_at q t found ≡ answer q (states t)
  pub versions : AreVersions found

-- if the versions keep states, the found ones give the answers in them
abbrev pub AnswersStates : Query → List Versioned → List Versioned → Type 0
AnswersStates q vs found = (states : ℕ → State) (horizon newest : ℕ) → KeepsStates states horizon newest vs
    → ShowsAnswers q states horizon newest found

-- if the versions keep states, the found ones give the answer in the newest
abbrev pub AnswersNewest : Query → List Versioned → List Versioned → Type 0
AnswersNewest q vs found = (states : ℕ → State) (horizon newest : ℕ) → KeepsStates states horizon newest vs
    → ShowsAnswers q states newest newest found
