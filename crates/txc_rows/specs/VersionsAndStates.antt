-- Descriptions of states by versions.
use Rattle.std.specs.Prelude.{ℕ, ◌≡◌, ◌≤◌, ◌<◌, List, [], ◌∷◌, Some}
use Rattle.std.specs.List.{AllByRecursion, Contains}
use Rattle.txc_rows.specs.States.{RowValue, State}
use Rattle.txc_rows.specs.declared.version.Versioned.{Versioned}
use Rattle.txc_rows.specs.Versions.{visible_rows}

-- the versions that are visible at the stamp have the rows of the state, and no others
pub record VersionsSay (t : ℕ) (vs : List Versioned) (s : State) : Type 0 where
  pub each : (r : RowValue) → Contains s r → Contains (visible_rows t vs) r
  pub only : (r : RowValue) → Contains (visible_rows t vs) r → Contains s r

-- nothing has happened after the stamp
abbrev pub AreUpTo : ℕ → List Versioned → Type 0
AreUpTo t = AllByRecursion (λ v. (v.born ≤ t) × ((d : ℕ) → v.died ≡ Some d → d ≤ t))

-- each state from the horizon to the newest stamp is described, and no version is born or dies later
pub record SaysStates (states : ℕ → State) (horizon newest : ℕ) (vs : List Versioned) : Type 0 where
  pub kept : (t : ℕ) → horizon ≤ t → t ≤ newest → VersionsSay t vs (states t)
  pub upto : AreUpTo newest vs

-- strictly by id
abbrev pub IdsAscend : List RowValue → Type 0
IdsAscend [] = Unit {0}
IdsAscend (r ∷ rs) = AllByRecursion (λ (s : RowValue). r.id < s.id) rs × IdsAscend rs
