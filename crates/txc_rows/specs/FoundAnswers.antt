-- The answers of a query around a stamp, as found versions give them.
use Rattle.std.specs.Prelude.{◌≡◌, ◌≤◌, ◌↔◌, ℕ, List}
use Rattle.txc_rows.specs.declared.query.Query.{Query}
use Rattle.txc_rows.specs.declared.version.Versioned.{Versioned}
use Rattle.txc_rows.specs.Values.{RowValue}
use Rattle.txc_rows.specs.States.{State, answer}
use Rattle.txc_rows.specs.Versions.{AreVersions, shown_at}
use Rattle.txc_rows.specs.KeptStates.{KeepsStates}

-- each stamp from first to last has the answer of t
abbrev pub HoldsOn : (ℕ → List RowValue) → ℕ → ℕ → ℕ → Type 0
HoldsOn answers t first last = (s : ℕ) → first ≤ s → s ≤ last → answers s ≡ answers t

-- The found versions give the answer at the stamp. On each interval around it, from the horizon to the newest
-- stamp, they give a single answer exactly if the states do. The versions of a table and id follow one another.
pub record ShowsAround (q : Query) (states : ℕ → State) (horizon newest t : ℕ) (found : List Versioned) : Type 0 where
  pub shown : shown_at q t found ≡ answer q (states t)
  pub alike : (first last : ℕ) → horizon ≤ first → first ≤ t → t ≤ last → last ≤ newest
      → HoldsOn (λ s. shown_at q s found) t first last ↔ HoldsOn (λ s. answer q (states s)) t first last
  pub versions : AreVersions found

-- if the versions keep states, the found ones give the answers of these around each kept stamp
abbrev pub AnswersAround : Query → ℕ → List Versioned → List Versioned → Type 0
AnswersAround q t vs found = (states : ℕ → State) (horizon newest : ℕ) → KeepsStates states horizon newest vs
    → horizon ≤ t → t ≤ newest → ShowsAround q states horizon newest t found
