-- A store of versions through all that is done to it.
use Rattle.std.specs.Prelude.{ℕ, suc, ◌≡◌, ◌≤◌, ◌<◌, nat_le, max, List, [], ◌∷◌, if◌then◌else◌, fold}
use Rattle.std.specs.List.{AllByRecursion}
use Rattle.txc_rows.specs.declared.query.Query.{Query}
use Rattle.txc_rows.specs.declared.query.Change.{Change}
use Rattle.txc_rows.specs.declared.version.Versioned.{Versioned}
use Rattle.txc_rows.specs.States.{State, answer, after_changes}
use Rattle.txc_rows.specs.Net.{IsNet}
use Rattle.txc_rows.specs.Versions.{AreVersions, shown_at, after_net, purged}
use Rattle.txc_rows.specs.FoundVersions.{Finds}
use Rattle.txc_rows.specs.StorableVersions.{IsWritable}
use Rattle.txc_rows.specs.KeptStates.{KeepsStates}

-- a write of net changes at a stamp, or a purge up to a horizon
pub data Use : Type 0 where
  write : List Change → ℕ → Use
  purge : ℕ → Use

-- the versions after a use
abbrev pub versions_after_use : List Versioned → Use → List Versioned
versions_after_use vs (write net stamp) = after_net stamp net vs
versions_after_use vs (purge horizon) = purged horizon vs

-- the versions of an empty store after these uses
abbrev pub versions_after : List Use → List Versioned
versions_after = fold versions_after_use []

-- the state at a stamp after a use: a write changes it from its own stamp on, and a purge changes no state
abbrev pub use_at : ℕ → State → Use → State
use_at t s (write net stamp) = if nat_le stamp t then after_changes net s else s
use_at t s (purge horizon) = s

-- the state at a stamp: all writes up to it, from no rows
abbrev pub state_after : List Use → ℕ → State
state_after uses t = fold (use_at t) [] uses

-- the horizon after one more use of the store
abbrev pub horizon_after_use : ℕ → Use → ℕ
horizon_after_use horizon (write net stamp) = horizon
horizon_after_use horizon (purge next) = next

-- the horizon of the last purge
abbrev pub horizon_after : List Use → ℕ
horizon_after = fold horizon_after_use 0

-- writes of net changes of the state at rising stamps, and purges at rising horizons
abbrev pub AreUsesInOrder : State → ℕ → ℕ → List Use → Type 0
AreUsesInOrder s horizon newest [] = Unit {0}
AreUsesInOrder s horizon newest (write net stamp ∷ uses) = (newest < stamp)
    × IsNet s net (after_changes net s) × AllByRecursion (IsWritable stamp) net
    × AreUsesInOrder (after_changes net s) horizon stamp uses
AreUsesInOrder s horizon newest (purge next ∷ uses) = (horizon ≤ next) × AreUsesInOrder s next (max newest next) uses

-- from an empty store, after any writes of net changes at rising stamps and purges at rising horizons,
-- the versions found for a query show its answer at every kept stamp
abbrev pub UsesAnswer : Type 0
UsesAnswer = (uses : List Use) (q : Query) (found : List Versioned) (t : ℕ)
    → AreUsesInOrder [] 0 0 uses → Finds q (versions_after uses) found → horizon_after uses ≤ t
    → (shown_at q t found ≡ answer q (state_after uses t)) × AreVersions found

-- ---- one call after another

-- an empty store keeps a history that begins with the empty state
abbrev pub KeepsNothing : Type 0
KeepsNothing = (states : ℕ → State) → states 0 ≡ [] → KeepsStates states 0 0 []

-- only the kept states count
abbrev pub KeepsAgreed : Type 0
KeepsAgreed = (states others : ℕ → State) (horizon newest : ℕ) (vs : List Versioned)
    → ((t : ℕ) → horizon ≤ t → t ≤ newest → states t ≡ others t)
    → KeepsStates states horizon newest vs → KeepsStates others horizon newest vs

-- a stamp at which the state does not change needs no write
abbrev pub KeepsQuiet : Type 0
KeepsQuiet = (states : ℕ → State) (horizon newest : ℕ) (vs : List Versioned)
    → states (suc newest) ≡ states newest → KeepsStates states horizon newest vs
    → KeepsStates states horizon (suc newest) vs
