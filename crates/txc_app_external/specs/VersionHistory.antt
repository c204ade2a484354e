-- Histories of versions that follow the snapshots of a service's database.
use Rattle.std.specs.Prelude.{◌≡◌, ℕ, suc, ◌≤◌, true, List, [], ◌∷◌, ◌++◌}
use Rattle.std.specs.List.{AllByRecursion, Contains, flat_map}
use Rattle.txc_rows.specs.declared.query.Change.{Change}
use Rattle.txc_rows.specs.declared.query.Change.TheVariants.{Put}
use Rattle.txc_db.specs.Facts.{Fact, commit, pin, EventValue, net_of}
use Rattle.txc_db.specs.History.{History, pin_event}
use Rattle.txc_app_external.specs.Snapshots.{Tag, Snapshots, last_snapshot, is_noted, version_row}

-- the change puts the row of a tag that step k noted, with the step's number
abbrev pub PutsVersion : Snapshots → ℕ → Change → Type 0
PutsVersion D k c = (t : Tag) × (is_noted D k t ≡ true) × (c ≡ Put (version_row t k))

-- the event is a commit of only such changes
abbrev pub IsStepCommit : Snapshots → ℕ → Fact → Type 0
IsStepCommit D k (commit net) = AllByRecursion (PutsVersion D k) net
IsStepCommit D k (pin moment) = ⊥

-- each of the events is
abbrev pub AreStepCommits : Snapshots → ℕ → List EventValue → Type 0
AreStepCommits D k events = AllByRecursion (λ e. IsStepCommit D k e.fact) events

-- together they put the row of each tag that step k noted
abbrev pub PutAll : Snapshots → ℕ → List EventValue → Type 0
PutAll D k events = (t : Tag) → is_noted D k t ≡ true
    → Contains (flat_map (λ e. net_of e.fact) events) (Put (version_row t k))

-- The history has followed the snapshots up to snapshot k. It is empty, and k is 0. Or it continues with a pin,
-- whose time is not after that of snapshot k. Or it continues with the commits of the next step, which put all
-- of its versions, and neither a pin nor any other commit is between them.
pub data HasFollowed (D : Snapshots) : History → ℕ → Type 0 where
  start : HasFollowed D [] 0
  pinned : (L : History) (k moment : ℕ) → HasFollowed D L k → moment ≤ D.moment k
      → HasFollowed D (L ++ pin_event moment ∷ []) k
  stepped : (L : History) (k : ℕ) (commits : List EventValue) → HasFollowed D L k → suc k ≤ last_snapshot D
      → AreStepCommits D (suc k) commits → PutAll D (suc k) commits → HasFollowed D (L ++ commits) (suc k)

-- the history follows the snapshots: it has followed them up to one, and may have begun to commit the next step
pub record FollowsSnapshots (D : Snapshots) (L : History) : Type 0 where
  pub complete : History
  pub number : ℕ
  pub commits : List EventValue
  pub is : L ≡ complete ++ commits
  pub followed : HasFollowed D complete number
  pub of_next : AreStepCommits D (suc number) commits
