-- The versions that are found for a query.
use Rattle.std.specs.Prelude.{◌≡◌, ◌⊎◌, ◌<◌, ◌≤◌, ℕ, List, ◌++◌, Some, filter}
use Rattle.std.specs.List.{AllByRecursion, Contains}
use Rattle.std.specs.List.Sorted.{IsPermutation, IsSorted}
use Rattle.txc_rows.specs.declared.query.Query.{Query}
use Rattle.txc_rows.specs.declared.version.Versioned.{Versioned}
use Rattle.txc_rows.specs.Versions.{suits, version_cmp}

-- the versions whose rows the query asks for, all of them, by id and birth
pub record Finds (q : Query) (vs found : List Versioned) : Type 0 where
  pub same : IsPermutation (filter (suits q) vs) found
  pub sorted : IsSorted version_cmp found

-- ---- at one stamp

-- w died nearer to the stamp than v, or at the same one. That is so if v died by the stamp, and w did so no
-- earlier. It is so too if they are of one table and id, v died after the stamp, and w did so no later.
abbrev pub IsNearer : ℕ → Versioned → Versioned → Type 0
IsNearer t w v = (d : ℕ) × (e : ℕ) × (v.died ≡ Some d) × (w.died ≡ Some e)
    × (((d ≤ e) × (e ≤ t)) ⊎ ((v.row.table ≡ w.row.table) × (v.row.id ≡ w.row.id) × (t < e) × (e ≤ d)))

-- one of the found versions died nearer to the stamp
abbrev pub IsNeedless : ℕ → List Versioned → Versioned → Type 0
IsNeedless t found v = (w : Versioned) × Contains found w × IsNearer t w v

-- among the versions whose rows the query selects, exactly those that matter at the stamp are found, by id and
-- birth
pub record FindsAround (q : Query) (t : ℕ) (vs found : List Versioned) : Type 0 where
  pub rest : List Versioned
  pub all : IsPermutation (filter (suits q) vs) (found ++ rest)
  pub needless : AllByRecursion (IsNeedless t found) rest
  pub sorted : IsSorted version_cmp found
