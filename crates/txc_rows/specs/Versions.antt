-- Row versions, what of them is visible at a stamp, and what writes and purges make of them.
use Rattle.std.specs.Prelude.{◌≡◌, ◌≢◌, ◌<◌, ◌≤◌, ⊤, ℕ, ◌-◌, Bool, true, false, ◌&&◌, nat_le, nat_lt, List, [], ◌∷◌, ◌++◌, filter, if◌then◌else◌, map, Option, Some, None, is_none, not}
use Rattle.std.specs.declared.cmp.Ordering.{Ordering}
use Rattle.std.specs.Ordering.{nat_cmp, ordering_then}
use Rattle.std.specs.List.{AllByRecursion}
use Rattle.txc_stamp.specs.declared.stamp.TheConstants.{MOST_STAMP}
use Rattle.txc_rows.specs.declared.version.Versioned.{Versioned}
use Rattle.txc_rows.specs.declared.query.Query.{Query}
use Rattle.txc_rows.specs.declared.query.Change.{Change}
use Rattle.txc_rows.specs.declared.query.Change.TheVariants.{Put, Remove}
use Rattle.txc_rows.specs.States.{RowValue, is_at, matches}
use Rattle.txc_rows.specs.Values.{IsRow}

-- no death, or a later one than the stamp
abbrev pub lives_at : ℕ → Option ℕ → Bool
lives_at t None = true
lives_at t (Some died) = nat_lt t died

-- from its birth to the stamp before its death
abbrev pub is_visible : ℕ → Versioned → Bool
is_visible t v = nat_le v.born t && lives_at t v.died

-- the row of a version
abbrev pub row_of : Versioned → RowValue
row_of v = v.row

-- its row is one that the query asks for
abbrev pub suits : Query → Versioned → Bool
suits q v = matches q v.row

-- the rows of a stamp
abbrev pub visible_rows : ℕ → List Versioned → List RowValue
visible_rows t vs = map row_of (filter (is_visible t) vs)

-- the rows that a query shows at a stamp, in the order of the versions
abbrev pub shown_at : Query → ℕ → List Versioned → List RowValue
shown_at q t vs = map row_of (filter (λ v. is_visible t v && suits q v) vs)

-- by id, then by birth
abbrev pub version_cmp : Versioned → Versioned → Ordering
version_cmp v w = ordering_then (nat_cmp v.row.id w.row.id) (nat_cmp v.born w.born)

-- ---- the versions after writes and purges

-- no later write changed its row
abbrev pub is_current : Versioned → Bool
is_current v = is_none v.died

-- the versions that have not died
abbrev pub current : List Versioned → List Versioned
current = filter is_current

-- the version after a change of the table and id at the stamp: the current one ends there
abbrev pub closed : ℕ → ℕ → ℕ → Versioned → Versioned
closed table id stamp v =
    record v { died = if is_at table id v.row && is_current v then Some stamp else v.died }

-- the versions after a removal
abbrev pub removed : ℕ → ℕ → ℕ → List Versioned → List Versioned
removed table id stamp = map (closed table id stamp)

-- the versions after a put
abbrev pub put : RowValue → ℕ → List Versioned → List Versioned
put row stamp vs = removed row.table row.id stamp vs ++ record { row = row; born = stamp; died = None } ∷ []

-- the versions after one change at the stamp
abbrev pub after_write : ℕ → Change → List Versioned → List Versioned
after_write stamp (Put row) vs = put row stamp vs
after_write stamp (Remove table id) vs = removed table id stamp vs

-- the versions after the changes of one commit
abbrev pub after_net : ℕ → List Change → List Versioned → List Versioned
after_net stamp [] vs = vs
after_net stamp (c ∷ cs) vs = after_net stamp cs (after_write stamp c vs)

-- a death at the horizon or before it
abbrev pub died_by : ℕ → Option ℕ → Bool
died_by horizon None = false
died_by horizon (Some died) = nat_le died horizon

-- it is visible at no stamp from the horizon on
abbrev pub has_died_by : ℕ → Versioned → Bool
has_died_by horizon v = died_by horizon v.died

-- the versions that a purge leaves
abbrev pub purged : ℕ → List Versioned → List Versioned
purged horizon = filter (λ v. not (has_died_by horizon v))

-- the stamp of a death, counted from that stamp on
abbrev pub death_from : ℕ → Option ℕ → Option ℕ
death_from first None = None
death_from first (Some died) = Some (died - first)

-- the version with stamps counted from that one on: each earlier stamp is 0
abbrev pub counted_from : ℕ → Versioned → Versioned
counted_from first v = record v { born = v.born - first; died = death_from first v.died }

-- ---- invariants of a list of versions

-- a row that is in the state at some stamps
pub record IsVersion (v : Versioned) : Type 0 where
  pub row : IsRow v.row
  pub born : v.born ≤ MOST_STAMP
  pub life : (d : ℕ) → v.died ≡ Some d → (v.born < d) × (d ≤ MOST_STAMP)

-- of two versions of a table and id the earlier died by the other's birth, and if it died at that stamp they
-- differ
pub record Follows (v w : Versioned) : Type 0 where
  pub died : v.row.table ≡ w.row.table → v.row.id ≡ w.row.id
      → (d : ℕ) × (v.died ≡ Some d) × (d ≤ w.born) × (d ≡ w.born → v.row ≢ w.row)

-- each earlier element with each later one
abbrev pub Pairwise : (Versioned → Versioned → Type 0) → List Versioned → Type 0
Pairwise R [] = ⊤
Pairwise R (v ∷ vs) = AllByRecursion (R v) vs × Pairwise R vs

-- each is a version, and of any two of a table and id the later follows the earlier
pub record AreVersions (vs : List Versioned) : Type 0 where
  pub each : AllByRecursion IsVersion vs
  pub apart : Pairwise Follows vs

-- ---- the writes that they allow

-- a put is later than this version, and differs from its row if it is current
pub record IsPutOver (stamp : ℕ) (row : RowValue) (v : Versioned) : Type 0 where
  pub born : v.born < stamp
  pub differs : v.died ≡ None → v.row ≢ row
  pub died : (d : ℕ) → v.died ≡ Some d → (d ≤ stamp) × (d ≡ stamp → v.row ≢ row)

-- no version of its table and id began at the stamp or later, and a put changes the current row
abbrev pub IsChange : ℕ → Change → List Versioned → Type 0
IsChange stamp (Put row) vs =
    AllByRecursion (λ v. v.row.table ≡ row.table → v.row.id ≡ row.id → IsPutOver stamp row v) vs
IsChange stamp (Remove table id) vs =
    AllByRecursion (λ v. v.row.table ≡ table → v.row.id ≡ id → v.born < stamp) vs

-- each change is one of the versions that those before it leave
abbrev pub AreChanges : ℕ → List Change → List Versioned → Type 0
AreChanges stamp [] vs = ⊤
AreChanges stamp (c ∷ cs) vs = IsChange stamp c vs × AreChanges stamp cs (after_write stamp c vs)
