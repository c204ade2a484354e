-- The index of replaced versions: definitions for this crate's private functions only.
use Rattle.std.specs.Prelude.{ℕ, Bool, ◌<◌, ◌≤◌, ◌+◌, ◌-◌, ◌^◌, ◌&&◌, ◌==◌, nat_le, true, false, List, [], ◌∷◌, length, map, filter, option_to_list, Option, Some, None}
use Rattle.std.specs.List.{flat_map, slice_get, AllByRecursion, Contains}
use Rattle.std.specs.List.Sorted.{IsPermutation}
use Rattle.txc_rows.specs.declared.placed.Placed.{Placed}
use Rattle.txc_rows.specs.declared.query.Query.{Query}
use Rattle.txc_rows.specs.declared.query.Query.TheVariants.{ById, ByGroup, All, Range}
use Rattle.txc_rows.specs.declared.replaced.Spot.{Spot}
use Rattle.txc_rows.specs.declared.replaced.Deaths.{Deaths}
use Rattle.txc_rows.specs.declared.version.Versioned.{Versioned}
use Rattle.txc_rows.specs.Versions.{suits}
use Rattle.txc_rows.specs.Placed.{version_of}

-- the id of a version
abbrev pub version_id : Placed → ℕ
version_id x = x.version.row.id

-- its group
abbrev pub version_group : Placed → ℕ
version_group x = x.version.row.group

-- the stamp of a death, or 0 if there is none
abbrev pub stamp_or_zero : Option ℕ → ℕ
stamp_or_zero None = 0
stamp_or_zero (Some died) = died

-- the stamp at which the version died
abbrev pub death_of : Versioned → ℕ
death_of v = stamp_or_zero v.died

-- the spot of a version by its id or its group, by its death and by its number
abbrev pub spot_of : (Placed → ℕ) → ℕ → Placed → Spot
spot_of key number x =
    record { table = x.version.row.table; key = key x; death = death_of x.version; number = number }

-- the spots of versions that are numbered from that number on
abbrev pub spots_from : (Placed → ℕ) → ℕ → List Placed → List Spot
spots_from key number [] = []
spots_from key number (x ∷ xs) = spot_of key number x ∷ spots_from key (number + 1) xs

-- its numbers are those of a machine
abbrev pub FitsSpot : Spot → Type 0
FitsSpot s = (s.key < 2 ^ 32) × (s.death < 2 ^ 64) × (s.number < 2 ^ 64)

-- both sets have the spots of all versions
pub record AreIndexed (first : ℕ) (versions : List Placed) (ids groups : List Spot) : Type 0 where
  pub fits : first + length versions < 2 ^ 64
  pub by_id : IsPermutation (spots_from version_id first versions) ids
  pub by_group : IsPermutation (spots_from version_group first versions) groups

-- the number is that one or a later one
abbrev pub is_from : ℕ → Spot → Bool
is_from number s = nat_le number s.number

-- the version died from the one stamp to the other
abbrev pub dies_between : ℕ → ℕ → Versioned → Bool
dies_between low high v = nat_le low (death_of v) && nat_le (death_of v) high

-- the spot is of a version from the number on that died from the one stamp to the other
abbrev pub dies_within : Deaths → Spot → Bool
dies_within d s = is_from d.number s && (nat_le d.low s.death && nat_le s.death d.high)

-- the spot has this table, and a key from the first to the last
abbrev pub is_between : ℕ → ℕ → ℕ → Spot → Bool
is_between table first last s = (s.table == table) && (nat_le first s.key && nat_le s.key last)

-- the spot is of a version that the query asks for
abbrev pub spot_suits : Query → Spot → Bool
spot_suits (ById table id) = is_between table id id
spot_suits (ByGroup table group) = is_between table group group
spot_suits (All table) = λ s. s.table == table
spot_suits (Range table first last) = is_between table first last

-- the set of the two in which the query is looked up
abbrev pub spots_asked : Query → List Spot → List Spot → List Spot
spots_asked (ById table id) ids groups = ids
spots_asked (ByGroup table group) ids groups = groups
spots_asked (All table) ids groups = ids
spots_asked (Range table first last) ids groups = ids

-- the versions at the spots, if the first version has that number
abbrev pub picked : ℕ → List Placed → List Spot → List Placed
picked first versions = flat_map (λ s. option_to_list (slice_get versions (s.number - first)))

-- ---- those that died between two stamps

-- the versions that the query asks for and that died from the one stamp to the other
abbrev pub dead_between : Query → ℕ → ℕ → List Placed → List Versioned
dead_between q low high xs = filter (λ v. dies_between low high v && suits q v) (map version_of xs)

-- the query asks for the versions of one id or of one group
abbrev pub has_one_key : Query → Bool
has_one_key (ById table id) = true
has_one_key (ByGroup table group) = true
has_one_key (All table) = false
has_one_key (Range table first last) = false

-- deaths ascend in the list
abbrev pub DeathsAscend : List Spot → Type 0
DeathsAscend [] = Unit {0}
DeathsAscend (s ∷ ss) = AllByRecursion (λ t. s.death ≤ t.death) ss × DeathsAscend ss

-- it is one of them, and none died earlier
pub record IsEarliest (ss : List Spot) (s : Spot) : Type 0 where
  pub there : Contains ss s
  pub least : AllByRecursion (λ t. s.death ≤ t.death) ss

-- it is one of them, and none died later
pub record IsLatest (ss : List Spot) (s : Spot) : Type 0 where
  pub there : Contains ss s
  pub greatest : AllByRecursion (λ t. t.death ≤ s.death) ss

-- it is one of the versions, and none died earlier
pub record DiedFirst (vs : List Versioned) (w : Versioned) : Type 0 where
  pub others : List Versioned
  pub all : IsPermutation vs (w ∷ others)
  pub least : AllByRecursion (λ v. death_of w ≤ death_of v) others

-- it is one of the versions, and none died later
pub record DiedLast (vs : List Versioned) (w : Versioned) : Type 0 where
  pub others : List Versioned
  pub all : IsPermutation vs (w ∷ others)
  pub greatest : AllByRecursion (λ v. death_of v ≤ death_of w) others
