-- Versions with their places in the one list of versions, apart by which are the last of a table, id and group.
use Rattle.std.specs.Prelude.{◌≡◌, ◌≢◌, ◌⊎◌, ◌<◌, ℕ, Bool, true, false, not, ◌&&◌, ◌||◌, ◌==◌, nat_lt, nat_le, List, [], ◌∷◌, ◌++◌, length, filter, if◌then◌else◌, map, Option, Some, None}
use Rattle.std.specs.List.Sorted.{IsPermutation}
use Rattle.std.specs.List.{AllByRecursion, Contains}
use Rattle.sqlite.specs.Tree.{IsAscending}
use Rattle.txc_rows.specs.declared.placed.Placed.{Placed}
use Rattle.txc_rows.specs.declared.version.Versioned.{Versioned}
use Rattle.txc_rows.specs.Versions.{is_current, closed}
use Rattle.txc_rows.specs.States.{RowValue, is_at}
use Rattle.txc_rows.specs.StorableVersions.{IsStorable}

-- the version without its place
abbrev pub version_of : Placed → Versioned
version_of x = x.version

-- before the first that has a later place
abbrev pub put_at_place : Placed → List Placed → List Placed
put_at_place x [] = x ∷ []
put_at_place x (y ∷ ys) = if nat_lt x.place y.place then x ∷ (y ∷ ys) else y ∷ put_at_place x ys

-- by place
abbrev pub by_place : List Placed → List Placed
by_place [] = []
by_place (x ∷ xs) = put_at_place x (by_place xs)

-- the versions in the order of their places
abbrev pub versions_by_place : List Placed → List Versioned
versions_by_place xs = map version_of (by_place xs)

-- no death, or one at the stamp or later
abbrev pub lasts_to : ℕ → Option ℕ → Bool
lasts_to from None = true
lasts_to from (Some died) = nat_le from died

-- it did not die before the stamp
abbrev pub is_left : ℕ → Versioned → Bool
is_left from v = lasts_to from v.died

-- the versions that did not die before the stamp
abbrev pub left_from : ℕ → List Versioned → List Versioned
left_from from = filter (is_left from)

-- the same with their places
abbrev pub placed_left : ℕ → List Placed → List Placed
placed_left from = filter (λ x. is_left from x.version)

-- the first of them died before the stamp
abbrev pub has_front_died : ℕ → List Placed → Bool
has_front_died from [] = false
has_front_died from (x ∷ xs) = not (is_left from x.version)

-- without those at the front that died before the stamp
abbrev pub without_front_dead : ℕ → List Placed → List Placed
without_front_dead from [] = []
without_front_dead from (x ∷ xs) = if is_left from x.version then x ∷ xs else without_front_dead from xs

-- the version is of that table, id and group
abbrev pub has_key : ℕ → ℕ → ℕ → Placed → Bool
has_key table id group x = is_at table id x.version.row && (x.version.row.group == group)

-- the version is of that group
abbrev pub in_group : ℕ → Placed → Bool
in_group group x = x.version.row.group == group

-- a put of that table, id and group ends or replaces it: it is of the table and id, and current or of the group
abbrev pub is_touched : ℕ → ℕ → ℕ → Placed → Bool
is_touched table id group x = is_at table id x.version.row && (is_current x.version || in_group group x)

-- it is of that table and id, and did not die before the stamp
abbrev pub is_row_left : ℕ → ℕ → ℕ → Placed → Bool
is_row_left table id from x = is_at table id x.version.row && is_left from x.version

-- the version after a change of the table and id at the stamp, at the same place
abbrev pub closed_placed : ℕ → ℕ → ℕ → Placed → Placed
closed_placed table id stamp x = record x { version = closed table id stamp x.version }

-- a new version at its place
abbrev pub new_placed : ℕ → RowValue → ℕ → Placed
new_placed place row stamp = record { place = place; version = record { row = row; born = stamp; died = None } }

-- the new version in place of the last one of its table, id and group
abbrev pub renewed : ℕ → RowValue → ℕ → Placed → Placed
renewed place row stamp x = if has_key row.table row.id row.group x then new_placed place row stamp else x

-- no two have one place
abbrev pub HaveOwnPlaces : List Placed → Type 0
HaveOwnPlaces = IsAscending (λ x y. x.place ≢ y.place)

-- no two are of one table, id and group
abbrev pub HaveOwnKeys : List Placed → Type 0
HaveOwnKeys = IsAscending (λ x y. has_key x.version.row.table x.version.row.id x.version.row.group y ≡ false)

-- each place is below the next one
abbrev pub AreBelow : ℕ → List Placed → Type 0
AreBelow next = AllByRecursion (λ x. x.place < next)

-- of two versions of one table and id, at most one is current
abbrev pub IsOneCurrent : Placed → Placed → Type 0
IsOneCurrent x y = is_at x.version.row.table x.version.row.id y.version.row ≡ true → x.version.died ≡ None
    → y.version.died ≢ None

-- all versions: the last of each table, id and group, and those that were replaced, which have died
pub record AreWellPlaced (latest replaced : List Placed) : Type 0 where
  pub places : HaveOwnPlaces (latest ++ replaced)
  pub keys : HaveOwnKeys latest
  pub current : IsAscending IsOneCurrent latest
  pub ended : AllByRecursion (λ x. x.version.died ≢ None) replaced
  pub each : AllByRecursion (λ x. IsStorable x.version) (latest ++ replaced)

-- the last versions after a put: the new one replaces the last of its table, id and group, or else is appended
abbrev pub put_latest : ℕ → RowValue → ℕ → List Placed → List Placed
put_latest place row stamp latest = if length (filter (has_key row.table row.id row.group) latest) == 0
    then latest ++ new_placed place row stamp ∷ [] else map (renewed place row stamp) latest

-- the replaced versions after it: that last one is among them
abbrev pub put_replaced : RowValue → List Placed → List Placed → List Placed
put_replaced row latest replaced = replaced ++ filter (has_key row.table row.id row.group) latest

-- these are the versions by place, and each place is below the next one
pub record AreWritten (versions : List Versioned) (next : ℕ) (placed : List Placed) : Type 0 where
  pub versions_are : versions_by_place placed ≡ versions
  pub below : AreBelow next placed

-- the same of last versions and replaced ones that are well placed
pub record AreAll (versions : List Versioned) (next : ℕ) (replaced latest : List Placed) : Type 0 where
  pub apart : AreWellPlaced latest replaced
  pub written : AreWritten versions next (latest ++ replaced)

-- they are the same, or only those that did not die before the stamp
abbrev pub AreSwept : ℕ → List Placed → List Placed → Type 0
AreSwept from old new = (new ≡ old) ⊎ IsPermutation (placed_left from old) new

-- each is one of the last versions
abbrev pub AreAmong : List Placed → List Placed → Type 0
AreAmong latest = AllByRecursion (λ x. Contains latest x)

-- the last versions of other tables and ids stay
abbrev pub KeepsOthers : ℕ → ℕ → List Placed → List Placed → Type 0
KeepsOthers table id old new = (x : Placed) → Contains old x → is_at table id x.version.row ≡ false → Contains new x

-- more were added at the end
pub record AddsAtEnd (old new : List Placed) : Type 0 where
  pub more : List Placed
  pub are : new ≡ old ++ more
