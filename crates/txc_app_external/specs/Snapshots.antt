-- The snapshots of a service's own database, and the versions of their tags.
use Rattle.std.specs.Prelude.{◌≡◌, ℕ, zero, suc, ◌<◌, ◌≤◌, Bool, false, ◌&&◌, ◌==◌, if◌then◌else◌, List, [], ◌∷◌, length, slice_index_or, Option, Some, None}
use Rattle.std.specs.List.{list_any}
use Rattle.std.specs.Fmt.{decimal}
use Rattle.txc_rows.specs.declared.query.Query.TheVariants.{ById}
use Rattle.txc_rows.specs.States.{RowValue, State, answer}

-- a read of the service's database, by its text: a query with its arguments
abbrev pub Read : Type 0
Read = List ℕ

-- a tag, by the two numbers of its row in the version table; tags that share a row are one
pub record Tag : Type 0 where
  pub table : ℕ
  pub id : ℕ

-- The snapshots that a service took of its database, by number, the first one 0. Each step from a snapshot to
-- the next one has the tags that were noted in it. A read has the tags on which it depends, and the bytes that
-- it finds in a snapshot. A snapshot began at its moment or after it.
pub record Snapshots : Type 0 where
  pub steps : List (List Tag)
  pub tags_of : Read → List Tag
  pub find : ℕ → Read → List ℕ
  pub moment : ℕ → ℕ

-- the number of the newest snapshot
abbrev pub last_snapshot : Snapshots → ℕ
last_snapshot D = length D.steps

-- the tags that were noted in step k, which leads from snapshot k - 1 to snapshot k
abbrev pub step : Snapshots → ℕ → List Tag
step D zero = []
step D (suc before) = slice_index_or D.steps before []

-- the tags are equal
abbrev pub equal_tags : Tag → Tag → Bool
equal_tags t u = t.table == u.table && t.id == u.id

-- step k noted the tag
abbrev pub is_noted : Snapshots → ℕ → Tag → Bool
is_noted D k t = list_any (equal_tags t) (step D k)

-- step k noted a tag on which the read depends
abbrev pub is_read_noted : Snapshots → ℕ → Read → Bool
is_read_noted D k r = list_any (is_noted D k) (D.tags_of r)

-- The premise: if no step between two snapshots noted a tag of a read, the read finds the same in both.
abbrev pub ReadsAreCovered : Snapshots → Type 0
ReadsAreCovered D = (r : Read) (i j : ℕ) → i ≤ j → j ≤ last_snapshot D
    → ((k : ℕ) → i < k → k ≤ j → is_read_noted D k r ≡ false) → D.find i r ≡ D.find j r

-- the last step, k at most, that noted the tag, if there is one
abbrev pub last_noted : Snapshots → Tag → ℕ → Option ℕ
last_noted D t zero = None
last_noted D t (suc k) = if is_noted D (suc k) t then Some (suc k) else last_noted D t k

-- the row under a tag whose version is n: its body is this number as a text
abbrev pub version_row : Tag → ℕ → RowValue
version_row t n = record { table = t.table; id = t.id; group = 0; body = decimal n }

-- the rows under a tag that was noted last in this step, if it was noted
abbrev pub version_rows : Tag → Option ℕ → List RowValue
version_rows t None = []
version_rows t (Some n) = version_row t n ∷ []

-- The state of the cache's own rows is the version table of snapshot k: under each tag it has the number of the
-- last step, k at most, that noted it, and no row if there is none.
abbrev pub IsVersionTable : Snapshots → ℕ → State → Type 0
IsVersionTable D k s = (t : Tag) → answer (ById t.table t.id) s ≡ version_rows t (last_noted D t k)
