-- The records of a front, and the history that it belongs to.
use Rattle.std.specs.Prelude.{◌≡◌, ℕ, ◌≤◌, List, length, map, refl}
use Rattle.std.specs.Coded.{Coded, code_by, coded×, coded_list}
use Rattle.once_cell.specs.Once.{cell_name}
use Rattle.std.specs.declared.alloc.Global.{Global}
use Rattle.txc_stream.specs.Names.{Name, stored, coded_name}
use Rattle.txc_stream.specs.declared.seen.Seen.{Seen}
use Rattle.txc_stream.specs.declared.row.TheConstants.{MAX_CAPACITY}

-- the name of a history, and the first records of it that were seen
pub record Shown (T : Type 0) : Type 0 where
  pub name : Name
  pub list : List T

-- the code of what a front shows, made of that of its records
abbrev pub shown_code : {T : Type 0} → Coded T → Coded (Shown T)
shown_code {T} c =
    code_by (Name × List T) (coded× coded_name (coded_list c))
    (λ s. (s.name, s.list)) (λ p. record { name = p.0; list = p.1 }) (λ _. refl)

-- the number of records that a log may have room for
pub record IsCapacity (n : ℕ) : Type 0 where
  pub least : 1 ≤ n
  pub most : n ≤ MAX_CAPACITY

-- the names of the cells
abbrev pub names_of : List (Global × ℕ) → List ℕ
names_of cs = map cell_name cs

-- the value of a front with these records
abbrev pub shown_by_seen : {T : Type 0} → Seen T → Shown T
shown_by_seen s = record { name = s.name; list = s.list }

-- a stored history has a cell for each of n records
abbrev pub HasCells : Name → ℕ → Type 0
HasCells name n = (cells : List ℕ) → name ≡ stored cells → (n ≤ length cells) × (length cells ≤ MAX_CAPACITY)

-- `len` records were observed, and if they are stored, the log has a cell for each
pub record IsSeen {T : Type 0} (s : Seen T) (len : ℕ) : Type 0 where
  pub shown : length s.list ≡ len
  pub within : HasCells s.name len
