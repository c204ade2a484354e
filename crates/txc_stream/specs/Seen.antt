-- The ownership of observed records.
use Rattle.std.specs.Prelude.{◌≡◌, ℕ, ◌<◌, List, [], ◌∷◌, ◌++◌, length, map, slice_index}
use base.Fml.{Fml, ftrue, ffalse, fsep}
use base.Fraction.{full_share}
use base.Growing.{Order, prefixes, latest, at_least}
use base.Stored.{Gv, Coded}
use denote.RattleType.{RattleType}
use Rattle.std.specs.declared.option.Option.{Option}
use Rattle.std.specs.declared.option.Option.TheVariants.{None, Some}
use Rattle.once_cell.specs.Once.{noted}
use Rattle.txc_stream.specs.Names.{Name, stored, unstored}

-- each record stays in its cell
abbrev pub stand : (R : RattleType) → List R.Denot → List ℕ → Fml
stand R [] row = ftrue
stand R (x ∷ xs) [] = ffalse
stand R (x ∷ xs) (cell ∷ row) = fsep (noted R cell (Some x)) (stand R xs row)

-- ---- ghost histories

-- a list is kept as its ghost values, in an algebra that names no type parameter
abbrev pub plain_code : Coded Gv
plain_code = record { code = λ g. g; inj = λ x y p. p }

abbrev pub growing_lists : Order (List Gv)
growing_lists = prefixes plain_code

-- the list that was written so far, and the right to append to it
abbrev pub written : (R : RattleType) → ℕ → List R.Denot → Fml
written R number list = latest growing_lists full_share number (map R.coded.code list)

-- it has reached this list
abbrev pub reached : (R : RattleType) → ℕ → List R.Denot → Fml
reached R number list = at_least growing_lists number (map R.coded.code list)

-- ---- either

-- these are the first records of the history of this name, for good
abbrev pub begins : (R : RattleType) → List R.Denot → Name → Fml
begins R list (stored cells) = stand R list cells
begins R list (unstored number) = reached R number list

-- the cell of a stored history at this place
abbrev pub IsCellAt : Name → ℕ → ℕ → Type 0
IsCellAt (stored cells) at cell = cell ≡ slice_index cells at
IsCellAt (unstored number) at cell = ⊥

-- the cell of a stored history after n records
abbrev pub IsCellAfter : Name → ℕ → ℕ → Type 0
IsCellAfter (stored cells) n cell = (n < length cells) × (cell ≡ slice_index cells n)
IsCellAfter (unstored number) n cell = ⊥

-- the records, and after them the one that a note knows, if it knows one
abbrev pub with_known : {T : Type 0} → List T → Option T → List T
with_known list None = list
with_known list (Some x) = list ++ x ∷ []
