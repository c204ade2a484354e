-- The identity of a history.
use Rattle.std.specs.Prelude.{◌≡◌, ◌⊎◌, ℕ, List, refl}
use mathlib.Core.Logic.{inl, inr}
use Rattle.std.specs.Coded.{Coded, code_by, coded⊎, coded_ℕ, coded_list}

-- the identity of a stored history is the list of the names of its log's cells; that of a ghost one is a number
pub data Name : Type 0 where
  stored : List ℕ → Name
  unstored : ℕ → Name

-- the history is stored in a row
abbrev pub HasRow : Name → Type 0
HasRow (stored cells) = Unit {0}
HasRow (unstored number) = ⊥

-- ---- the code of names

abbrev as_sum : Name → List ℕ ⊎ ℕ
as_sum (stored cells) = inl cells
as_sum (unstored number) = inr number

abbrev of_sum : List ℕ ⊎ ℕ → Name
of_sum (inl cells) = stored cells
of_sum (inr number) = unstored number

pub of_as_sum : (name : Name) → of_sum (as_sum name) ≡ name
of_as_sum (stored cells) = refl
of_as_sum (unstored number) = refl

abbrev pub coded_name : Coded Name
coded_name = code_by (List ℕ ⊎ ℕ) (coded⊎ (coded_list coded_ℕ) coded_ℕ) as_sum of_sum of_as_sum
