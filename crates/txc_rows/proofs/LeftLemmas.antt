-- What is read of the versions of the table with their places.
use Rattle.std.proofs.Common.{◌≡◌, ℕ, ℤ, List, [], ◌∷◌, map, filter, cond, Bool, true, false, refl, sym, ap, subst, ◌∙◌}
use Rattle.std.specs.List.{AllByRecursion, list_all}
use Rattle.std.specs.List.Sorted.{IsPermutation}
use Rattle.std.proofs.lemmas.List.Sorted.{IsPermutation-map}
use Rattle.sqlite.specs.Order.{Row}
use Rattle.sqlite.specs.Command.TheVariants.{Select}
use Rattle.sqlite.specs.Term.{Term, holds, eval_all}
use Rattle.sqlite.specs.Query.{Output, output}
use Rattle.sqlite.specs.Program.{overlay}
use Rattle.sqlite.specs.Tree.{rowid}
use Rattle.sqlite.specs.Edit.{id_in}
use Rattle.sqlite.specs.State.{State, Shown}
use Rattle.sqlite.proofs.Callers.{reads_as}
use Rattle.sqlite_trees.proofs.ListLemmas.{map-map, filter-map, all_of, all_weaker, all-map, all-permutation}
use Rattle.txc_rows.specs.StorableVersions.{IsStorable}
use Rattle.txc_rows.specs.declared.placed.Placed.{Placed}
use Rattle.txc_rows.specs.Texts.{latest_schema}
use Rattle.txc_rows.specs.StoredVersion.{stored, cells_of, placed_in, placed_all, placed_from, IsStored, AreVersionRows, AreCells}
use Rattle.txc_rows.specs.LatestTable.{IsPlacedRow}
use Rattle.txc_rows.proofs.Commands.{alone, whole, endless, cells_project, cells_names, AreCellsOf}
use Rattle.txc_rows.proofs.StoredRows.{select_stored, cells_again, asked, answered, IsPage}

-- what is shown of the rows that pass
projected : (f : Row → Row) (g : Placed → Row) → ((id : ℤ) (x : Placed) → f (stored id x) ≡ g x) → (rows : List Row) → AllByRecursion IsStored rows → (p : Row → Bool)
    → map f (filter p rows) ≡ map g (map placed_in (filter p rows))
projected f g shows [] all p = refl
projected f g shows (r ∷ rows) all p =
    let here : f r ≡ g (placed_in r) = ap f all.0 ∙ shows (id_in (rowid r)) (placed_in r) in
    elim (p r) as (λ b. map f (cond b (r ∷ filter p rows) (filter p rows)) ≡ map g (map placed_in (cond b (r ∷ filter p rows) (filter p rows))))
    [ true ↦ rw (here, projected f g shows rows all.1 p) refl | false ↦ projected f g shows rows all.1 p ]

-- a query on the table shows the versions that pass, in some order
one_table : (fs project : List Term) (params : Row) (P : Placed → Bool) (test : (id : ℤ) (x : Placed) → list_all (holds (params ∷ stored id x ∷ [])) fs ≡ P x)
    (g : Placed → Row) (shows : (id : ℤ) (x : Placed) → eval_all project (params ∷ stored id x ∷ []) ≡ g x) (table rows : List Row) → AllByRecursion IsStored table
    → IsPage fs project endless params table rows → IsPermutation (map g (filter P (placed_all table))) rows
one_table fs project params P test g shows table rows each page =
    let q = asked fs project endless in
    let out = λ (r : Row). output q (params ∷ r ∷ []) in
    let first = λ (o : Output). o.1 in
    let passed = select_stored _ P test table each in
    let moved : IsPermutation (map first (map out (filter (λ r. P (placed_in r)) table))) (map first page.ordered) =
    IsPermutation-map first _ page.ordered (subst (λ xs. IsPermutation (map out xs) page.ordered) passed page.same) in
    let are : map first (map out (filter (λ r. P (placed_in r)) table)) ≡ map g (filter P (placed_all table)) =
    map-map first out (filter (λ r. P (placed_in r)) table) ∙ projected (λ r. eval_all project (params ∷ r ∷ [])) g shows table each (λ r. P (placed_in r)) ∙ ap (map g) (sym (filter-map P placed_in table)) in
    subst (λ xs. IsPermutation xs rows) are (subst (IsPermutation _) (sym page.rows) moved)

all_cells : (xs : List Placed) → AllByRecursion AreCells (map cells_of xs)
all_cells xs = all-map AreCells cells_of xs (all_of _ (λ x. ap cells_of (sym (cells_again x))) xs)

from_cells : (xs : List Placed) → map placed_from (map cells_of xs) ≡ xs
from_cells [] = refl
from_cells (x ∷ xs) = rw (cells_again x, from_cells xs) refl

-- what is read of the versions that pass, with their places
module _ (fs : List Term) (text : List ℕ) (is : AreCellsOf fs text) (params : Row) (P : Placed → Bool) (test : (id : ℤ) (x : Placed) → list_all (holds (params ∷ stored id x ∷ [])) fs ≡ P x) where
  pub cells_read : (old new : State) (rows : List Row) → old.now.schema ≡ latest_schema → AreVersionRows (old.now.trees 0) → Shown text params old new rows
      → IsPermutation (map cells_of (filter P (placed_all (old.now.trees 0)))) rows
  cells_read old new rows has keeps h =
      let read = reads_as text params old new latest_schema has (Select (alone (whole fs cells_project)) cells_names) is.command is.plain is.rows rows h in
      one_table fs cells_project params P test cells_of (λ id x. refl) (old.now.trees 0) rows keeps.each (answered fs cells_project endless (overlay old.now.trees []) params rows read.answer)

-- they are those versions again
pub cells_are : (xs : List Placed) (rows : List Row) → IsPermutation (map cells_of xs) rows → IsPermutation xs (map placed_from rows)
cells_are xs rows same = subst (λ ys. IsPermutation ys (map placed_from rows)) (from_cells xs) (IsPermutation-map placed_from _ rows same)

pub cells_each : (xs : List Placed) (rows : List Row) → IsPermutation (map cells_of xs) rows → AllByRecursion AreCells rows
cells_each xs rows same = all-permutation AreCells _ rows same (all_cells xs)

pub placed_rows : (t : ℕ) (xs : List Placed) (rows : List Row) → IsPermutation (map cells_of xs) rows → AllByRecursion (λ x. (x.version.row.table ≡ t) × IsStorable x.version) xs → AllByRecursion (IsPlacedRow t) rows
placed_rows t xs rows same each = all-permutation (IsPlacedRow t) _ rows same (all-map (IsPlacedRow t) cells_of xs (all_weaker _ _ again xs each))
  where
    again : (x : Placed) → (x.version.row.table ≡ t) × IsStorable x.version → IsPlacedRow t (cells_of x)
    again x is = let same = sym (cells_again x) in record { is = ap cells_of same; table_is = subst (λ y. y.version.row.table ≡ t) same is.0; version = subst (λ y. IsStorable y.version) same is.1 }
