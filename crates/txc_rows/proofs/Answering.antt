-- What the queries show of the table.
use Rattle.std.proofs.Common.{◌≡◌, ℕ, ℤ, Some, take, List, [], ◌∷◌, map, filter, cond, Bool, true, false, refl, sym, ap, subst, ◌∙◌}
use Rattle.std.proofs.lemmas.List.{take-map}
use Rattle.std.proofs.Math.Bool.{and_comm}
use Rattle.std.specs.List.{AllByRecursion, list_all}
use Rattle.std.specs.List.Sorted.{IsPermutation}
use Rattle.sqlite.specs.Order.{Row}
use Rattle.sqlite.specs.Command.TheVariants.{Select}
use Rattle.sqlite.specs.Term.{Term, holds, eval}
use Rattle.sqlite.specs.Query.{Output, output, limited, as_count}
use Rattle.sqlite.specs.Program.{overlay}
use Rattle.sqlite.specs.State.{State, Shown}
use Rattle.sqlite.proofs.Callers.{reads_as}
use Rattle.sqlite_trees.proofs.ListLemmas.{map-map, filter-map, filter_same, all_of, pull_back, all_both, all-filter, all-map, all-permutation}
use Rattle.txc_rows.specs.declared.version.Versioned.{Versioned}
use Rattle.txc_rows.specs.declared.query.Query.{Query}
use Rattle.txc_rows.specs.States.{query_table}
use Rattle.txc_rows.specs.Versions.{suits}
use Rattle.txc_rows.specs.StorableVersions.{IsStorable}
use Rattle.txc_rows.specs.declared.placed.Placed.{Placed}
use Rattle.txc_rows.specs.Placed.{version_of, is_left, left_from}
use Rattle.txc_rows.specs.LatestTable.{IsShown, IsListing}
use Rattle.txc_rows.specs.Texts.{latest_schema}
use Rattle.txc_rows.specs.StoredVersion.{stored, placed_in, placed_all, queried_columns, version_shown, IsStored, AreVersionRows}
use Rattle.txc_rows.proofs.Members.{both_true, passing, filtered_both}
use Rattle.txc_rows.proofs.Commands.{alone, shown_columns, most_shown, listed, shown_names, IsListingOf}
use Rattle.txc_rows.proofs.StoredRows.{select_stored, is_asked, shown_again, answered, IsPage}
use Rattle.txc_rows.proofs.SaysLemmas.{of_its_table}
use Rattle.txc_tags.proofs.All.{all-take}

-- what the query shows, by no order
abbrev out : Versioned → Output
out v = ([], queried_columns v)

-- some of the versions that pass, at most so many
pub record Lists (passes : Versioned → Bool) (most : ℕ) (versions : List Versioned) (rows : List Row) : Type 0 where
  pub found : List Versioned
  pub same : IsPermutation (filter passes versions) found
  pub rows_are : rows ≡ take most (map queried_columns found)

module _ (fs : List Term) (params : Row) where
  outputs : (rows : List Row) → AllByRecursion IsStored rows → (p : Row → Bool)
      → map (λ r. output (listed fs) (params ∷ r ∷ [])) (filter p rows) ≡ map out (map version_of (map placed_in (filter p rows)))
  outputs [] all p = refl
  outputs (r ∷ rows) all p =
      let here : output (listed fs) (params ∷ r ∷ []) ≡ out (version_of (placed_in r)) = ap (λ x. output (listed fs) (params ∷ x ∷ [])) all.0 in
      elim (p r) as (λ b. map (λ x. output (listed fs) (params ∷ x ∷ [])) (cond b (r ∷ filter p rows) (filter p rows)) ≡ map out (map version_of (map placed_in (cond b (r ∷ filter p rows) (filter p rows)))))
      [ true ↦ rw (here, outputs rows all.1 p) refl | false ↦ outputs rows all.1 p ]

  passed : (P : Versioned → Bool) (table : List Row) → map version_of (map placed_in (filter (λ r. P (version_of (placed_in r))) table)) ≡ filter P (map version_of (placed_all table))
  passed P table = ap (map version_of) (sym (filter-map (λ x. P (version_of x)) placed_in table)) ∙ sym (filter-map P version_of (placed_all table))

  lists_page : (P : Versioned → Bool) (most : ℕ) → ((id : ℤ) (x : Placed) → list_all (holds (params ∷ stored id x ∷ [])) fs ≡ P (version_of x)) → as_count (eval most_shown (params ∷ [])) ≡ Some most
      → (table rows : List Row) → AreVersionRows table → IsPage fs shown_columns most_shown params table rows → Lists P most (map version_of (placed_all table)) rows
  lists_page P most test limit table rows keeps page =
      let chosen = select_stored _ (λ x. P (version_of x)) test table keeps.each in
      let moved : IsPermutation (map out (filter P (map version_of (placed_all table)))) page.ordered =
      subst (λ xs. IsPermutation xs page.ordered) (outputs table keeps.each _ ∙ ap (map out) (passed P table))
      (subst (λ xs. IsPermutation (map (λ r. output (listed fs) (params ∷ r ∷ [])) xs) page.ordered) chosen page.same) in
      let back = pull_back out _ page.ordered moved (filter P (map version_of (placed_all table))) refl in
      let all : map (λ (o : Output). o.1) page.ordered ≡ map queried_columns back.0 = ap (map (λ (o : Output). o.1)) back.2 ∙ map-map (λ (o : Output). o.1) out back.0 in
      record { found = back.0; same = back.1; rows_are = page.rows ∙ ap (λ n. limited n (map (λ (o : Output). o.1) page.ordered)) limit ∙ ap (take most) all }

  pub selects : (text : List ℕ) (P : Versioned → Bool) (most : ℕ) → ((id : ℤ) (x : Placed) → list_all (holds (params ∷ stored id x ∷ [])) fs ≡ P (version_of x)) → as_count (eval most_shown (params ∷ [])) ≡ Some most
      → IsListingOf fs text → (old new : State) (rows : List Row) → old.now.schema ≡ latest_schema → AreVersionRows (old.now.trees 0) → Shown text params old new rows
      → Lists P most (map version_of (placed_all (old.now.trees 0))) rows
  selects text P most test limit is old new rows has keeps h =
      let read = reads_as text params old new latest_schema has (Select (alone (listed fs)) shown_names) is.command is.plain is.rows rows h in
      let page = answered fs shown_columns most_shown (overlay old.now.trees []) params rows read.answer in
      lists_page P most test limit (old.now.trees 0) rows keeps page

-- what is shown is read back
read_back : (t : ℕ) (vs : List Versioned) → AllByRecursion (λ v. (v.row.table ≡ t) × IsStorable v) vs → (map (version_shown t) (map queried_columns vs) ≡ vs) × AllByRecursion (IsShown t) (map queried_columns vs)
read_back t [] all = (refl, tt)
read_back t (v ∷ vs) all =
    let one : version_shown t (queried_columns v) ≡ v = subst (λ x. version_shown x (queried_columns v) ≡ v) all.0.0 (shown_again v) in
    let more = read_back t vs all.1 in
    (rw (one, more.0) refl, (record { is = ap queried_columns (sym one); version = subst IsStorable (sym one) all.0.1 }, more.1))

of_table : (q : Query) (from : ℕ) (vs : List Versioned) → AllByRecursion IsStorable vs → AllByRecursion (λ v. (v.row.table ≡ query_table q) × IsStorable v) (filter (is_asked q from) vs)
of_table q from vs all =
    all_both (λ v. is_asked q from v ≡ true) IsStorable _ (λ v e is. (of_its_table q v.row (both_true (suits q v) (is_left from v) e).0, is)) _ (passing (is_asked q from) vs)
    (all-filter IsStorable (is_asked q from) vs all)

-- those of the kept ones that a query asks for
pub asked_left : (q : Query) (from : ℕ) (vs : List Versioned) → filter (suits q) (left_from from vs) ≡ filter (is_asked q from) vs
asked_left q from vs = filtered_both (suits q) (is_left from) vs ∙ filter_same _ _ vs (all_of _ (λ v. and_comm (is_left from v) (suits q v)) vs)

pub listing : (q : Query) (from most : ℕ) (placed : List Placed) (rows : List Row) → AllByRecursion (λ x. IsStorable x.version) placed → Lists (is_asked q from) most (map version_of placed) rows
    → IsListing q most (left_from from (map version_of placed)) rows
listing q from most placed rows each h =
    let t = query_table q in
    let vs = map version_of placed in
    let all = all-permutation _ (filter (is_asked q from) vs) h.found h.same (of_table q from vs (all-map IsStorable version_of placed each)) in
    let first : rows ≡ map queried_columns (take most h.found) = h.rows_are ∙ take-map queried_columns most h.found in
    let back = read_back t (take most h.found) (all-take _ most h.found all) in
    let kept : IsPermutation (filter (suits q) (left_from from vs)) h.found = rw (asked_left q from vs) h.same in
    record {
      each = subst (AllByRecursion (IsShown t)) (sym first) back.1;
      found = h.found;
      same = kept;
      first = ap (map (version_shown t)) first ∙ back.0;
    }
