-- What the statements that write do to the versions in the table.
use Rattle.std.proofs.Common.{◌≡◌, inl, ℕ, ℤ, pos, ◌≤◌, List, [], ◌∷◌, ◌++◌, map, filter, length, Bool, true, false, ◌&&◌, None, Ok, refl, sym, ap, subst, ◌∙◌, arith}
use Rattle.std.proofs.lemmas.List.{length-map, map-append}
use Rattle.std.specs.List.{AllByRecursion, list_all}
use Rattle.std.specs.List.Sorted.{IsPermutation}
use Rattle.std.proofs.lemmas.List.Sorted.{length_permutation}
use Rattle.sqlite.specs.declared.types.Value.TheVariants.{Null, Int, Blob}
use Rattle.sqlite.specs.Order.{Row, value_cmp}
use Rattle.sqlite.specs.Command.TheVariants.{Insert, Update}
use Rattle.sqlite.specs.Source.TheVariants.{Values}
use Rattle.sqlite.specs.Edit.{edit_of, edited, id_in, next_rowid}
use Rattle.sqlite.specs.Rowids.TheVariants.{Chosen, Given}
use Rattle.sqlite.specs.Does.{Does}
use Rattle.sqlite.specs.Query.{Output, output}
use Rattle.sqlite.specs.Term.{Term, holds, eval_all}
use Rattle.sqlite.specs.Program.{overlay}
use Rattle.sqlite.specs.Tree.{Trees, put_row, without_rowid, rowid, IsTable}
use Rattle.sqlite_rules.specs.Calls.{ids_of}
use Rattle.sqlite.specs.Listing.{understood}
use Rattle.sqlite.specs.State.{State, mode_of, Executes}
use Rattle.sqlite.proofs.Callers.{statement_of, runs_as, one_permutation}
use Rattle.sqlite_rules.proofs.ListLemmas.{all_has, has_filtered}
use Rattle.sqlite_trees.proofs.ListLemmas.{filter-map, all_of, all_weaker, all-map}
use Rattle.sqlite_trees.proofs.TreeLemmas.{IsTable-put_row, all-put_row}
use Rattle.std.specs.declared.cmp.Ordering.TheVariants.{Less}
use Rattle.txc_rows.specs.Values.{RowValue}
use Rattle.txc_rows.specs.States.{is_at}
use Rattle.txc_rows.specs.Versions.{is_current}
use Rattle.txc_rows.specs.declared.placed.Placed.{Placed}
use Rattle.txc_rows.specs.Placed.{has_key, closed_placed, renewed}
use Rattle.txc_rows.specs.StoredVersion.{stored, cells_of, number, placed_in, placed_all, IsStored, AreVersionRows}
use Rattle.txc_rows.specs.declared.texts.TheConstants.{ADD_LATEST, END_VERSION, RENEW_LATEST}
use Rattle.txc_rows.proofs.Commands.{Means, whole, endless, alone, terms, add_latest_is, close_filter, close_project, close_is, key_filter, renew_project, renew_is}
use Rattle.txc_rows.specs.Texts.{latest_table, latest_schema}
use Rattle.txc_rows.proofs.StoredRows.{close_test, renew_test, select_stored, placed_again, asked, answered, IsPage}
use Rattle.txc_rows.proofs.Tables.{IsKeyed, next_above, put_row_last, spared, replaced}
use Rattle.txc_rows.proofs.Steps.{cast_null, cast_int, inserts_rows, updates_rows, one_more}
use Rattle.txc_rows.proofs.PutLemmas.{key_is}

-- the table is there, and these are the versions in it
pub record Leaves (latest : List Placed) (s : State) : Type 0 where
  pub schema : s.now.schema ≡ latest_schema
  pub rows : AreVersionRows (s.now.trees 0)
  pub latest_are : placed_all (s.now.trees 0) ≡ latest

pub keyed_all : (rows : List Row) → AllByRecursion IsStored rows → AllByRecursion IsKeyed rows
keyed_all rows all = all_weaker IsStored IsKeyed (λ r is. ap rowid is) rows all

is_stored : (id : ℤ) (x : Placed) → IsStored (stored id x)
is_stored id x = ap (stored id) (sym (placed_again id x))

-- ---- a row more

stored_put : (id : ℤ) (x : Placed) (rows : List Row) → AreVersionRows rows → AreVersionRows (put_row (stored id x) rows)
stored_put id x rows h = record { table = IsTable-put_row (stored id x) rows h.table; each = all-put_row IsStored (stored id x) rows (is_stored id x) h.each }

placed_put : (x : Placed) (rows : List Row) → AreVersionRows rows → placed_all (put_row (stored (next_rowid rows) x) rows) ≡ placed_all rows ++ x ∷ []
placed_put x rows h =
    ap placed_all (put_row_last (stored (next_rowid rows) x) rows (next_above rows h.table (keyed_all rows h.each)))
    ∙ map-append placed_in rows (stored (next_rowid rows) x ∷ []) ∙ ap (λ w. placed_all rows ++ w ∷ []) (placed_again (next_rowid rows) x)

pub adds_latest : (old new : State) (x : Placed) (count : ℕ) → old.now.schema ≡ latest_schema → AreVersionRows (old.now.trees 0) → Executes ADD_LATEST.now (cells_of x) old new (Ok count)
    → Leaves (placed_all (old.now.trees 0) ++ x ∷ []) new
adds_latest old new x count has latest h =
    let params = cells_of x in
    let db = old.now.trees in
    let w = runs_as ADD_LATEST.now params old new latest_schema has (Insert 0 (Values terms 8)) add_latest_is.command add_latest_is.plain count h in
    let text = statement_of ADD_LATEST.now (understood latest_schema ADD_LATEST.now) in
    let done = subst (λ s. Does old.step_limit (mode_of old) params (record old.now { schema = s }) text None (Insert 0 (Values terms 8)) (Ok (w.tally, new.now))) has w.changed in
    let it = inserts_rows old.step_limit (mode_of old) params db 0 (Values terms 8) w.tally new.now done in
    let rows : new.now.trees 0 ≡ put_row (stored (next_rowid (db 0)) x) (db 0)
    = it.4.rows ∙ ap (λ all. edited db (edit_of db latest_table [] Chosen 0 all)) it.1.1 ∙ one_more old.step_limit (mode_of old) params db x in
    record { schema = it.2; rows = rw rows (stored_put (next_rowid (db 0)) x (db 0) latest); latest_are = ap placed_all rows ∙ placed_put x (db 0) latest }

-- ---- the rows that pass a test, of which there is one at most

pub no_permutation : {X : Type 0} (ys : List X) → IsPermutation [] ys → ys ≡ []
no_permutation [] h = refl
no_permutation (y ∷ ys) h = absurd (omega (arith, length_permutation [] (y ∷ ys) h))

few_rows : (P : Placed → Bool) (rows : List Row) → length (filter P (placed_all rows)) ≤ 1 → length (filter (λ r. P (placed_in r)) rows) ≤ 1
few_rows P rows few = omega (arith, few, ap length (filter-map P placed_in rows), length-map (filter (λ r. P (placed_in r)) rows) placed_in)

module _ (fs project : List Term) (params : Row) (P : Placed → Bool) (test : (id : ℤ) (x : Placed) → list_all (holds (params ∷ stored id x ∷ [])) fs ≡ P x)
    (given_of : ℤ → Placed → Row) (shows : (id : ℤ) (x : Placed) → eval_all project (params ∷ stored id x ∷ []) ≡ given_of id x) where
  -- what is given for them
  given_none : (table given : List Row) → AllByRecursion IsStored table → filter (λ r. P (placed_in r)) table ≡ [] → IsPage fs project endless params table given → given ≡ []
  given_none table given each is page =
      let none = select_stored _ P test table each ∙ is in
      let empty = no_permutation page.ordered (subst (λ xs. IsPermutation (map (λ r. output (asked fs project endless) (params ∷ r ∷ [])) xs) page.ordered) none page.same) in
      page.rows ∙ ap (map (λ (o : Output). o.1)) empty

  given_one : (table given : List Row) (x : Row) → AllByRecursion IsStored table → filter (λ r. P (placed_in r)) table ≡ x ∷ [] → IsPage fs project endless params table given
      → given ≡ given_of (id_in (rowid x)) (placed_in x) ∷ []
  given_one table given x each is page =
      let one = select_stored _ P test table each ∙ is in
      let ordered = one_permutation _ page.ordered (subst (λ xs. IsPermutation (map (λ r. output (asked fs project endless) (params ∷ r ∷ [])) xs) page.ordered) one page.same) in
      let there = has_filtered (λ r. P (placed_in r)) table x (rw is (inl refl)) in
      let stands : x ≡ stored (id_in (rowid x)) (placed_in x) = all_has IsStored table x each there.0 in
      page.rows ∙ ap (map (λ (o : Output). o.1)) ordered ∙ ap (λ r. r ∷ []) (ap (λ r. eval_all project (params ∷ r ∷ [])) stands ∙ shows (id_in (rowid x)) (placed_in x))

  module _ (F : Placed → Placed) (spares : (x : Placed) → P x ≡ false → F x ≡ x)
      (edits : (db : Trees) (id : ℤ) (x : Placed) → P x ≡ true → edited db (edit_of db latest_table (ids_of (given_of id x ∷ [])) Given 1 (given_of id x ∷ [])) ≡ put_row (stored id (F x)) (without_rowid id (db 0))) where
    abbrev changed : Row → Row
    changed r = stored (id_in (rowid r)) (F (placed_in r))

    all_spares : (rows : List Row) → AllByRecursion IsStored rows → AllByRecursion (λ r. P (placed_in r) ≡ false → changed r ≡ r) rows
    all_spares rows all = all_weaker IsStored _ (λ r is off. rw (spares (placed_in r) off) (sym is)) rows all

    updates_page : (db : Trees) (given : List Row) → AreVersionRows (db 0) → length (filter (λ r. P (placed_in r)) (db 0)) ≤ 1 → IsPage fs project endless params (db 0) given
        → edited db (edit_of db latest_table (ids_of given) Given 1 given) ≡ map changed (db 0)
    updates_page db given rows few page = go (filter (λ r. P (placed_in r)) (db 0)) refl few
      where
        go : (hits : List Row) → filter (λ r. P (placed_in r)) (db 0) ≡ hits → length hits ≤ 1 → edited db (edit_of db latest_table (ids_of given) Given 1 given) ≡ map changed (db 0)
        go [] is short = rw (given_none (db 0) given rows.each is page) (sym (spared (λ r. P (placed_in r)) changed (db 0) is (all_spares (db 0) rows.each)))
        go (x ∷ []) is short =
            let there = has_filtered (λ r. P (placed_in r)) (db 0) x (rw is (inl refl)) in
            ap (λ g. edited db (edit_of db latest_table (ids_of g) Given 1 g)) (given_one (db 0) given x rows.each is page)
            ∙ edits db (id_in (rowid x)) (placed_in x) there.1
            ∙ replaced (λ r. P (placed_in r)) changed x refl (db 0) rows.table (keyed_all (db 0) rows.each) (all_spares (db 0) rows.each) is
        go (x ∷ y ∷ more) is short = absurd (omega arith)

    stored_changed : (rows : List Row) → AreVersionRows rows → AreVersionRows (map changed rows)
    stored_changed rows h = record { table = up rows h.table h.each; each = all-map IsStored changed rows (all_of _ (λ r. is_stored _ _) rows) }
      where
        above : (r : Row) → IsStored r → (xs : List Row) → AllByRecursion IsStored xs → AllByRecursion (λ x. value_cmp (rowid r) (rowid x) ≡ Less) xs
            → AllByRecursion (λ x. value_cmp (rowid (changed r)) (rowid x) ≡ Less) (map changed xs)
        above r is [] all more = tt
        above r is (x ∷ xs) all more = (rw (← ap rowid is, ← ap rowid all.0) more.0, above r is xs all.1 more.1)

        up : (xs : List Row) → IsTable xs → AllByRecursion IsStored xs → IsTable (map changed xs)
        up [] table all = tt
        up (x ∷ xs) table all = (above x all.0 xs all.1 table.0, up xs table.1 all.1)

    placed_changed : (rows : List Row) → placed_all (map changed rows) ≡ map F (placed_all rows)
    placed_changed [] = refl
    placed_changed (r ∷ rows) = rw (placed_again (id_in (rowid r)) (F (placed_in r)), placed_changed rows) refl

    pub updates : (sql : List ℕ) → Means latest_schema sql (Update 0 (alone (whole fs project))) → (old new : State) (count : ℕ) → old.now.schema ≡ latest_schema → AreVersionRows (old.now.trees 0) → length (filter P (placed_all (old.now.trees 0))) ≤ 1 → Executes sql params old new (Ok count)
        → Leaves (map F (placed_all (old.now.trees 0))) new
    updates sql is old new count has latest few h =
        let db = old.now.trees in
        let w = runs_as sql params old new latest_schema has (Update 0 (alone (whole fs project))) is.command is.plain count h in
        let text = statement_of sql (understood latest_schema sql) in
        let done = subst (λ s. Does old.step_limit (mode_of old) params (record old.now { schema = s }) text None (Update 0 (alone (whole fs project))) (Ok (w.tally, new.now))) has w.changed in
        let it = updates_rows old.step_limit (mode_of old) params db 0 (alone (whole fs project)) w.tally new.now done in
        let page = answered fs project endless (overlay db []) params it.0 it.1.answer in
        let rows : new.now.trees 0 ≡ map changed (db 0) = it.3.rows ∙ updates_page db it.0 latest (few_rows P (db 0) few) page in
        record { schema = it.2; rows = rw rows (stored_changed (db 0) latest); latest_are = ap placed_all rows ∙ placed_changed (db 0) }

-- ---- a version ends

abbrev ended_given : ℕ → ℤ → Placed → Row
ended_given s id x = Int id ∷ Int id ∷ number x.place ∷ number x.version.row.table ∷ number x.version.row.id ∷ number x.version.born ∷ number x.version.row.group ∷ Blob x.version.row.body ∷ number s ∷ []

ends_one : (t i s : ℕ) (db : Trees) (id : ℤ) (x : Placed) → is_at t i x.version.row && is_current x.version ≡ true
    → edited db (edit_of db latest_table (ids_of (ended_given s id x ∷ [])) Given 1 (ended_given s id x ∷ [])) ≡ put_row (stored id (closed_placed t i s x)) (without_rowid id (db 0))
ends_one t i s db id x hit = rw (hit, cast_int id, cast_int (pos x.place), cast_int (pos x.version.row.table), cast_int (pos x.version.row.id), cast_int (pos x.version.born), cast_int (pos x.version.row.group), cast_int (pos s)) refl

pub closes : (old new : State) (t i s : ℕ) (count : ℕ) → old.now.schema ≡ latest_schema → AreVersionRows (old.now.trees 0)
    → length (filter (λ x. is_at t i x.version.row && is_current x.version) (placed_all (old.now.trees 0))) ≤ 1
    → Executes END_VERSION.now (number t ∷ number i ∷ number s ∷ []) old new (Ok count)
    → Leaves (map (closed_placed t i s) (placed_all (old.now.trees 0))) new
closes old new t i s count = updates close_filter close_project (number t ∷ number i ∷ number s ∷ []) (λ x. is_at t i x.version.row && is_current x.version) (close_test t i s)
    (ended_given s) (λ id x. refl) (closed_placed t i s) (λ x off. rw off refl) (ends_one t i s) END_VERSION.now close_is old new count

-- ---- a new version in place of the last

abbrev renewed_given : ℕ → ℕ → List ℕ → ℤ → Placed → Row
renewed_given place s body id x = Int id ∷ Int id ∷ number place ∷ number x.version.row.table ∷ number x.version.row.id ∷ number s ∷ number x.version.row.group ∷ Blob body ∷ Null ∷ []

renews_one : (place s : ℕ) (row : RowValue) (db : Trees) (id : ℤ) (x : Placed) → has_key row.table row.id row.group x ≡ true
    → edited db (edit_of db latest_table (ids_of (renewed_given place s row.body id x ∷ [])) Given 1 (renewed_given place s row.body id x ∷ [])) ≡ put_row (stored id (renewed place row s x)) (without_rowid id (db 0))
renews_one place s row db id x hit =
    let same = key_is row.table row.id row.group x hit in
    rw (hit, same.0, same.1, same.2, cast_null, cast_int id, cast_int (pos place), cast_int (pos row.table), cast_int (pos row.id), cast_int (pos s), cast_int (pos row.group)) refl

abbrev pub renew_params : ℕ → ℕ → RowValue → Row
renew_params place s row = number row.table ∷ number row.id ∷ number row.group ∷ number place ∷ number s ∷ Blob row.body ∷ []

pub renews : (old new : State) (place s : ℕ) (row : RowValue) (count : ℕ) → old.now.schema ≡ latest_schema → AreVersionRows (old.now.trees 0)
    → length (filter (has_key row.table row.id row.group) (placed_all (old.now.trees 0))) ≤ 1
    → Executes RENEW_LATEST.now (renew_params place s row) old new (Ok count)
    → Leaves (map (renewed place row s) (placed_all (old.now.trees 0))) new
renews old new place s row count = updates key_filter renew_project (renew_params place s row) (has_key row.table row.id row.group) (renew_test row.table row.id row.group place s row.body)
    (renewed_given place s row.body) (λ id x. refl) (renewed place row s) (λ x off. rw off refl) (renews_one place s row) RENEW_LATEST.now renew_is old new count
