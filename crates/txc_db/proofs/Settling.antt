-- Changes that settle, and the tags of their rows.
use Rattle.std.proofs.Common.{◌≡◌, ℕ, zero, suc, ◌+◌, ◌&&◌, ◌||◌, ◌==◌, inl, inr, true≢false, eqb-true, eq-eqb, ne_eqb, add-one, slice_get, Some, Bool, true, false, not, List, [], ◌∷◌, ◌++◌, length, take, cond, refl, ap, sym, subst, ◌∙◌, arith}
use Rattle.std.specs.List.{flat_map, insert, list_any}
use Rattle.std.proofs.lemmas.Grind.{flat_map-append}
use Rattle.txc_tags.specs.declared.tag.Tag.{Tag}
use Rattle.txc_tags.specs.Tags.{with_tags}
use Rattle.txc_tags.proofs.Sixteen.{with_tags_append}
use Rattle.txc_rows.specs.declared.query.Change.{Change}
use Rattle.txc_rows.specs.declared.query.Change.TheVariants.{Put, Remove}
use Rattle.txc_rows.specs.declared.query.Query.TheVariants.{ById}
use Rattle.txc_rows.specs.States.{RowValue, State, answer, is_at}
use Rattle.txc_rows.specs.Values.{same_row}
use Rattle.txc_rows.specs.RowTags.{has_row, tags_of_row}
use Rattle.txc_rows.proofs.Offered.{bool_cases, both_true, and_true}
use Rattle.txc_rows.specs.Net.{same_key, key_before, placed, puts_of}

-- ---- where a change belongs

-- it is behind each of these, and has another table and id
abbrev pub PassesAll : Change → List Change → Type 0
PassesAll c [] = Unit {0}
PassesAll c (d ∷ ds) = (same_key c d ≡ false) × (key_before c d ≡ false) × PassesAll c ds

pub passes_more : (c d : Change) (ds : List Change) (i : ℕ) → slice_get ds i ≡ Some d → PassesAll c (take i ds) → same_key c d ≡ false → key_before c d ≡ false → PassesAll c (take (i + 1) ds)
passes_more c d ds i at h apart behind = subst (λ (n : ℕ). PassesAll c (take n ds)) (sym (add-one i)) (go ds i at h)
  where
    go : (es : List Change) (j : ℕ) → slice_get es j ≡ Some d → PassesAll c (take j es) → PassesAll c (take (suc j) es)
    go [] j k p = absurd (let f = k in cc)
    go (e ∷ es) zero k p = let same : e ≡ d = cc k in rw same (apart, behind, tt)
    go (e ∷ es) (suc j) k p = (p.0, p.1, go es j k p.2)

pub placed_there : (c d : Change) (ds : List Change) (i : ℕ) → slice_get ds i ≡ Some d → PassesAll c (take i ds) → same_key c d ≡ true → placed c ds ≡ ds
placed_there c d [] i at h same = absurd (let f = at in cc)
placed_there c d (e ∷ es) zero at h same = let is : e ≡ d = cc at in rw (is, same) refl
placed_there c d (e ∷ es) (suc i) at h same = rw (h.0, h.1) (ap (λ (xs : List Change). e ∷ xs) (placed_there c d es i at h.2 same))

pub placed_before : (c d : Change) (ds : List Change) (i : ℕ) → slice_get ds i ≡ Some d → PassesAll c (take i ds) → same_key c d ≡ false → key_before c d ≡ true → insert ds i c ≡ placed c ds
placed_before c d [] i at h apart before = absurd (let f = at in cc)
placed_before c d (e ∷ es) zero at h apart before = let is : e ≡ d = cc at in rw (is, apart, before) refl
placed_before c d (e ∷ es) (suc i) at h apart before = rw (h.0, h.1) (ap (λ (xs : List Change). e ∷ xs) (placed_before c d es i at h.2 apart before))

pub placed_last : (c : Change) (ds : List Change) → PassesAll c ds → insert ds (length ds) c ≡ placed c ds
placed_last c [] h = refl
placed_last c (e ∷ es) h = rw (h.0, h.1) (ap (λ (xs : List Change). e ∷ xs) (placed_last c es h.2))

-- ---- tags, one list after the other

-- ---- whether a change makes another state

at_itself : (row r : RowValue) → same_row row r ≡ true → (r.table == row.table) && (r.id == row.id) ≡ true
at_itself row r h =
    let one = both_true _ _ h in
    let two = both_true _ _ one.1 in
    let table : r.table ≡ row.table = sym (eqb-true _ _ one.0) in
    let id : r.id ≡ row.id = sym (eqb-true _ _ two.0) in
    and_true _ _ (eq-eqb _ _ table) (eq-eqb _ _ id)

-- a state has a row where the rows at its table and id have it
pub has_at : (s : State) (row : RowValue) → list_any (same_row row) (answer (ById row.table row.id) s) ≡ has_row s row
has_at [] row = refl
has_at (r ∷ rs) row = go ((r.table == row.table) && (r.id == row.id)) refl (has_at rs row)
  where
    go : (b : Bool) → (r.table == row.table) && (r.id == row.id) ≡ b → list_any (same_row row) (answer (ById row.table row.id) rs) ≡ has_row rs row
        → list_any (same_row row) (cond b (r ∷ answer (ById row.table row.id) rs) (answer (ById row.table row.id) rs)) ≡ has_row (r ∷ rs) row
    go true e rest = ap (λ b. same_row row r || b) rest
    go false e rest = elim (bool_cases (same_row row r)) [
      | inl same ↦ absurd (true≢false (sym (at_itself row r same) ∙ e))
      | inr other ↦ rw other rest
    ]

-- a state has a row at a table and id where there are rows there
pub some_at : (table id : ℕ) (s : State) → not (length (answer (ById table id) s) == 0) ≡ list_any (is_at table id) s
some_at table id [] = refl
some_at table id (r ∷ rs) = go ((r.table == table) && (r.id == id)) (some_at table id rs)
  where
    go : (b : Bool) → not (length (answer (ById table id) rs) == 0) ≡ list_any (is_at table id) rs
        → not (length (cond b (r ∷ answer (ById table id) rs) (answer (ById table id) rs)) == 0) ≡ b || list_any (is_at table id) rs
    go true rest = ap not (let ne : suc (length (answer (ById table id) rs)) ≡ 0 → ⊥ = λ h. absurd (omega (arith, h)) in ne_eqb (suc (length (answer (ById table id) rs))) 0 ne)
    go false rest = rest

-- ---- one more in a loop

rows_suc : (rows : List RowValue) (i : ℕ) (row : RowValue) (set : List Tag) → slice_get rows i ≡ Some row
    → with_tags (tags_of_row row) (with_tags (flat_map tags_of_row (take i rows)) set) ≡ with_tags (flat_map tags_of_row (take (suc i) rows)) set
rows_suc [] i row set at = absurd (let f = at in cc)
rows_suc (r ∷ rs) zero row set at = let same : row ≡ r = cc at in rw same refl
rows_suc (r ∷ rs) (suc i) row set at =
    rw (with_tags_append (tags_of_row r) (flat_map tags_of_row (take i rs)) set, with_tags_append (tags_of_row r) (flat_map tags_of_row (take (suc i) rs)) set) (rows_suc rs i row (with_tags (tags_of_row r) set) at)

pub rows_more : (rows : List RowValue) (i : ℕ) (row : RowValue) (set : List Tag) → slice_get rows i ≡ Some row
    → with_tags (tags_of_row row) (with_tags (flat_map tags_of_row (take i rows)) set) ≡ with_tags (flat_map tags_of_row (take (i + 1) rows)) set
rows_more rows i row set at = rows_suc rows i row set at ∙ ap (λ n. with_tags (flat_map tags_of_row (take n rows)) set) (sym (add-one i))

puts_cons : (c : Change) (cs : List Change) → puts_of (c ∷ cs) ≡ puts_of (c ∷ []) ++ puts_of cs
puts_cons (Put row) cs = refl
puts_cons (Remove table id) cs = refl

puts_suc : (cs : List Change) (i : ℕ) (c : Change) (set : List Tag) → slice_get cs i ≡ Some c
    → with_tags (flat_map tags_of_row (puts_of (c ∷ []))) (with_tags (flat_map tags_of_row (puts_of (take i cs))) set) ≡ with_tags (flat_map tags_of_row (puts_of (take (suc i) cs))) set
puts_suc [] i c set at = absurd (let f = at in cc)
puts_suc (d ∷ ds) zero c set at = let same : c ≡ d = cc at in rw same (go d)
  where
    go : (x : Change) → with_tags (flat_map tags_of_row (puts_of (x ∷ []))) set ≡ with_tags (flat_map tags_of_row (puts_of (x ∷ []))) set
    go (Put row) = refl
    go (Remove table id) = refl
puts_suc (d ∷ ds) (suc i) c set at =
    rw (
      puts_cons d (take i ds),
      puts_cons d (take (suc i) ds),
      flat_map-append tags_of_row (puts_of (d ∷ [])) (puts_of (take i ds)),
      flat_map-append tags_of_row (puts_of (d ∷ [])) (puts_of (take (suc i) ds)),
      with_tags_append (flat_map tags_of_row (puts_of (d ∷ []))) (flat_map tags_of_row (puts_of (take i ds))) set,
      with_tags_append (flat_map tags_of_row (puts_of (d ∷ []))) (flat_map tags_of_row (puts_of (take (suc i) ds))) set,
    )
    (puts_suc ds i c (with_tags (flat_map tags_of_row (puts_of (d ∷ []))) set) at)

pub puts_more : (cs : List Change) (i : ℕ) (c : Change) (set : List Tag) → slice_get cs i ≡ Some c
    → with_tags (flat_map tags_of_row (puts_of (c ∷ []))) (with_tags (flat_map tags_of_row (puts_of (take i cs))) set) ≡ with_tags (flat_map tags_of_row (puts_of (take (i + 1) cs))) set
puts_more cs i c set at = puts_suc cs i c set at ∙ ap (λ n. with_tags (flat_map tags_of_row (puts_of (take n cs))) set) (sym (add-one i))
