-- Where a version that matches begins or ends, the answer changes.
use Rattle.std.proofs.Common.{◌≡◌, ◌≢◌, inl, inr, ℕ, ◌+◌, ◌<◌, ◌≤◌, List, filter, true, ◌&&◌, Option, None, Some, refl, sym, ap, subst, ◌∙◌, arith}
use Rattle.std.proofs.lemmas.Bool.{leb-true, le-leb, ltb-true, lt-ltb}
use Rattle.txc_rows.specs.declared.version.Versioned.{Versioned}
use Rattle.txc_rows.specs.declared.query.Query.{Query}
use Rattle.txc_rows.specs.Values.{RowValue}
use Rattle.txc_rows.specs.Versions.{row_of, suits, is_visible, lives_at, shown_at, IsVersion, AreVersions}
use Rattle.txc_rows.proofs.Offered.{IsIn, both_true, and_true, in_filter, from_filter}
use Rattle.txc_rows.proofs.AroundLemmas.{two_of}
use Rattle.txc_rows.proofs.Members.{in_map, from_map}
use Rattle.txc_tags.proofs.All.{all_in}
use Rattle.txc_validity.specs.Changes.{Turns}

-- a version that matches begins or ends at the stamp
abbrev pub IsEdge : Query → List Versioned → ℕ → Type 0
IsEdge q vs s = (v : Versioned) × IsIn v vs × (suits q v ≡ true) × Turns v s

lives_of : (s : ℕ) (x : Option ℕ) → lives_at s x ≡ true → (d : ℕ) → x ≡ Some d → s < d
lives_of s None h d e = absurd (let f = e in cc)
lives_of s (Some x) h d e = let same : x ≡ d = cc in subst (λ n. s < n) same (ltb-true s x h)

of_lives : (s : ℕ) (x : Option ℕ) → ((d : ℕ) → x ≡ Some d → s < d) → lives_at s x ≡ true
of_lives s None h = refl
of_lives s (Some x) h = lt-ltb s x (h x refl)

seen_of : (s : ℕ) (v : Versioned) → is_visible s v ≡ true → (v.born ≤ s) × ((d : ℕ) → v.died ≡ Some d → s < d)
seen_of s v h = let two = both_true _ _ h in (leb-true _ _ two.0, lives_of s v.died two.1)

of_seen : (s : ℕ) (v : Versioned) → v.born ≤ s → ((d : ℕ) → v.died ≡ Some d → s < d) → is_visible s v ≡ true
of_seen s v a b = and_true _ _ (le-leb _ _ a) (of_lives s v.died b)

-- ---- what is shown is the row of a version that is visible

shown_from : (q : Query) (s : ℕ) (vs : List Versioned) (r : RowValue) → IsIn r (shown_at q s vs) → (w : Versioned) × IsIn w vs × (is_visible s w ≡ true) × (r ≡ w.row)
shown_from q s vs r h =
    let it = from_map row_of r (filter (λ v. is_visible s v && suits q v) vs) h in
    let there = from_filter (λ v. is_visible s v && suits q v) it.0 vs it.1 in
    (it.0, there.0, (both_true (is_visible s it.0) (suits q it.0) there.1).0, it.2)

shown_has : (q : Query) (s : ℕ) (vs : List Versioned) (w : Versioned) → IsIn w vs → is_visible s w ≡ true → suits q w ≡ true → IsIn w.row (shown_at q s vs)
shown_has q s vs w there seen fits =
    in_map row_of w (filter (λ v. is_visible s v && suits q v) vs) (in_filter (λ v. is_visible s v && suits q v) w vs there (and_true _ _ seen fits))

-- ---- two versions of a row

-- where a version ends no other shows its row
ends_apart : (q : Query) (vs : List Versioned) (s : ℕ) (v : Versioned) → AreVersions vs → IsIn v vs → suits q v ≡ true → v.died ≡ Some (s + 1) → shown_at q s vs ≢ shown_at q (s + 1) vs
ends_apart q vs s v are there fits died same =
    let life = (all_in IsVersion vs v are.each there).life (s + 1) died in
    let here = shown_has q s vs v there (of_seen s v (omega arith) (λ d e. let k : s + 1 ≡ d = (let two : ◌≡◌ {A = Option ℕ} (Some (s + 1)) (Some d) = sym died ∙ e in cc) in omega arith)) fits in
    let it = shown_from q (s + 1) vs v.row (subst (λ rows. IsIn v.row rows) same here) in
    let w = it.0 in
    let seen = seen_of (s + 1) w it.2 in
    let table : v.row.table ≡ w.row.table = ap (λ (r : RowValue). r.table) it.3 in
    let id : v.row.id ≡ w.row.id = ap (λ (r : RowValue). r.id) it.3 in
    elim (two_of vs v w are.apart there it.1) [
      | inl e ↦ let late = seen.1 (s + 1) (subst (λ (x : Versioned). x.died ≡ Some (s + 1)) e died) in omega arith
      | inr (inl f) ↦ let d = f.died table id in let k : d.0 ≡ s + 1 = (let two : ◌≡◌ {A = Option ℕ} (Some d.0) (Some (s + 1)) = sym d.1 ∙ died in cc) in d.3 (omega (arith, d.2, seen.0)) it.3
      | inr (inr f) ↦ let d = f.died (sym table) (sym id) in let late = seen.1 d.0 d.1 in omega (arith, d.2, life.0)
    ]

-- where a version begins no other showed its row
begins_apart : (q : Query) (vs : List Versioned) (s : ℕ) (v : Versioned) → AreVersions vs → IsIn v vs → suits q v ≡ true → v.born ≡ s + 1 → shown_at q s vs ≢ shown_at q (s + 1) vs
begins_apart q vs s v are there fits born same =
    let lives : (d : ℕ) → v.died ≡ Some d → s + 1 < d = λ d e. let l = (all_in IsVersion vs v are.each there).life d e in omega (arith, l.0) in
    let here = shown_has q (s + 1) vs v there (of_seen (s + 1) v (omega arith) lives) fits in
    let it = shown_from q s vs v.row (subst (λ rows. IsIn v.row rows) (sym same) here) in
    let w = it.0 in
    let seen = seen_of s w it.2 in
    let table : v.row.table ≡ w.row.table = ap (λ (r : RowValue). r.table) it.3 in
    let id : v.row.id ≡ w.row.id = ap (λ (r : RowValue). r.id) it.3 in
    elim (two_of vs v w are.apart there it.1) [
      | inl e ↦ let early : w.born ≡ s + 1 = subst (λ (x : Versioned). x.born ≡ s + 1) e born in omega (arith, seen.0)
      | inr (inl f) ↦ let d = f.died table id in let l = lives d.0 d.1 in omega (arith, d.2, seen.0)
      | inr (inr f) ↦ let d = f.died (sym table) (sym id) in let l = seen.1 d.0 d.1 in d.3 (omega (arith, d.2)) (sym it.3)
    ]

pub edge : (q : Query) (vs : List Versioned) (s : ℕ) → AreVersions vs → IsEdge q vs (s + 1) → shown_at q s vs ≢ shown_at q (s + 1) vs
edge q vs s are (v, there, fits, inl born) = begins_apart q vs s v are there fits born
edge q vs s are (v, there, fits, inr died) = ends_apart q vs s v are there fits died
