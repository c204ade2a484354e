-- What is found are versions by id and birth.
use Rattle.std.proofs.Common.{◌≡◌, ◌⊎◌, inl, inr, ℕ, suc, ◌+◌, ◌<◌, ◌≤◌, List, [], ◌∷◌, filter, Bool, true, false, true≢false, cond, ◌&&◌, refl, sym, ap, ◌∙◌, arith}
use Rattle.std.specs.declared.cmp.Ordering.TheVariants.{Equal}
use Rattle.std.specs.Ordering.{is_lt, nat_cmp}
use Rattle.std.specs.Cmp.{IsTotalOrder, IsStrictWeakOrder, tied_itself}
use borrow.Author.Tests.{ltb-true, ltb-false, leb-true}
use Rattle.std.specs.Prelude.{nat_le}
use Rattle.std.specs.Prelude.{nat_lt, map}
use Rattle.txc_rows.proofs.StoredRows.{is_lt-nat_cmp}
use Rattle.std.specs.List.{AllByRecursion}
use Rattle.std.specs.List.Sorted.{IsPermutation, IsSorted}
use Rattle.std.proofs.lemmas.Cmp.{then_total, on_total, nat_cmp_total}
use Rattle.std.proofs.lemmas.List.MinMax.{ranks_by}
use Rattle.std.proofs.lemmas.List.Sorted.{IsPermutation-refl, IsPermutation-trans, IsPermutation-cons, IsPermutation-middle}
use Rattle.sqlite_trees.proofs.ListLemmas.{along_permutation, all_weaker, all-permutation}
use Rattle.txc_rows.specs.declared.version.Versioned.{Versioned}
use Rattle.txc_rows.specs.declared.query.Query.{Query}
use Rattle.txc_rows.specs.Values.{RowValue}
use Rattle.txc_rows.specs.FoundVersions.{Finds}
use Rattle.txc_rows.specs.Versions.{is_visible, lives_at, shown_at, suits, version_cmp, Follows, Pairwise, IsVersion, AreVersions}
use Rattle.txc_rows.specs.VersionsAndStates.{IdsAscend}
use Rattle.txc_rows.proofs.Members.{bool_cases, both_true}
use Rattle.txc_rows.proofs.SaysLemmas.{of_its_table}
use Rattle.txc_rows.proofs.VersionLemmas.{kept_versions}

pub version_total : IsTotalOrder version_cmp
version_total = then_total (on_total (λ v. v.row.id) nat_cmp_total) (on_total (λ v. v.born) nat_cmp_total)

version_ranks : IsStrictWeakOrder (λ v w. is_lt (version_cmp v w))
version_ranks = ranks_by version_total (λ v. v)

-- ---- in the order of the query too, each version follows those before it

abbrev pub Meets : Versioned → Versioned → Type 0
Meets v w = Follows v w ⊎ Follows w v

turned : (v w : Versioned) → Meets v w → Meets w v
turned v w (inl h) = inr h
turned v w (inr h) = inl h

pub meet : (vs : List Versioned) → Pairwise Follows vs → Pairwise Meets vs
meet [] h = tt
meet (v ∷ vs) h = (all_weaker (Follows v) (Meets v) (λ w follows. inl follows) vs h.0, meet vs h.1)

pub pairs_permute : (xs ys : List Versioned) → IsPermutation xs ys → IsPermutation xs ys × (Pairwise Meets xs → Pairwise Meets ys)
pairs_permute = along_permutation (λ ps qs. IsPermutation ps qs × (Pairwise Meets ps → Pairwise Meets qs))
    (λ ps. (IsPermutation-refl ps, λ h. h))
    (λ x ps qs h. (IsPermutation-cons x ps qs h.0, λ p. (all-permutation (Meets x) ps qs h.0 p.0, h.1 p.1)))
    (λ x y ps. (IsPermutation-middle (x ∷ []) y ps, λ p. ((turned x y p.0.0, p.1.0), (p.0.1, p.1.1))))
    (λ ps qs rs h k. (IsPermutation-trans ps qs rs h.0 k.0, λ p. k.1 (h.1 p)))

tail_sorted : (x : Versioned) (xs : List Versioned) → IsSorted version_cmp (x ∷ xs) → IsSorted version_cmp xs
tail_sorted x xs h k d low high =
    let e : suc k + 1 ≡ suc (k + 1) = omega arith in
    rw e at (h (suc k) d (omega arith) (omega arith))

-- none that is later is less
least_first : (v : Versioned) (ws : List Versioned) → IsSorted version_cmp (v ∷ ws) → AllByRecursion (λ w. is_lt (version_cmp w v) ≡ false) ws
least_first v [] h = tt
least_first v (w ∷ ws) h =
    let next : is_lt (version_cmp w v) ≡ false = h 0 v (omega arith) (omega arith) in
    (next, all_weaker _ _ (λ u first. version_ranks.chain u w v first next) ws (least_first w ws (tail_sorted v (w ∷ ws) h)))

-- of one id the earlier comes first
ordered_births : (v w : Versioned) → v.row.id ≡ w.row.id → is_lt (version_cmp w v) ≡ false → v.born ≤ w.born
ordered_births v w same h =
    let even : nat_cmp w.row.id v.row.id ≡ Equal = ap (nat_cmp w.row.id) same ∙ tied_itself nat_cmp_total w.row.id in
    let below : nat_lt w.born v.born ≡ false = sym (is_lt-nat_cmp w.born v.born) ∙ rw even at h in
    ltb-false _ _ below

follows_on : (v w : Versioned) → IsVersion v → IsVersion w → is_lt (version_cmp w v) ≡ false → Meets v w → Follows v w
follows_on v w isv isw h (inl f) = f
follows_on v w isv isw h (inr f) = record { died = λ a b. let dead = f.died (sym a) (sym b) in let low = ordered_births v w b h in let life = isw.life dead.0 dead.1 in absurd (omega (arith, dead.2)) }

-- where any two meet, those in order are versions
pub in_order : (found : List Versioned) → AllByRecursion IsVersion found → Pairwise Meets found → IsSorted version_cmp found → AreVersions found
in_order found each pairs sorted = record { each = each; apart = go found each pairs sorted }
  where
    under : (v : Versioned) → IsVersion v → (ws : List Versioned) → AllByRecursion IsVersion ws → AllByRecursion (Meets v) ws → AllByRecursion (λ w. is_lt (version_cmp w v) ≡ false) ws → AllByRecursion (Follows v) ws
    under v is [] e m l = tt
    under v is (w ∷ ws) e m l = (follows_on v w is e.0 l.0 m.0, under v is ws e.1 m.1 l.1)

    go : (ws : List Versioned) → AllByRecursion IsVersion ws → Pairwise Meets ws → IsSorted version_cmp ws → Pairwise Follows ws
    go [] e m s = tt
    go (w ∷ ws) e m s = (under w e.0 ws e.1 m.0 (least_first w ws s), go ws e.1 m.1 (tail_sorted w ws s))

pub found_versions : (vs found : List Versioned) → AreVersions vs → IsPermutation vs found → IsSorted version_cmp found → AreVersions found
found_versions vs found h same sorted = in_order found (all-permutation IsVersion vs found same h.each) ((pairs_permute vs found same).1 (meet vs h.apart)) sorted

pub finds_versions : (q : Query) (vs found : List Versioned) → AreVersions vs → Finds q vs found → AreVersions found
finds_versions q vs found h finds = found_versions (filter (suits q) vs) found (kept_versions (suits q) vs h) finds.same finds.sorted

-- ---- what is shown at a stamp rises by id

rising : (t : ℕ) (v w : Versioned) → v.row.table ≡ w.row.table → is_visible t v ≡ true → is_visible t w ≡ true → Follows v w → is_lt (version_cmp w v) ≡ false → v.row.id < w.row.id
rising t v w table a b f h = elim (bool_cases (nat_lt v.row.id w.row.id)) [
  | inl e ↦ ltb-true _ _ e
  | inr e ↦ elim (bool_cases (nat_lt w.row.id v.row.id)) [
    | inl less ↦ absurd (true≢false (rw less at h))
    | inr more ↦
        let same : v.row.id ≡ w.row.id = omega (arith, ltb-false _ _ e, ltb-false _ _ more) in
        let dead = f.died table same in
        let late : t < dead.0 = ltb-true t dead.0 (ap (lives_at t) (sym dead.1) ∙ (both_true (nat_le v.born t) (lives_at t v.died) a).1) in
        let early : w.born ≤ t = leb-true w.born t (both_true (nat_le w.born t) (lives_at t w.died) b).0 in
        let order : dead.0 ≤ w.born = dead.2 in
        absurd (omega (arith, late, early, order))
  ]
]

above : (t : ℕ) (q : Query) (v : Versioned) → suits q v ≡ true → is_visible t v ≡ true → (ws : List Versioned) → AllByRecursion (Follows v) ws → AllByRecursion (λ w. is_lt (version_cmp w v) ≡ false) ws
    → AllByRecursion (λ (s : RowValue). v.row.id < s.id) (shown_at q t ws)
above t q v fits seen [] f l = tt
above t q v fits seen (w ∷ ws) f l = go (is_visible t w && suits q w) refl (above t q v fits seen ws f.1 l.1)
  where
    go : (b : Bool) → is_visible t w && suits q w ≡ b → AllByRecursion (λ (s : RowValue). v.row.id < s.id) (shown_at q t ws)
        → AllByRecursion (λ (s : RowValue). v.row.id < s.id) (map (λ x. x.row) (cond b (w ∷ filter (λ x. is_visible t x && suits q x) ws) (filter (λ x. is_visible t x && suits q x) ws)))
    go true e on =
        let both = both_true (is_visible t w) (suits q w) e in
        let table : v.row.table ≡ w.row.table = of_its_table q v.row fits ∙ sym (of_its_table q w.row both.1) in
        (rising t v w table seen both.0 f.0 l.0, on)
    go false e on = on

pub shown_rises : (t : ℕ) (q : Query) (vs : List Versioned) → Pairwise Follows vs → IsSorted version_cmp vs → IdsAscend (shown_at q t vs)
shown_rises t q [] f s = tt
shown_rises t q (v ∷ vs) f s = go (is_visible t v && suits q v) refl (shown_rises t q vs f.1 (tail_sorted v vs s))
  where
    go : (b : Bool) → is_visible t v && suits q v ≡ b → IdsAscend (shown_at q t vs) → IdsAscend (map (λ x. x.row) (cond b (v ∷ filter (λ x. is_visible t x && suits q x) vs) (filter (λ x. is_visible t x && suits q x) vs)))
    go true e on = let both = both_true (is_visible t v) (suits q v) e in (above t q v both.1 both.0 vs f.0 (least_first v vs s), on)
    go false e on = on
