-- What is left of the versions where those that died are hidden, swept away or purged.
use Rattle.std.proofs.Common.{◌≡◌, ◌≢◌, ℕ, ◌+◌, ◌<◌, ◌≤◌, max, nat_le, List, [], ◌∷◌, ◌++◌, map, Bool, true, false, cond, not, ◌&&◌, None, Some, Option, refl, sym, ap, subst, ◌∙◌, arith, inl, inr}
use Rattle.std.proofs.lemmas.Bool.Decides.{nat_tests}
use borrow.Author.Tests.{le-leb}
use Rattle.std.proofs.lemmas.List.Elements.{filter-append}
use Rattle.std.specs.List.{AllByRecursion}
use Rattle.std.specs.List.Sorted.{IsPermutation}
use Rattle.std.proofs.lemmas.List.Sorted.{IsPermutation-refl, IsPermutation-append_left}
use Rattle.sqlite.specs.Tree.{IsAscending}
use Rattle.sqlite_trees.proofs.ListLemmas.{filter-map, filter-filter, filter_same, filter_all, all_of, all_weaker, all-append, all-filter, all-permutation, ascending-append, ascending-filter, IsPermutation-filter}
use Rattle.txc_rows.specs.declared.version.Versioned.{Versioned}
use Rattle.txc_rows.specs.declared.query.Change.{Change}
use Rattle.txc_rows.specs.declared.query.Change.TheVariants.{Put, Remove}
use Rattle.txc_rows.specs.Values.{RowValue}
use Rattle.txc_rows.specs.States.{is_at}
use Rattle.txc_rows.specs.Versions.{is_current, has_died_by, died_by, closed, removed, put, after_net, purged}
use Rattle.txc_rows.specs.StorableVersions.{IsStorable}
use Rattle.txc_rows.specs.declared.placed.Placed.{Placed}
use Rattle.txc_rows.specs.Placed.{version_of, by_place, versions_by_place, lasts_to, is_left, left_from, placed_left, without_front_dead, has_key, HaveOwnPlaces, AreBelow, IsOneCurrent, AreWellPlaced, AreSwept}
use Rattle.txc_rows.proofs.Members.{bool_cases, filtered_both}
use Rattle.txc_rows.proofs.StoredVersions.{hit_is}
use Rattle.txc_rows.proofs.PlaceLemmas.{pairs_permuted, by_place_same, by_place_left, own_places_permuted}
use Rattle.txc_rows.proofs.PutLemmas.{parts, key_turned, one_turned}
use Rattle.txc_tags.proofs.All.{all_front, all_back}

-- ---- a sweep

placed_as_left : (from : ℕ) (xs : List Placed) → left_from from (versions_by_place xs) ≡ map version_of (by_place (placed_left from xs))
placed_as_left from xs = filter-map (is_left from) version_of (by_place xs) ∙ ap (map version_of) (by_place_left (λ x. is_left from x.version) xs)

twice : (from : ℕ) (xs : List Placed) → placed_left from (placed_left from xs) ≡ placed_left from xs
twice from xs = filter-filter (λ x. is_left from x.version) (λ x. is_left from x.version) (λ x e. e) xs

-- those that are left are the same
left_same : (from : ℕ) (old new : List Placed) → IsPermutation (placed_left from old) (placed_left from new) → HaveOwnPlaces old → left_from from (versions_by_place new) ≡ left_from from (versions_by_place old)
left_same from old new left own =
    placed_as_left from new
    ∙ ap (map version_of) (sym (by_place_same (placed_left from old) (placed_left from new) left (ascending-filter (λ x y. x.place ≢ y.place) (λ x. is_left from x.version) old own)))
    ∙ sym (placed_as_left from old)

keys_turned : (x y : Placed) → has_key x.version.row.table x.version.row.id x.version.row.group y ≡ false → has_key y.version.row.table y.version.row.id y.version.row.group x ≡ false
keys_turned x y off =
    key_turned x.version.row.table x.version.row.id x.version.row.group y.version.row.table y.version.row.id y.version.row.group ∙ off

-- ---- both are left alone

module _ (from : ℕ) (latest earlier last before : List Placed) (one : IsPermutation (placed_left from latest) last) (two : before ≡ placed_left from earlier) where
  together : IsPermutation (placed_left from (latest ++ earlier)) (last ++ before)
  together = rw (filter-append (λ x. is_left from x.version) latest earlier, two) (IsPermutation-append_left (placed_left from earlier) _ _ one)

  pub both_below : (next : ℕ) → AreBelow next (latest ++ earlier) → AreBelow next (last ++ before)
  both_below next low = all-permutation (λ x. x.place < next) _ (last ++ before) together (all-filter (λ x. x.place < next) (λ x. is_left from x.version) (latest ++ earlier) low)

  pub both_apart : AreWellPlaced latest earlier → AreWellPlaced last before
  both_apart h = record {
    places = own_places_permuted _ _ together (ascending-filter (λ x y. x.place ≢ y.place) (λ x. is_left from x.version) (latest ++ earlier) h.places);
    keys = (pairs_permuted (λ x y. has_key x.version.row.table x.version.row.id x.version.row.group y ≡ false) keys_turned _ last one).1 (ascending-filter _ (λ x. is_left from x.version) latest h.keys);
    current = (pairs_permuted IsOneCurrent one_turned _ last one).1 (ascending-filter IsOneCurrent (λ x. is_left from x.version) latest h.current);
    ended = rw two (all-filter (λ x. x.version.died ≢ None) (λ x. is_left from x.version) earlier h.ended);
    each = all-permutation (λ x. IsStorable x.version) _ (last ++ before) together (all-filter (λ x. IsStorable x.version) (λ x. is_left from x.version) (latest ++ earlier) h.each);
  }

  -- only those that were hidden are gone
  pub left_alone : AreWellPlaced latest earlier → versions_by_place (last ++ before) ≡ left_from from (versions_by_place (latest ++ earlier))
  left_alone h =
      ap (map version_of) (sym (by_place_same (placed_left from (latest ++ earlier)) (last ++ before) together (ascending-filter (λ x y. x.place ≢ y.place) (λ x. is_left from x.version) (latest ++ earlier) h.places)))
      ∙ sym (placed_as_left from (latest ++ earlier))

-- ---- a sweep of the last versions, and then the front of the replaced ones is dropped

swept_left : (from : ℕ) (old new : List Placed) → AreSwept from old new → IsPermutation (placed_left from old) (placed_left from new)
swept_left from old new (inl same) = rw same (IsPermutation-refl (placed_left from old))
swept_left from old new (inr left) = subst (λ xs. IsPermutation xs (placed_left from new)) (twice from old) (IsPermutation-filter (λ x. is_left from x.version) _ _ left)

swept_each : (P : Placed → Type 0) (from : ℕ) (old new : List Placed) → AreSwept from old new → AllByRecursion P old → AllByRecursion P new
swept_each P from old new (inl same) each = rw same each
swept_each P from old new (inr left) each = all-permutation P _ new left (all-filter P (λ x. is_left from x.version) old each)

swept_pairs : (R : Placed → Placed → Type 0) → ((x y : Placed) → R x y → R y x) → (from : ℕ) (old new : List Placed) → AreSwept from old new → IsAscending R old → IsAscending R new
swept_pairs R turn from old new (inl same) pairs = rw same pairs
swept_pairs R turn from old new (inr left) pairs = (pairs_permuted R turn _ new left).1 (ascending-filter R (λ x. is_left from x.version) old pairs)

front_each : (P : Placed → Type 0) (from : ℕ) (xs : List Placed) → AllByRecursion P xs → AllByRecursion P (without_front_dead from xs)
front_each P from [] each = tt
front_each P from (x ∷ xs) each = elim (is_left from x.version) as (λ b. AllByRecursion P (cond b (x ∷ xs) (without_front_dead from xs))) [ true ↦ each | false ↦ front_each P from xs each.1 ]

front_pairs : (R : Placed → Placed → Type 0) (from : ℕ) (xs : List Placed) → IsAscending R xs → IsAscending R (without_front_dead from xs)
front_pairs R from [] pairs = tt
front_pairs R from (x ∷ xs) pairs = elim (is_left from x.version) as (λ b. IsAscending R (cond b (x ∷ xs) (without_front_dead from xs))) [ true ↦ pairs | false ↦ front_pairs R from xs pairs.1 ]

front_left : (from : ℕ) (xs : List Placed) → placed_left from (without_front_dead from xs) ≡ placed_left from xs
front_left from [] = refl
front_left from (x ∷ xs) = go (is_left from x.version) refl (front_left from xs)
  where
    go : (b : Bool) → is_left from x.version ≡ b → placed_left from (without_front_dead from xs) ≡ placed_left from xs
        → placed_left from (cond b (x ∷ xs) (without_front_dead from xs)) ≡ placed_left from (x ∷ xs)
    go true e more = refl
    go false e more = rw e more

module _ (from : ℕ) (latest earlier last : List Placed) (swept : AreSwept from latest last) where
  abbrev dropped : List Placed
  dropped = without_front_dead from earlier

  pub dropped_each : (P : Placed → Type 0) → AllByRecursion P (latest ++ earlier) → AllByRecursion P (last ++ dropped)
  dropped_each P each = all-append P last dropped (swept_each P from latest last swept (all_front P latest earlier each)) (front_each P from earlier (all_back P latest earlier each))

  across : AllByRecursion (λ x. AllByRecursion (λ y. x.place ≢ y.place) earlier) latest → AllByRecursion (λ x. AllByRecursion (λ y. x.place ≢ y.place) dropped) last
  across all = all_weaker (λ x. AllByRecursion (λ y. x.place ≢ y.place) earlier) _ (λ x apart. front_each (λ y. x.place ≢ y.place) from earlier apart) last (swept_each _ from latest last swept all)

  pub dropped_apart : AreWellPlaced latest earlier → AreWellPlaced last dropped
  dropped_apart h =
      let places = parts (λ x y. x.place ≢ y.place) latest earlier h.places in
      record {
        places = ascending-append (λ x y. x.place ≢ y.place) last dropped (swept_pairs (λ x y. x.place ≢ y.place) (λ x y apart e. apart (sym e)) from latest last swept places.0)
            (front_pairs (λ x y. x.place ≢ y.place) from earlier places.1) (across places.2);
        keys = swept_pairs _ keys_turned from latest last swept h.keys;
        current = swept_pairs IsOneCurrent one_turned from latest last swept h.current;
        ended = front_each (λ x. x.version.died ≢ None) from earlier h.ended;
        each = dropped_each (λ x. IsStorable x.version) h.each;
      }

  pub dropped_same : AreWellPlaced latest earlier → left_from from (versions_by_place (last ++ dropped)) ≡ left_from from (versions_by_place (latest ++ earlier))
  dropped_same h = left_same from (latest ++ earlier) (last ++ dropped) both h.places
    where
      both : IsPermutation (placed_left from (latest ++ earlier)) (placed_left from (last ++ dropped))
      both = rw (filter-append (λ x. is_left from x.version) latest earlier, filter-append (λ x. is_left from x.version) last dropped, front_left from earlier)
          (IsPermutation-append_left (placed_left from earlier) _ _ (swept_left from latest last swept))

-- from stamp 0 on none is hidden
all_last : (died : Option ℕ) → lasts_to 0 died ≡ true
all_last None = refl
all_last (Some d) = le-leb 0 d (omega arith)

pub none_hidden : (vs : List Versioned) → left_from 0 vs ≡ vs
none_hidden vs = filter_all (is_left 0) vs (all_of _ (λ v. all_last v.died) vs)

-- ---- a purge

both_left : (from h : ℕ) (died : Option ℕ) → lasts_to (max from (h + 1)) died ≡ lasts_to from died && not (died_by h died)
both_left from h None = refl
both_left from h (Some d) = tests from h d
  where
    tests : (a b c : ℕ) → nat_le (max a (b + 1)) c ≡ nat_le a c && not (nat_le c b)
    tests a b c = grind (arith, nat_tests)

-- a purge hides what died by it
pub purged_left : (from h : ℕ) (vs : List Versioned) → left_from (max from (h + 1)) vs ≡ purged h (left_from from vs)
purged_left from h vs = filter_same _ _ vs (all_of _ (λ v. both_left from h v.died) vs) ∙ sym (filtered_both (λ v. not (has_died_by h v)) (is_left from) vs)

-- ---- a write

module _ (from s : ℕ) (low : from ≤ s) where
  -- what ends at the stamp is left
  ends_left : (t i : ℕ) (v : Versioned) → is_left from (closed t i s v) ≡ is_left from v
  ends_left t i v = elim (bool_cases (is_at t i v.row && is_current v)) [
    | inl hit ↦ let current : v.died ≡ None = (hit_is t i v hit).2 in rw (hit, current) (le-leb from s low)
    | inr off ↦ rw off refl
  ]

  removed_left : (t i : ℕ) (vs : List Versioned) → left_from from (removed t i s vs) ≡ removed t i s (left_from from vs)
  removed_left t i vs = filter-map (is_left from) (closed t i s) vs ∙ ap (map (closed t i s)) (filter_same _ (is_left from) vs (all_of _ (ends_left t i) vs))

  put_left : (row : RowValue) (vs : List Versioned) → left_from from (put row s vs) ≡ put row s (left_from from vs)
  put_left row vs =
      filter-append (is_left from) (removed row.table row.id s vs) (record { row = row; born = s; died = None } ∷ [])
      ∙ ap (λ xs. xs ++ record { row = row; born = s; died = None } ∷ []) (removed_left row.table row.id vs)

  -- what is hidden is so after the write
  pub net_left : (net : List Change) (vs : List Versioned) → left_from from (after_net s net vs) ≡ after_net s net (left_from from vs)
  net_left [] vs = refl
  net_left (Put row ∷ cs) vs = net_left cs (put row s vs) ∙ ap (after_net s cs) (put_left row vs)
  net_left (Remove t i ∷ cs) vs = net_left cs (removed t i s vs) ∙ ap (after_net s cs) (removed_left t i vs)
