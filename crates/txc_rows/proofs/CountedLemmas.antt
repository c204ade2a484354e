-- Versions by stamps that are counted from a later one on.
use Rattle.std.proofs.Common.{◌≡◌, inl, inr, ℕ, zero, suc, ◌+◌, ◌-◌, ◌<◌, ◌≤◌, List, [], ◌∷◌, ◌++◌, map, filter, length, get_or, Bool, true, false, cond, not, nat_le, nat_lt, ◌&&◌, Option, Some, None, is_none, refl, sym, ap, subst, ◌∙◌, arith}
use Rattle.std.proofs.lemmas.Bool.Decides.{nat_tests}
use Rattle.std.proofs.lemmas.List.{length-map, map-append}
use borrow.Author.Tests.{le-leb}
use Rattle.std.specs.declared.cmp.Ordering.{Ordering}
use Rattle.std.specs.declared.cmp.Ordering.TheVariants.{Less, Equal, Greater}
use Rattle.std.specs.Ordering.{is_lt, nat_cmp, ordering_then}
use Rattle.std.specs.List.{AllByRecursion, Contains}
use Rattle.std.specs.List.Sorted.{IsPermutation, IsSorted}
use Rattle.std.proofs.lemmas.List.Sorted.{IsPermutation-map}
use Rattle.sqlite_trees.proofs.ListLemmas.{map-map, filter-map, filter_same, filter_all, all_of, all_weaker, all-map}
use Rattle.txc_stamp.specs.declared.stamp.TheConstants.{MOST_STAMP}
use Rattle.txc_rows.specs.declared.version.Versioned.{Versioned}
use Rattle.txc_rows.specs.declared.query.Query.{Query}
use Rattle.txc_rows.specs.declared.query.Change.{Change}
use Rattle.txc_rows.specs.declared.query.Change.TheVariants.{Put, Remove}
use Rattle.txc_rows.specs.Values.{RowValue}
use Rattle.txc_rows.specs.States.{State, is_at}
use Rattle.txc_rows.specs.Versions.{suits, row_of, is_visible, lives_at, visible_rows, is_current, current, closed, removed, put, after_net, died_by, has_died_by, purged, death_from, counted_from, version_cmp, Follows, Pairwise, IsVersion}
use Rattle.txc_rows.specs.StorableVersions.{IsStorable}
use Rattle.txc_rows.specs.VersionsAndStates.{VersionsSay, AreUpTo}
use Rattle.txc_rows.specs.FoundVersions.{Finds, FindsAround, IsNearer, IsNeedless}
use Rattle.txc_rows.specs.KeptStates.{KeepsStates, KeepsBegun}
use Rattle.txc_rows.proofs.Members.{passing, is_in, contains_it, in_map}
use Rattle.txc_rows.proofs.StoredRows.{is_lt-nat_cmp}
use Rattle.txc_rows.proofs.StoredVersions.{none_is}
use Rattle.txc_rows.proofs.KeepingLemmas.{no_later, keeps_purged}

mapped_alike : {A B : Type 0} (f g : A → B) (xs : List A) → ((x : A) → f x ≡ g x) → map f xs ≡ map g xs
mapped_alike f g [] same = refl
mapped_alike f g (x ∷ xs) same = rw (same x, mapped_alike f g xs same) refl

-- ---- twice, and from the first stamp

death_again : (n m : ℕ) (d : Option ℕ) → death_from n (death_from m d) ≡ death_from (n + m) d
death_again n m None = refl
death_again n m (Some d) = let same : (d - m) - n ≡ d - (n + m) = omega arith in ap (λ (k : ℕ). Some k) same

counted_again : (n m : ℕ) (v : Versioned) → counted_from n (counted_from m v) ≡ counted_from (n + m) v
counted_again n m v =
    let same : (v.born - m) - n ≡ v.born - (n + m) = omega arith in
    ap (λ (b : ℕ). let w : Versioned = record { row = v.row; born = b; died = death_from n (death_from m v.died) } in w) same
    ∙ ap (λ (d : Option ℕ). let w : Versioned = record { row = v.row; born = v.born - (n + m); died = d } in w) (death_again n m v.died)

pub counted_twice : (n m : ℕ) (vs : List Versioned) → map (counted_from n) (map (counted_from m) vs) ≡ map (counted_from (n + m)) vs
counted_twice n m vs = map-map (counted_from n) (counted_from m) vs ∙ mapped_alike (λ v. counted_from n (counted_from m v)) (counted_from (n + m)) vs (counted_again n m)

-- ---- a query

module _ (first : ℕ) where
  lt_counted : (a b : ℕ) → nat_lt a b ≡ false → nat_lt (a - first) (b - first) ≡ false
  lt_counted a b h = grind (arith, nat_tests)

  order_counted : (o : Ordering) (a b : ℕ) → is_lt (ordering_then o (nat_cmp a b)) ≡ false → is_lt (ordering_then o (nat_cmp (a - first) (b - first))) ≡ false
  order_counted Less a b h = h
  order_counted Equal a b h = is_lt-nat_cmp (a - first) (b - first) ∙ lt_counted a b (sym (is_lt-nat_cmp a b) ∙ h)
  order_counted Greater a b h = h

  at_place : (vs : List Versioned) (k : ℕ) (d : Versioned) → k < length vs → get_or (map (counted_from first) vs) k d ≡ counted_from first (get_or vs k d)
  at_place [] k d low = absurd (omega arith)
  at_place (v ∷ vs) zero d low = refl
  at_place (v ∷ vs) (suc k) d low = at_place vs k d (omega arith)

  sorted_counted : (vs : List Versioned) → IsSorted version_cmp vs → IsSorted version_cmp (map (counted_from first) vs)
  sorted_counted vs h k d low high =
      let far : k + 1 < length vs = omega (arith, high, length-map vs (counted_from first)) in
      let near : k < length vs = omega (arith, far) in
      let w = get_or vs (k + 1) d in
      let v = get_or vs k d in
      rw (at_place vs (k + 1) d far, at_place vs k d near) (order_counted (nat_cmp w.row.id v.row.id) w.born v.born (h k d low far))

  pub finds_counted : (q : Query) (vs found : List Versioned) → Finds q vs found → Finds q (map (counted_from first) vs) (map (counted_from first) found)
  finds_counted q vs found finds = record {
    same = rw (filter-map (suits q) (counted_from first) vs) (IsPermutation-map (counted_from first) _ _ finds.same);
    sorted = sorted_counted found finds.sorted;
  }

  near_counted : (t : ℕ) (w v : Versioned) → IsNearer (t + first) w v → IsNearer t (counted_from first w) (counted_from first v)
  near_counted t w v it =
      let died : death_from first v.died ≡ Some (it.0 - first) = ap (death_from first) it.2 in
      let ended : death_from first w.died ≡ Some (it.1 - first) = ap (death_from first) it.3 in
      let d = it.0 in
      let e = it.1 in
      elim it.4 [
        | inl early ↦ (d - first, e - first, died, ended, inl (omega (arith, early.0), omega (arith, early.1)))
        | inr late ↦ (d - first, e - first, died, ended, inr (late.0, late.1, omega (arith, late.2), omega (arith, late.3)))
      ]

  pub around_counted : (q : Query) (t : ℕ) (vs found : List Versioned) → FindsAround q (t + first) vs found → FindsAround q t (map (counted_from first) vs) (map (counted_from first) found)
  around_counted q t vs found finds = record {
    rest = map (counted_from first) finds.rest;
    all = subst (IsPermutation (filter (suits q) (map (counted_from first) vs))) (map-append (counted_from first) found finds.rest) (rw (filter-map (suits q) (counted_from first) vs) (IsPermutation-map (counted_from first) _ _ finds.all));
    needless = all-map (IsNeedless t (map (counted_from first) found)) (counted_from first) finds.rest (all_weaker (IsNeedless (t + first) found) _ (λ v it.
        (counted_from first it.0, contains_it _ (counted_from first it.0) (in_map (counted_from first) it.0 found (is_in found it.0 it.1)), near_counted t it.0 v it.2)) finds.rest finds.needless);
    sorted = sorted_counted found finds.sorted;
  }

  pub many_counted : (q : Query) (vs : List Versioned) → length (filter (suits q) (map (counted_from first) vs)) ≡ length (filter (suits q) vs)
  many_counted q vs = ap (λ (xs : List Versioned). length xs) (filter-map (suits q) (counted_from first) vs) ∙ length-map (filter (suits q) vs) (counted_from first)

  -- ---- those that have not died

  none_counted : (d : Option ℕ) → is_none (death_from first d) ≡ is_none d
  none_counted None = refl
  none_counted (Some d) = refl

  pub current_counted : (vs : List Versioned) → current (map (counted_from first) vs) ≡ map (counted_from first) (current vs)
  current_counted vs = filter-map is_current (counted_from first) vs ∙ ap (map (counted_from first)) (filter_same _ is_current vs (all_of _ (λ v. none_counted v.died) vs))

  -- ---- a purge

  dead_counted : (h : ℕ) (d : Option ℕ) → died_by h (death_from first d) ≡ died_by (h + first) d
  dead_counted h None = refl
  dead_counted h (Some d) = tests d
    where
      tests : (a : ℕ) → nat_le (a - first) h ≡ nat_le a (h + first)
      tests a = grind (arith, nat_tests)

  pub purged_counted : (h : ℕ) (vs : List Versioned) → purged h (map (counted_from first) vs) ≡ map (counted_from first) (purged (h + first) vs)
  purged_counted h vs = filter-map (λ v. not (has_died_by h v)) (counted_from first) vs ∙ ap (map (counted_from first)) (filter_same _ _ vs (all_of _ (λ v. ap not (dead_counted h v.died)) vs))

  -- ---- a write

  module _ (s : ℕ) where
    end_counted : (b : Bool) (d : Option ℕ) → cond (b && is_none (death_from first d)) (Some s) (death_from first d) ≡ death_from first (cond (b && is_none d) (Some (s + first)) d)
    end_counted true None = let same : s ≡ (s + first) - first = omega arith in ap (λ (k : ℕ). Some k) same
    end_counted true (Some d) = refl
    end_counted false None = refl
    end_counted false (Some d) = refl

    closed_counted : (t i : ℕ) (v : Versioned) → closed t i s (counted_from first v) ≡ counted_from first (closed t i (s + first) v)
    closed_counted t i v = ap (λ (d : Option ℕ). let w : Versioned = record { row = v.row; born = v.born - first; died = d } in w) (end_counted (is_at t i v.row) v.died)

    removed_counted : (t i : ℕ) (vs : List Versioned) → removed t i s (map (counted_from first) vs) ≡ map (counted_from first) (removed t i (s + first) vs)
    removed_counted t i vs =
        map-map (closed t i s) (counted_from first) vs
        ∙ (mapped_alike (λ v. closed t i s (counted_from first v)) (λ v. counted_from first (closed t i (s + first) v)) vs (closed_counted t i) ∙ sym (map-map (counted_from first) (closed t i (s + first)) vs))

    new_counted : (row : RowValue) → counted_from first (record { row = row; born = s + first; died = None }) ≡ record { row = row; born = s; died = None }
    new_counted row = let same : (s + first) - first ≡ s = omega arith in ap (λ (b : ℕ). let w : Versioned = record { row = row; born = b; died = None } in w) same

    put_counted : (row : RowValue) (vs : List Versioned) → put row s (map (counted_from first) vs) ≡ map (counted_from first) (put row (s + first) vs)
    put_counted row vs =
        let ends = removed row.table row.id (s + first) vs in
        let new : Versioned = record { row = row; born = s + first; died = None } in
        ap (λ (xs : List Versioned). xs ++ record { row = row; born = s; died = None } ∷ []) (removed_counted row.table row.id vs)
        ∙ (ap (λ (v : Versioned). map (counted_from first) ends ++ v ∷ []) (sym (new_counted row)) ∙ sym (map-append (counted_from first) ends (new ∷ [])))

    pub net_counted : (net : List Change) (vs : List Versioned) → after_net s net (map (counted_from first) vs) ≡ map (counted_from first) (after_net (s + first) net vs)
    net_counted [] vs = refl
    net_counted (Put row ∷ cs) vs = ap (after_net s cs) (put_counted row vs) ∙ net_counted cs (put row (s + first) vs)
    net_counted (Remove t i ∷ cs) vs = ap (after_net s cs) (removed_counted t i vs) ∙ net_counted cs (removed t i (s + first) vs)

  death_low : (d : Option ℕ) (most : ℕ) → ((k : ℕ) → d ≡ Some k → k ≤ most) → (k : ℕ) → death_from first d ≡ Some k → k ≤ most
  death_low None most low k e = absurd (let f = e in cc)
  death_low (Some d) most low k e = let same : d - first ≡ k = cc in let high = low d refl in omega arith

  storable_counted : (v : Versioned) → IsStorable v → IsStorable (counted_from first v)
  storable_counted v is = record { row = is.row; born = let b = is.born in let low : v.born - first ≤ MOST_STAMP = omega arith in low; died = death_low v.died MOST_STAMP is.died }

  pub each_counted : (vs : List Versioned) → AllByRecursion IsStorable vs → AllByRecursion IsStorable (map (counted_from first) vs)
  each_counted vs all = all-map IsStorable (counted_from first) vs (all_weaker IsStorable _ storable_counted vs all)

-- ---- the versions of the newest state, as those of a first one

-- it was born up to the stamp, and has not died
record IsLeft (n : ℕ) (v : Versioned) : Type 0 where
  pub born : v.born ≤ n
  pub lives : v.died ≡ None

module _ (n : ℕ) where
  seen_alike : (b : ℕ) (d : Option ℕ) → b ≤ n → d ≡ None → nat_le (b - n) 1 && lives_at 1 (death_from n d) ≡ nat_le b n && lives_at n d
  seen_alike b None low e = rw (le-leb (b - n) 1 (omega arith), le-leb b n low) refl
  seen_alike b (Some d) low e = absurd (let f = e in cc)

  left_each : (vs : List Versioned) → AreUpTo n vs → AllByRecursion (λ v. is_current v ≡ true) vs → AllByRecursion (IsLeft n) vs
  left_each [] upto lives = tt
  left_each (v ∷ vs) upto lives = (record { born = upto.0.0; lives = none_is v.died lives.0 }, left_each vs upto.1 lives.1)

  visible_counted : (vs : List Versioned) → AllByRecursion (IsLeft n) vs → visible_rows 1 (map (counted_from n) vs) ≡ visible_rows n vs
  visible_counted vs left =
      let same : filter (λ v. is_visible 1 (counted_from n v)) vs ≡ filter (is_visible n) vs = filter_same _ (is_visible n) vs (all_weaker (IsLeft n) _ (λ v is. seen_alike v.born v.died is.born is.lives) vs left) in
      ap (map row_of) (filter-map (is_visible 1) (counted_from n) vs)
      ∙ (map-map row_of (counted_from n) (filter (λ v. is_visible 1 (counted_from n v)) vs) ∙ ap (map row_of) same)

  no_death : (v : Versioned) → IsLeft n v → death_from n v.died ≡ None
  no_death v is = ap (death_from n) is.lives

  upto_counted : (v : Versioned) → IsLeft n v → ((counted_from n v).born ≤ 1) × ((d : ℕ) → (counted_from n v).died ≡ Some d → d ≤ 1)
  upto_counted v is =
      let b = is.born in
      let low : v.born - n ≤ 1 = omega arith in
      (low, λ d e. absurd (let none = no_death v is in let f : death_from n v.died ≡ Some d = e in cc))

  clean_counted : (v : Versioned) → IsLeft n v → not (has_died_by 1 (counted_from n v)) ≡ true
  clean_counted v is = rw (no_death v is) refl

  version_counted : (v : Versioned) → IsLeft n v → IsVersion v → IsVersion (counted_from n v)
  version_counted v is h = record {
    row = h.row;
    born = let b = h.born in let low : v.born - n ≤ MOST_STAMP = omega arith in low;
    life = λ d e. absurd (let none = no_death v is in let f : death_from n v.died ≡ Some d = e in cc);
  }

  versions_counted : (vs : List Versioned) → AllByRecursion (IsLeft n) vs → AllByRecursion IsVersion vs → AllByRecursion IsVersion (map (counted_from n) vs)
  versions_counted [] left each = tt
  versions_counted (v ∷ vs) left each = (version_counted v left.0 each.0, versions_counted vs left.1 each.1)

  follows_counted : (v w : Versioned) → v.died ≡ None → Follows v w → Follows (counted_from n v) (counted_from n w)
  follows_counted v w lives h = record { died = λ a b. let it = h.died a b in absurd (let e = it.1 in let none = lives in cc) }

  apart_counted : (vs : List Versioned) → AllByRecursion (IsLeft n) vs → Pairwise Follows vs → Pairwise Follows (map (counted_from n) vs)
  apart_counted [] left pairs = tt
  apart_counted (v ∷ vs) left pairs = (all-map (Follows (counted_from n v)) (counted_from n) vs (all_weaker (Follows v) _ (λ w h. follows_counted v w left.0.lives h) vs pairs.0), apart_counted vs left.1 pairs.1)

  module _ (states others : ℕ → State) (vs : List Versioned) (same : others 1 ≡ states n) (keeps : KeepsStates states n n vs) where
    abbrev counted : List Versioned
    counted = map (counted_from n) vs

    left : AllByRecursion (IsLeft n) vs
    left = left_each vs keeps.says.upto (subst (AllByRecursion (λ v. is_current v ≡ true)) (no_later n vs keeps.says.upto ∙ keeps.clean) (passing is_current vs))

    says_first : VersionsSay 1 counted (others 1)
    says_first =
        let it = keeps.says.kept n (omega arith) (omega arith) in
        subst (λ (s : State). VersionsSay 1 counted s) (sym same) (record {
          each = λ r h. subst (λ (rows : List RowValue). Contains rows r) (sym (visible_counted vs left)) (it.each r h);
          only = λ r h. it.only r (subst (λ (rows : List RowValue). Contains rows r) (visible_counted vs left) h);
        })

    pub first_kept : KeepsStates others 1 1 counted
    first_kept = record {
      kept = omega arith;
      each = λ t low high. let now : t ≡ 1 = omega arith in rw (now, same) (keeps.each n (omega arith) (omega arith));
      says = record {
        kept = λ t low high. let now : t ≡ 1 = omega arith in rw now says_first;
        upto = all-map (λ v. (v.born ≤ 1) × ((d : ℕ) → v.died ≡ Some d → d ≤ 1)) (counted_from n) vs (all_weaker (IsLeft n) _ upto_counted vs left);
      };
      clean = filter_all (λ v. not (has_died_by 1 v)) counted (all-map (λ v. not (has_died_by 1 v) ≡ true) (counted_from n) vs (all_weaker (IsLeft n) _ clean_counted vs left));
      versions = record { each = versions_counted vs left keeps.versions.each; apart = apart_counted vs left keeps.versions.apart };
    }

pub keeps_begun : (n : ℕ) (vs : List Versioned) → KeepsBegun n vs (map (counted_from n) (purged n vs))
keeps_begun n vs states others horizon keeps same = first_kept n states others (purged n vs) same (keeps_purged n vs states horizon n keeps keeps.kept (omega arith))

-- ---- the calls of a store whose stamps are counted so

module _ (first : ℕ) (store old : List Versioned) (view : map (counted_from first) store ≡ old) where
  pub found_counted : (q : Query) (found counted : List Versioned) → counted ≡ map (counted_from first) found → Finds q store found → Finds q old counted
  found_counted q found counted is finds =
      subst (λ (vs : List Versioned). Finds q vs counted) view (subst (λ (xs : List Versioned). Finds q (map (counted_from first) store) xs) (sym is) (finds_counted first q store found finds))

  pub near_found : (q : Query) (t at : ℕ) (found counted : List Versioned) → at ≡ t + first → counted ≡ map (counted_from first) found → FindsAround q at store found → FindsAround q t old counted
  near_found q t at found counted same is finds =
      subst (λ (vs : List Versioned). FindsAround q t vs counted) view (subst (λ (xs : List Versioned). FindsAround q t (map (counted_from first) store) xs) (sym is) (around_counted first q t store found (subst (λ (s : ℕ). FindsAround q s store found) same finds)))

  pub newest_counted : (q : Query) (found counted : List Versioned) → counted ≡ map (counted_from first) found → Finds q (current store) found → Finds q (current old) counted
  newest_counted q found counted is finds =
      let same : map (counted_from first) (current store) ≡ current old = sym (current_counted first store) ∙ ap current view in
      subst (λ (vs : List Versioned). Finds q vs counted) same (subst (λ (xs : List Versioned). Finds q (map (counted_from first) (current store)) xs) (sym is) (finds_counted first q (current store) found finds))

  pub as_many : (q : Query) → length (filter (suits q) old) ≡ length (filter (suits q) store)
  as_many q = sym (ap (λ (vs : List Versioned). length (filter (suits q) vs)) view) ∙ many_counted first q store

  module _ (stamp stored : ℕ) (same : stored ≡ stamp + first) (new : List Versioned) where
    pub written_counted : (net : List Change) → new ≡ after_net stored net store → map (counted_from first) new ≡ after_net stamp net old
    written_counted net is =
        ap (map (counted_from first)) is
        ∙ (ap (λ (s : ℕ). map (counted_from first) (after_net s net store)) same ∙ (sym (net_counted first stamp net store) ∙ ap (after_net stamp net) view))

    pub dropped_counted : new ≡ purged stored store → map (counted_from first) new ≡ purged stamp old
    dropped_counted is =
        ap (map (counted_from first)) is
        ∙ (ap (λ (s : ℕ). map (counted_from first) (purged s store)) same ∙ (sym (purged_counted first stamp store) ∙ ap (purged stamp) view))

    pub begun_counted : new ≡ purged stored store → map (counted_from stored) new ≡ map (counted_from stamp) (purged stamp old)
    begun_counted is =
        ap (λ (s : ℕ). map (counted_from s) new) same
        ∙ (sym (counted_twice stamp first new) ∙ ap (map (counted_from stamp)) (dropped_counted is))
