-- The spots of replaced versions, and what is picked by them.
use Rattle.std.proofs.Common.{◌≡◌, ◌≢◌, ◌⊎◌, inl, inr, ℕ, ◌+◌, ◌-◌, ◌^◌, ◌<◌, ◌≤◌, zero, suc, get_or, List, [], ◌∷◌, ◌++◌, map, filter, drop, length, length-drop, option_to_list, Bool, true, false, cond, not, ◌&&◌, ◌==◌, nat_le, Option, Some, None, refl, sym, ap, subst, ◌∙◌, append_assoc, append-nil, length-append, arith}
use Rattle.std.proofs.lemmas.Bool.Decides.{nat_tests}
use borrow.Author.Tests.{eqb-true, leb-true, le-leb, lt-leb}
use Rattle.std.specs.declared.cmp.Ordering.{Ordering}
use Rattle.std.specs.declared.cmp.Ordering.TheVariants.{Less, Equal, Greater}
use Rattle.std.specs.Ordering.{nat_cmp, ordering_then, is_eq, is_le, is_lt, match_ordering}
use Rattle.std.specs.List.{slice_get, AllByRecursion}
use Rattle.std.specs.List.Sorted.{IsPermutation, IsStrictlySortedBy}
use Rattle.std.proofs.lemmas.Map.Keys.{sorted_head, sorted_tail}
use Rattle.std.proofs.lemmas.List.Kept.{IsStrictlySortedBy-filter}
use Rattle.std.specs.BTreeSet.{insert_key}
use Rattle.std.specs.Set.{remove_key}
use Rattle.std.specs.BTreeMap.Range.{range_contains}
use Rattle.std.specs.declared.ops.Bound.TheVariants.{Included, Excluded}
use Rattle.std.proofs.lemmas.List.Sorted.{IsPermutation-refl, IsPermutation-sym, IsPermutation-trans, IsPermutation-cons, IsPermutation-middle, IsPermutation-map, length_permutation}
use Rattle.std.proofs.lemmas.Map.Lookups.{exact_unsigned}
use Rattle.sqlite_trees.proofs.ListLemmas.{filter-map, all_both, all_weaker, all-filter, all-permutation, filter_all, filter_none, filter_same, IsPermutation-flat_map, IsPermutation-filter}
use Rattle.txc_base_slots.proofs.SlotLemmas.{number_itself}
use Rattle.txc_rows.specs.declared.placed.Placed.{Placed}
use Rattle.txc_rows.specs.declared.replaced.Spot.{Spot}
use Rattle.txc_rows.specs.declared.replaced.Deaths.{Deaths}
use Rattle.txc_rows.specs.declared.query.Query.{Query}
use Rattle.txc_rows.specs.declared.query.Query.TheVariants.{ById, ByGroup, All, Range}
use Rattle.txc_rows.specs.declared.version.Versioned.{Versioned}
use Rattle.txc_rows.specs.Versions.{suits}
use Rattle.txc_rows.specs.StorableVersions.{IsStorable}
use Rattle.txc_stamp.specs.declared.stamp.TheConstants.{MOST_STAMP}
use Rattle.txc_rows.specs.Placed.{version_of}
use Rattle.txc_rows.specs.ReplacedIndex.{version_id, version_group, stamp_or_zero, death_of, spot_of, spots_from, FitsSpot, AreIndexed, is_from, dies_within, is_between, dies_between, spot_suits, spots_asked, picked, dead_between, DeathsAscend}
use Rattle.txc_rows.proofs.Members.{both_true, filters_turned, filtered_both, passing}

-- ---- one key more or less

module _ {K : Type 0} (cmp : K → K → Ordering) where
  pub inserted : (k : K) (ks : List K) → AllByRecursion (λ x. cmp k x ≢ Equal) ks → IsPermutation (k ∷ ks) (insert_key cmp ks k)
  inserted k [] off = IsPermutation-refl (k ∷ [])
  inserted k (x ∷ xs) off = go (cmp k x) refl (inserted k xs off.1)
    where
      go : (o : Ordering) → cmp k x ≡ o → IsPermutation (k ∷ xs) (insert_key cmp xs k) → IsPermutation (k ∷ x ∷ xs) (match_ordering o (k ∷ x ∷ xs) (x ∷ xs) (x ∷ insert_key cmp xs k))
      go Less e more = IsPermutation-refl (k ∷ x ∷ xs)
      go Equal e more = absurd (off.0 e)
      go Greater e more = IsPermutation-trans _ _ _ (IsPermutation-middle (k ∷ []) x xs) (IsPermutation-cons x _ _ more)

module _ {K : Type 0} (test : K → Bool) where
  all_kept : (ks : List K) → length (filter test ks) ≡ 0 → filter (λ x. not (test x)) ks ≡ ks
  all_kept [] none = refl
  all_kept (x ∷ xs) none = go (test x) refl none (all_kept xs)
    where
      go : (b : Bool) → test x ≡ b → length (cond b (x ∷ filter test xs) (filter test xs)) ≡ 0 → (length (filter test xs) ≡ 0 → filter (λ y. not (test y)) xs ≡ xs) → filter (λ y. not (test y)) (x ∷ xs) ≡ x ∷ xs
      go true e none more = absurd (omega (arith, none))
      go false e none more = rw e (ap (λ ys. x ∷ ys) (more none))

  removed_once : (ks : List K) → length (filter test ks) ≤ 1 → remove_key test ks ≡ filter (λ x. not (test x)) ks
  removed_once [] few = refl
  removed_once (x ∷ xs) few = go (test x) refl few (removed_once xs)
    where
      go : (b : Bool) → test x ≡ b → length (cond b (x ∷ filter test xs) (filter test xs)) ≤ 1 → (length (filter test xs) ≤ 1 → remove_key test xs ≡ filter (λ y. not (test y)) xs) → cond b xs (x ∷ remove_key test xs) ≡ filter (λ y. not (test y)) (x ∷ xs)
      go true e few more = rw e (sym (all_kept xs (omega (arith, few))))
      go false e few more = rw e (ap (λ ys. x ∷ ys) (more few))

  -- one that passes alone is removed
  pub removed : (k : K) (others ks : List K) → test k ≡ true → AllByRecursion (λ x. test x ≡ false) others → IsPermutation (k ∷ others) ks → IsPermutation others (remove_key test ks)
  removed k others ks hit off same =
      let none = filter_none test others off in
      let one : length (filter test (k ∷ others)) ≡ 1 = rw (hit, none) refl in
      let few : length (filter test ks) ≤ 1 = omega (arith, one, length_permutation _ _ (IsPermutation-filter test _ _ same)) in
      let left : filter (λ x. not (test x)) (k ∷ others) ≡ others = rw hit (all_kept others (ap length none)) in
      rw (removed_once ks few) (subst (λ xs. IsPermutation xs (filter (λ x. not (test x)) ks)) left (IsPermutation-filter (λ x. not (test x)) _ _ same))

-- ---- spots in order

abbrev pub spot_cmp : Spot → Spot → Ordering
spot_cmp s t = ordering_then (nat_cmp s.table t.table) (ordering_then (nat_cmp s.key t.key) (ordering_then (nat_cmp s.death t.death) (nat_cmp s.number t.number)))

then_equal : (o p : Ordering) → ordering_then o p ≡ Equal → (o ≡ Equal) × (p ≡ Equal)
then_equal Less p e = absurd (let f = e in cc)
then_equal Equal p e = (refl, e)
then_equal Greater p e = absurd (let f = e in cc)

both_equal : (o p : Ordering) → o ≡ Equal → p ≡ Equal → ordering_then o p ≡ Equal
both_equal o p e f = rw (e, f) refl

pub spot_differs : (s t : Spot) → t.number ≢ s.number → spot_cmp s t ≢ Equal
spot_differs s t apart same =
    let keys = then_equal (nat_cmp s.table t.table) _ same in
    let deaths = then_equal (nat_cmp s.key t.key) _ keys.1 in
    let numbers = then_equal (nat_cmp s.death t.death) _ deaths.1 in
    apart (sym (exact_unsigned s.number t.number numbers.1))

pub spot_itself : (s : Spot) → spot_cmp s s ≡ Equal
spot_itself s = both_equal _ _ (number_itself s.table) (both_equal _ _ (number_itself s.key) (both_equal _ _ (number_itself s.death) (number_itself s.number)))

pub all_differ : (s : Spot) (ss : List Spot) → AllByRecursion (λ t. t.number ≢ s.number) ss → AllByRecursion (λ t. spot_cmp s t ≢ Equal) ss
all_differ s ss all = all_weaker _ (λ t. spot_cmp s t ≢ Equal) (spot_differs s) ss all

not_equal : (o : Ordering) → o ≢ Equal → is_eq o ≡ false
not_equal Less off = refl
not_equal Equal off = absurd (off refl)
not_equal Greater off = refl

pub none_equal : (s : Spot) (ss : List Spot) → AllByRecursion (λ t. t.number ≢ s.number) ss → AllByRecursion (λ t. is_eq (spot_cmp s t) ≡ false) ss
none_equal s ss all = all_weaker _ _ (λ t apart. not_equal _ (spot_differs s t apart)) ss all

-- ---- the spots of versions

module _ (key : Placed → ℕ) where
  pub spots_append : (n : ℕ) (xs : List Placed) (x : Placed) → spots_from key n (xs ++ x ∷ []) ≡ spots_from key n xs ++ spot_of key (n + length xs) x ∷ []
  spots_append n [] x = ap (λ m. spot_of key m x ∷ []) (omega arith)
  spots_append n (y ∷ ys) x =
      let at : (n + 1) + length ys ≡ n + length (y ∷ ys) = omega arith in
      ap (λ ss. spot_of key n y ∷ ss) (spots_append (n + 1) ys x ∙ ap (λ m. spots_from key (n + 1) ys ++ spot_of key m x ∷ []) at)

  pub spots_last : (n : ℕ) (xs : List Placed) (x : Placed) → IsPermutation (spot_of key (n + length xs) x ∷ spots_from key n xs) (spots_from key n (xs ++ x ∷ []))
  spots_last n xs x =
      subst (IsPermutation _) (sym (spots_append n xs x))
      (IsPermutation-sym _ _ (subst (λ ss. IsPermutation (spots_from key n xs ++ spot_of key (n + length xs) x ∷ []) (spot_of key (n + length xs) x ∷ ss)) (append-nil (spots_from key n xs)) (IsPermutation-middle (spots_from key n xs) (spot_of key (n + length xs) x) [])))

  -- their numbers
  pub spots_before : (n m : ℕ) (xs : List Placed) → n + length xs ≤ m → AllByRecursion (λ s. s.number ≢ m) (spots_from key n xs)
  spots_before n m [] low = tt
  spots_before n m (x ∷ xs) low = ((λ e. omega (arith, low, e)), spots_before (n + 1) m xs (omega (arith, low)))

  pub spots_after : (n m : ℕ) (xs : List Placed) → m < n → AllByRecursion (λ s. s.number ≢ m) (spots_from key n xs)
  spots_after n m [] low = tt
  spots_after n m (x ∷ xs) low = ((λ e. omega (arith, low, e)), spots_after (n + 1) m xs (omega (arith, low)))

  pub spots_high : (n m : ℕ) (xs : List Placed) → m ≤ n → AllByRecursion (λ s. m ≤ s.number) (spots_from key n xs)
  spots_high n m [] low = tt
  spots_high n m (x ∷ xs) low = (low, spots_high (n + 1) m xs (omega (arith, low)))

  pub spots_fit : (n : ℕ) (xs : List Placed) → AllByRecursion (λ x. (key x ≤ 4294967295) × (death_of x.version ≤ MOST_STAMP)) xs → n + length xs < 18446744073709551616 → AllByRecursion FitsSpot (spots_from key n xs)
  spots_fit n [] low fits = tt
  spots_fit n (x ∷ xs) low fits = ((let l = low.0.0 in omega (arith, l), let l = low.0.1 in omega (arith, l), omega (arith, fits)), spots_fit (n + 1) xs low.1 (omega (arith, fits)))

  -- ---- what is picked

  there : (before : List Placed) (x : Placed) (after : List Placed) → slice_get (before ++ x ∷ after) (length before) ≡ Some x
  there [] x after = refl
  there (y ∷ ys) x after = there ys x after

  pub picked_all : (first : ℕ) (p : Spot → Bool) (q : Placed → Bool) (before xs : List Placed) → ((n : ℕ) (x : Placed) → p (spot_of key n x) ≡ q x)
      → picked first (before ++ xs) (filter p (spots_from key (first + length before) xs)) ≡ filter q xs
  picked_all first p q before [] same = refl
  picked_all first p q before (x ∷ xs) same = go (q x) refl (subst (λ ys. picked first ys (filter p (spots_from key (first + length (before ++ x ∷ [])) xs)) ≡ filter q xs) (append_assoc before (x ∷ []) xs) (picked_all first p q (before ++ x ∷ []) xs same))
    where
      at : first + length (before ++ x ∷ []) ≡ (first + length before) + 1
      at = omega (arith, length-append before (x ∷ []))

      here : slice_get (before ++ x ∷ xs) ((first + length before) - first) ≡ Some x
      here = ap (slice_get (before ++ x ∷ xs)) (omega arith) ∙ there before x xs

      go : (b : Bool) → q x ≡ b → picked first (before ++ x ∷ xs) (filter p (spots_from key (first + length (before ++ x ∷ [])) xs)) ≡ filter q xs
          → picked first (before ++ x ∷ xs) (filter p (spots_from key (first + length before) (x ∷ xs))) ≡ filter q (x ∷ xs)
      go true e more =
          let rest = subst (λ n. picked first (before ++ x ∷ xs) (filter p (spots_from key n xs)) ≡ filter q xs) at more in
          rw (same (first + length before) x, e, here) (ap (λ ys. x ∷ ys) rest)
      go false e more =
          let rest = subst (λ n. picked first (before ++ x ∷ xs) (filter p (spots_from key n xs)) ≡ filter q xs) at more in
          rw (same (first + length before) x, e) rest

-- ---- one version more or less

-- the spot is dropped of a set in which no other has its number
abbrev pub Drops : Spot → List Spot → List Spot → Type 0
Drops s old new = (others : List Spot) → AllByRecursion (λ t. t.number ≢ s.number) others → IsPermutation (s ∷ others) old → IsPermutation others new

pub all_numbered : (key : Placed → ℕ) (first m : ℕ) (xs : List Placed) (spots : List Spot) → first + length xs ≤ m → IsPermutation (spots_from key first xs) spots → AllByRecursion (λ s. s.number ≢ m) spots
all_numbered key first m xs spots low same = all-permutation (λ s. s.number ≢ m) _ _ same (spots_before key first m xs low)

module _ (first : ℕ) (x : Placed) (xs : List Placed) (ids groups ids_then groups_then : List Spot) where
  pub one_added : AreIndexed first xs ids groups → first + length xs + 1 < 2 ^ 64 → IsPermutation (spot_of version_id (first + length xs) x ∷ ids) ids_then → IsPermutation (spot_of version_group (first + length xs) x ∷ groups) groups_then
      → AreIndexed first (xs ++ x ∷ []) ids_then groups_then
  one_added h fits id group = record {
    fits = omega (arith, fits, length-append xs (x ∷ []));
    by_id = more version_id ids ids_then h.by_id id;
    by_group = more version_group groups groups_then h.by_group group;
  }
    where
      more : (key : Placed → ℕ) (old new : List Spot) → IsPermutation (spots_from key first xs) old → IsPermutation (spot_of key (first + length xs) x ∷ old) new → IsPermutation (spots_from key first (xs ++ x ∷ [])) new
      more key old new same added = IsPermutation-trans _ _ _ (IsPermutation-sym _ _ (spots_last key first xs x)) (IsPermutation-trans _ _ _ (IsPermutation-cons _ _ _ same) added)

  pub first_dropped : AreIndexed first (x ∷ xs) ids groups → Drops (spot_of version_id first x) ids ids_then → Drops (spot_of version_group first x) groups groups_then → AreIndexed (first + 1) xs ids_then groups_then
  first_dropped h id group = record {
    fits = omega (arith, h.fits);
    by_id = id (spots_from version_id (first + 1) xs) (spots_after version_id (first + 1) first xs (omega arith)) h.by_id;
    by_group = group (spots_from version_group (first + 1) xs) (spots_after version_group (first + 1) first xs (omega arith)) h.by_group;
  }

  pub last_dropped : AreIndexed first (xs ++ x ∷ []) ids groups → Drops (spot_of version_id (first + length xs) x) ids ids_then → Drops (spot_of version_group (first + length xs) x) groups groups_then → AreIndexed first xs ids_then groups_then
  last_dropped h id group = record {
    fits = omega (arith, h.fits, length-append xs (x ∷ []));
    by_id = id (spots_from version_id first xs) (spots_before version_id first (first + length xs) xs (omega arith)) (IsPermutation-trans _ _ _ (spots_last version_id first xs x) h.by_id);
    by_group = group (spots_from version_group first xs) (spots_before version_group first (first + length xs) xs (omega arith)) (IsPermutation-trans _ _ _ (spots_last version_group first xs x) h.by_group);
  }

-- ---- those from a number on

pub all_from : (n : ℕ) (ss : List Spot) → AllByRecursion (λ s. n ≤ s.number) (filter (is_from n) ss)
all_from n [] = tt
all_from n (s ∷ ss) = go (is_from n s) refl (all_from n ss)
  where
    go : (b : Bool) → is_from n s ≡ b → AllByRecursion (λ t. n ≤ t.number) (filter (is_from n) ss) → AllByRecursion (λ t. n ≤ t.number) (cond b (s ∷ filter (is_from n) ss) (filter (is_from n) ss))
    go true e more = (leb-true n s.number e, more)
    go false e more = more

later_spots : (key : Placed → ℕ) (n m gone : ℕ) (xs : List Placed) → m ≡ n + gone → filter (is_from m) (spots_from key n xs) ≡ spots_from key m (drop gone xs)
later_spots key n m zero xs e =
    let same : m ≡ n = omega (arith, e) in
    subst (λ k. filter (is_from m) (spots_from key k xs) ≡ spots_from key m xs) same (filter_all (is_from m) _ (all_weaker (λ s. m ≤ s.number) _ (λ s low. le-leb m s.number low) _ (spots_high key m m xs (omega arith))))
later_spots key n m (suc gone) [] e = refl
later_spots key n m (suc gone) (x ∷ xs) e = rw (lt-leb m n (omega (arith, e))) (later_spots key (n + 1) m gone xs (omega (arith, e)))

later_get : {X : Type 0} (xs : List X) (j gone i : ℕ) → j ≡ gone + i → slice_get xs j ≡ slice_get (drop gone xs) i
later_get xs j zero i e = ap (slice_get xs) (omega (arith, e))
later_get [] j (suc gone) i e = refl
later_get (x ∷ xs) zero (suc gone) i e = absurd (omega (arith, e))
later_get (x ∷ xs) (suc j) (suc gone) i e = later_get xs j gone i (omega (arith, e))

picked_later : (first gone n : ℕ) (xs : List Placed) (ss : List Spot) → n ≡ first + gone → AllByRecursion (λ s. n ≤ s.number) ss → picked first xs ss ≡ picked n (drop gone xs) ss
picked_later first gone n xs [] e low = refl
picked_later first gone n xs (s ∷ ss) e low =
    rw (later_get xs (s.number - first) gone (s.number - n) (omega (arith, e, low.0)))
    (ap (λ ys. option_to_list (slice_get (drop gone xs) (s.number - n)) ++ ys) (picked_later first gone n xs ss e low.1))

-- what is picked by them is picked of the versions without the first ones
pub picked_shown : (first gone : ℕ) (xs : List Placed) (ss there : List Spot) → filter (is_from (first + gone)) ss ≡ there → picked first xs (filter (is_from (first + gone)) ss) ≡ picked (first + gone) (drop gone xs) there
picked_shown first gone xs ss there same =
    picked_later first gone (first + gone) xs (filter (is_from (first + gone)) ss) refl (all_from (first + gone) ss) ∙ ap (picked (first + gone) (drop gone xs)) same

-- those are spots of the versions without the first ones
pub shown_indexed : (first gone : ℕ) (xs : List Placed) (ids groups : List Spot) → gone ≤ length xs → AreIndexed first xs ids groups → AreIndexed (first + gone) (drop gone xs) (filter (is_from (first + gone)) ids) (filter (is_from (first + gone)) groups)
shown_indexed first gone xs ids groups low h = record {
  fits = omega (arith, low, h.fits, length-drop gone xs);
  by_id = later version_id ids h.by_id;
  by_group = later version_group groups h.by_group;
}
  where
    later : (key : Placed → ℕ) (spots : List Spot) → IsPermutation (spots_from key first xs) spots → IsPermutation (spots_from key (first + gone) (drop gone xs)) (filter (is_from (first + gone)) spots)
    later key spots same = subst (λ ss. IsPermutation ss (filter (is_from (first + gone)) spots)) (later_spots key first (first + gone) gone xs refl) (IsPermutation-filter (is_from (first + gone)) _ _ same)

-- ---- spots between two

inner_low : (l death number : ℕ) → l ≤ death → is_le (ordering_then (nat_cmp l death) (nat_cmp 0 number)) ≡ true
inner_low l death number low = grind (arith, nat_tests)

inner_high : (h death number : ℕ) → death ≤ h → number < 18446744073709551616 → is_lt (ordering_then (nat_cmp h death) (nat_cmp 18446744073709551615 number)) ≡ false
inner_high h death number high most = grind (arith, nat_tests)

-- the keys between two, whatever comes after them
pub keys_between : (t a b table key : ℕ) (q r : Ordering) → is_le q ≡ true → is_lt r ≡ false
    → (is_le (ordering_then (nat_cmp t table) (ordering_then (nat_cmp a key) q)) && not (is_lt (ordering_then (nat_cmp t table) (ordering_then (nat_cmp b key) r)))) ≡ ((table == t) && (nat_le a key && nat_le key b))
keys_between t a b table key Less Less low high = absurd (let f = high in cc)
keys_between t a b table key Less Equal low high = grind (arith, nat_tests)
keys_between t a b table key Less Greater low high = grind (arith, nat_tests)
keys_between t a b table key Equal Less low high = absurd (let f = high in cc)
keys_between t a b table key Equal Equal low high = grind (arith, nat_tests)
keys_between t a b table key Equal Greater low high = grind (arith, nat_tests)
keys_between t a b table key Greater r low high = absurd (let f = low in cc)

within_both : (d : Deaths) (s : Spot) → dies_within d s ≡ true → (d.low ≤ s.death) × (s.death ≤ d.high)
within_both d s e =
    let both = both_true (nat_le d.low s.death) (nat_le s.death d.high) (both_true (nat_le d.number s.number) (nat_le d.low s.death && nat_le s.death d.high) e).1 in
    (leb-true d.low s.death both.0, leb-true s.death d.high both.1)

-- those that died between two stamps, of those from a number on
abbrev pub dies : Deaths → Spot → Bool
dies d s = nat_le d.low s.death && nat_le s.death d.high

pub within_from : (d : Deaths) (ss : List Spot) → filter (dies_within d) ss ≡ filter (dies d) (filter (is_from d.number) ss)
within_from d ss = sym (filtered_both (dies d) (is_from d.number) ss)

pub within_fit : (d : Deaths) (ss : List Spot) → AllByRecursion FitsSpot (filter (is_from d.number) ss) → AllByRecursion FitsSpot (filter (dies_within d) ss)
within_fit d ss fit = subst (AllByRecursion FitsSpot) (sym (within_from d ss)) (all-filter FitsSpot (dies d) (filter (is_from d.number) ss) fit)

pub between_spots : (t a b : ℕ) (d : Deaths) (ss : List Spot) → AllByRecursion FitsSpot (filter (is_from d.number) ss)
    → filter (dies_within d) (filter (range_contains spot_cmp (Included (record { table = t; key = a; death = d.low; number = 0 })) (Included (record { table = t; key = b; death = d.high; number = 18446744073709551615 }))) ss) ≡ filter (is_between t a b) (filter (dies_within d) ss)
between_spots t a b d ss fit =
    filters_turned (dies_within d) _ ss
    ∙ filter_same _ _ (filter (dies_within d) ss) (all_both (λ s. dies_within d s ≡ true) FitsSpot _ (λ s within fits. let w = within_both d s within in keys_between t a b s.table s.key _ _ (inner_low d.low s.death s.number w.0) (inner_high d.high s.death s.number w.1 fits.2)) (filter (dies_within d) ss) (passing (dies_within d) ss) (within_fit d ss fit))

none_keys : (t a b table key : ℕ) → b < a → ((table == t) && (nat_le a key && nat_le key b)) ≡ false
none_keys t a b table key low = grind (arith, nat_tests)

none_in : (t a b l h table key death : ℕ) → (b < a) ⊎ (h < l) → l ≤ death → death ≤ h → ((table == t) && (nat_le a key && nat_le key b)) ≡ false
none_in t a b l h table key death (inl low) from to = none_keys t a b table key low
none_in t a b l h table key death (inr low) from to = absurd (omega (arith, low, from, to))

both_off : (b : Bool) → b && not b ≡ false
both_off true = refl
both_off false = refl

pub none_between : (t a b : ℕ) (d : Deaths) (s : Spot) (ss : List Spot) → (b < a) ⊎ (d.high < d.low) → filter (dies_within d) (filter (range_contains spot_cmp (Included s) (Excluded s)) ss) ≡ filter (is_between t a b) (filter (dies_within d) ss)
none_between t a b d s ss low =
    filters_turned (dies_within d) _ ss
    ∙ filter_same _ _ (filter (dies_within d) ss) (all_weaker (λ x. dies_within d x ≡ true) _ (λ x within. let w = within_both d x within in both_off (is_le (spot_cmp s x)) ∙ sym (none_in t a b d.low d.high x.table x.key x.death low w.0 w.1)) (filter (dies_within d) ss) (passing (dies_within d) ss))

-- of one key they stand in the order of their deaths
same_keys : (t k a b : ℕ) → ((a == t) && (nat_le k b && nat_le b k)) ≡ true → (a ≡ t) × (b ≡ k)
same_keys t k a b e =
    let both = both_true (a == t) (nat_le k b && nat_le b k) e in
    let ends = both_true (nat_le k b) (nat_le b k) both.1 in
    (eqb-true a t both.0, (let low = leb-true k b ends.0 in let high = leb-true b k ends.1 in omega (arith, low, high)))

less_death : (c f x y : ℕ) → ordering_then (nat_cmp c f) (nat_cmp x y) ≡ Less → c ≤ f
less_death c f x y less = grind (arith, nat_tests)

rise_of : (t k a b c d e f x y : ℕ) → ((a == t) && (nat_le k b && nat_le b k)) ≡ true → ((d == t) && (nat_le k e && nat_le e k)) ≡ true → ordering_then (nat_cmp a d) (ordering_then (nat_cmp b e) (ordering_then (nat_cmp c f) (nat_cmp x y))) ≡ Less → c ≤ f
rise_of t k a b c d e f x y here there less =
    let one = same_keys t k a b here in
    let two = same_keys t k d e there in
    let tables : nat_cmp a d ≡ Equal = subst (λ n. nat_cmp a n ≡ Equal) (one.0 ∙ sym two.0) (number_itself a) in
    let keys : nat_cmp b e ≡ Equal = subst (λ n. nat_cmp b n ≡ Equal) (one.1 ∙ sym two.1) (number_itself b) in
    less_death c f x y (rw (tables, keys) at less)

pub deaths_rise : (t k : ℕ) (ss : List Spot) → IsStrictlySortedBy spot_cmp ss → AllByRecursion (λ s. is_between t k k s ≡ true) ss → DeathsAscend ss
deaths_rise t k [] sorted all = tt
deaths_rise t k (s ∷ ss) sorted all = (
  all_both (λ x. spot_cmp s x ≡ Less) (λ x. is_between t k k x ≡ true) _ (λ x less is. rise_of t k s.table s.key s.death x.table x.key x.death s.number x.number all.0 is less) ss (sorted_head spot_cmp s ss sorted) all.1,
  deaths_rise t k ss (sorted_tail spot_cmp s ss sorted) all.1,
)

pub between_rise : (t k : ℕ) (d : Deaths) (ss : List Spot) → IsStrictlySortedBy spot_cmp ss → DeathsAscend (filter (is_between t k k) (filter (dies_within d) ss))
between_rise t k d ss sorted =
    deaths_rise t k _ (IsStrictlySortedBy-filter spot_cmp (is_between t k k) _ (IsStrictlySortedBy-filter spot_cmp (dies_within d) ss sorted)) (passing (is_between t k k) (filter (dies_within d) ss))

-- ---- what a query looks up

pub between_one : (t i table key : ℕ) → ((table == t) && (nat_le i key && nat_le key i)) ≡ ((table == t) && (key == i))
between_one t i table key = grind (arith, nat_tests)

pub between_all : (t : ℕ) (ss : List Spot) → AllByRecursion FitsSpot ss → filter (is_between t 0 4294967295) ss ≡ filter (λ s. s.table == t) ss
between_all t ss fit = filter_same _ _ ss (all_weaker FitsSpot _ (λ s fits. whole s.table t s.key fits.0) ss fit)
  where
    whole : (a b key : ℕ) → key < 4294967296 → ((a == b) && (nat_le 0 key && nat_le key 4294967295)) ≡ (a == b)
    whole a b key low = grind (arith, nat_tests)

asked_spots : (q : Query) (d : Deaths) (first : ℕ) (xs : List Placed) (ids groups : List Spot) → AreIndexed first xs ids groups
    → IsPermutation (filter (λ x. dies_between d.low d.high x.version && suits q x.version) xs) (picked first xs (filter (spot_suits q) (spots_asked q (filter (dies d) ids) (filter (dies d) groups))))
asked_spots q d first xs ids groups h = go q
  where
    by : (key : Placed → ℕ) (p : Spot → Bool) (P : Placed → Bool) (spots : List Spot) → IsPermutation (spots_from key first xs) spots → ((n : ℕ) (x : Placed) → p (spot_of key n x) ≡ P x)
        → IsPermutation (filter (λ x. dies_between d.low d.high x.version && P x) xs) (picked first xs (filter p (filter (dies d) spots)))
    by key p P spots same suit =
        let all : picked first xs (filter (λ s. dies d s && p s) (spots_from key first xs)) ≡ filter (λ x. dies_between d.low d.high x.version && P x) xs
        = subst (λ n. picked first xs (filter (λ s. dies d s && p s) (spots_from key n xs)) ≡ filter (λ x. dies_between d.low d.high x.version && P x) xs) (omega arith)
        (picked_all key first (λ s. dies d s && p s) (λ x. dies_between d.low d.high x.version && P x) [] xs (λ n x. ap (λ b. dies_between d.low d.high x.version && b) (suit n x))) in
        let moved = subst (λ ys. IsPermutation ys (picked first xs (filter (λ s. dies d s && p s) spots))) all (IsPermutation-flat_map _ _ _ (IsPermutation-filter (λ s. dies d s && p s) _ _ same)) in
        subst (λ ss. IsPermutation (filter (λ x. dies_between d.low d.high x.version && P x) xs) (picked first xs ss)) (sym (filtered_both p (dies d) spots)) moved

    go : (r : Query) → IsPermutation (filter (λ x. dies_between d.low d.high x.version && suits r x.version) xs) (picked first xs (filter (spot_suits r) (spots_asked r (filter (dies d) ids) (filter (dies d) groups))))
    go (ById t i) = by version_id _ _ ids h.by_id (λ n x. between_one t i x.version.row.table x.version.row.id)
    go (ByGroup t g) = by version_group _ _ groups h.by_group (λ n x. between_one t g x.version.row.table x.version.row.group)
    go (All t) = by version_id _ _ ids h.by_id (λ n x. refl)
    go (Range t a b) = by version_id _ _ ids h.by_id (λ n x. refl)

-- ---- the version at a spot

-- a version stands at the spot, and died as it says
pub record Points (first : ℕ) (xs : List Placed) (s : Spot) : Type 0 where
  pub version : Placed
  pub stands : slice_get xs (s.number - first) ≡ Some version
  pub death : death_of version.version ≡ s.death

points_from : (key : Placed → ℕ) (first : ℕ) (before xs : List Placed) → AllByRecursion (Points first (before ++ xs)) (spots_from key (first + length before) xs)
points_from key first before [] = tt
points_from key first before (x ∷ xs) =
    let at : first + length (before ++ x ∷ []) ≡ (first + length before) + 1 = omega (arith, length-append before (x ∷ [])) in
    let here : slice_get (before ++ x ∷ xs) ((first + length before) - first) ≡ Some x = ap (slice_get (before ++ x ∷ xs)) (omega arith) ∙ there key before x xs in
    let rest = subst (λ ys. AllByRecursion (Points first ys) (spots_from key (first + length (before ++ x ∷ [])) xs)) (append_assoc before (x ∷ []) xs) (points_from key first (before ++ x ∷ []) xs) in
    (record { version = x; stands = here; death = refl }, subst (λ n. AllByRecursion (Points first (before ++ x ∷ xs)) (spots_from key n xs)) at rest)

pub all_point : (q : Query) (p : Spot → Bool) (first : ℕ) (xs : List Placed) (ids groups : List Spot) → AreIndexed first xs ids groups → AllByRecursion (Points first xs) (filter (spot_suits q) (spots_asked q (filter p ids) (filter p groups)))
all_point q p first xs ids groups h = all-filter (Points first xs) (spot_suits q) _ (go q)
  where
    each : (key : Placed → ℕ) (spots : List Spot) → IsPermutation (spots_from key first xs) spots → AllByRecursion (Points first xs) (filter p spots)
    each key spots same =
        let all = subst (λ n. AllByRecursion (Points first xs) (spots_from key n xs)) (omega arith) (points_from key first [] xs) in
        all-filter (Points first xs) p spots (all-permutation (Points first xs) _ spots same all)

    go : (r : Query) → AllByRecursion (Points first xs) (spots_asked r (filter p ids) (filter p groups))
    go (ById t i) = each version_id ids h.by_id
    go (ByGroup t g) = each version_group groups h.by_group
    go (All t) = each version_id ids h.by_id
    go (Range t a b) = each version_id ids h.by_id

stamp_low : (d : Option ℕ) (most : ℕ) → ((k : ℕ) → d ≡ Some k → k ≤ most) → stamp_or_zero d ≤ most
stamp_low None most low = omega arith
stamp_low (Some d) most low = low d refl

pub death_low : (v : Versioned) → IsStorable v → death_of v ≤ MOST_STAMP
death_low v is = stamp_low v.died MOST_STAMP is.died

-- the ids and the groups are numbers of a machine
module _ (first : ℕ) (xs : List Placed) (ids groups : List Spot) (h : AreIndexed first xs ids groups) (each : AllByRecursion (λ x. IsStorable x.version) xs) where
  fit : (key : Placed → ℕ) (spots : List Spot) → IsPermutation (spots_from key first xs) spots → ((x : Placed) → IsStorable x.version → key x ≤ 4294967295) → AllByRecursion FitsSpot spots
  fit key spots same low = all-permutation FitsSpot _ spots same (spots_fit key first xs (all_weaker _ _ (λ x is. (low x is, death_low x.version is)) xs each) h.fits)

  pub ids_fit : AllByRecursion FitsSpot ids
  ids_fit = fit version_id ids h.by_id (λ x is. is.row.id)

  pub groups_fit : AllByRecursion FitsSpot groups
  groups_fit = fit version_group groups h.by_group (λ x is. is.row.group)

-- ---- without the first ones

module _ (first gone : ℕ) (xs : List Placed) (ids groups : List Spot) (low : gone ≤ length xs) (h : AreIndexed first xs ids groups) where
  abbrev pub from_there : List Spot → List Spot
  from_there = filter (is_from (first + gone))

  pub shown_ids_fit : AllByRecursion (λ x. IsStorable x.version) (drop gone xs) → AllByRecursion FitsSpot (from_there ids)
  shown_ids_fit = ids_fit (first + gone) (drop gone xs) (from_there ids) (from_there groups) (shown_indexed first gone xs ids groups low h)

  pub shown_groups_fit : AllByRecursion (λ x. IsStorable x.version) (drop gone xs) → AllByRecursion FitsSpot (from_there groups)
  shown_groups_fit = groups_fit (first + gone) (drop gone xs) (from_there ids) (from_there groups) (shown_indexed first gone xs ids groups low h)

  module _ (q : Query) (d : Deaths) (same : d.number ≡ first + gone) (ss : List Spot) (are : filter (dies_within d) ss ≡ filter (spot_suits q) (spots_asked q (filter (dies_within d) ids) (filter (dies_within d) groups))) where
    -- what is picked at them is what died so
    pub picked_dead : IsPermutation (dead_between q d.low d.high (drop gone xs)) (map version_of (picked first xs (filter (dies_within d) ss)))
    picked_dead =
        let number : first + gone ≡ d.number = sym same in
        let indexed = shown_indexed first gone xs ids groups low h in
        let spots = asked_spots q d (first + gone) (drop gone xs) (from_there ids) (from_there groups) indexed in
        let each : (keys : List Spot) → filter (dies_within d) keys ≡ filter (dies d) (from_there keys) = λ keys. within_from d keys ∙ ap (λ n. filter (dies d) (filter (is_from n) keys)) same in
        let moved : filter (dies_within d) ss ≡ filter (spot_suits q) (spots_asked q (filter (dies d) (from_there ids)) (filter (dies d) (from_there groups)))
        = are ∙ (ap (λ is. filter (spot_suits q) (spots_asked q is (filter (dies_within d) groups))) (each ids) ∙ ap (λ gs. filter (spot_suits q) (spots_asked q (filter (dies d) (from_there ids)) gs)) (each groups)) in
        let high : AllByRecursion (λ s. first + gone ≤ s.number) (filter (dies_within d) ss) = subst (AllByRecursion (λ s. first + gone ≤ s.number)) (sym (within_from d ss)) (all-filter (λ s. first + gone ≤ s.number) (dies d) (filter (is_from d.number) ss) (subst (λ n. AllByRecursion (λ s. n ≤ s.number) (filter (is_from d.number) ss)) same (all_from d.number ss))) in
        let there : picked first xs (filter (dies_within d) ss) ≡ picked (first + gone) (drop gone xs) (filter (dies_within d) ss) = picked_later first gone (first + gone) xs (filter (dies_within d) ss) refl high in
        let mapped : dead_between q d.low d.high (drop gone xs) ≡ map version_of (filter (λ x. dies_between d.low d.high x.version && suits q x.version) (drop gone xs)) = filter-map (λ v. dies_between d.low d.high v && suits q v) version_of (drop gone xs) in
        rw (mapped, there, moved) (IsPermutation-map version_of _ _ spots)

    pub within_point : AllByRecursion (Points first xs) (filter (dies_within d) ss)
    within_point = subst (AllByRecursion (Points first xs)) (sym are) (all_point q (dies_within d) first xs ids groups h)

-- ---- one spot after another

pub got : {X : Type 0} (xs : List X) (i : ℕ) (x : X) → i < length xs → x ≡ get_or xs i x → slice_get xs i ≡ Some x
got [] i x low is = absurd (omega (arith, low))
got (y ∷ ys) zero x low is = ap (λ z. Some z) (sym is)
got (y ∷ ys) (suc i) x low is = got ys i x (omega (arith, low)) is

module _ (d : Deaths) (first : ℕ) (xs : List Placed) (s : Spot) (ss : List Spot) where
  abbrev pub taken : List Spot → List Versioned
  taken ts = map version_of (picked first xs (filter (dies_within d) ts))

  pub taken_other : dies_within d s ≡ false → taken (s ∷ ss) ≡ taken ss
  taken_other off = rw off refl

  pub taken_past : dies_within d s ≡ true → slice_get xs (s.number - first) ≡ None → taken (s ∷ ss) ≡ taken ss
  taken_past on e = rw (on, e) refl

  pub taken_there : dies_within d s ≡ true → (x : Placed) → slice_get xs (s.number - first) ≡ Some x → taken (s ∷ ss) ≡ x.version ∷ taken ss
  taken_there on x e = rw (on, e) refl
