-- Current versions in slots: what a change makes of them, and what is found in them.
use Rattle.std.proofs.Common.{◌≡◌, ◌≢◌, ℕ, ◌+◌, ◌<◌, ◌≤◌, ◌==◌, List, [], ◌∷◌, ◌++◌, map, filter, length, option_to_list, Bool, true, false, cond, not, ◌&&◌, nat_le, Option, Some, None, is_none, refl, sym, ap, subst, ◌∙◌, length-append, arith}
use Rattle.std.proofs.lemmas.Bool.Decides.{nat_tests}
use borrow.Author.Tests.{eqb-true}
use Rattle.std.specs.Option.{MatchOption}
use Rattle.std.specs.List.{flat_map, AllByRecursion}
use Rattle.std.specs.List.Sorted.{IsPermutation, IsStrictlySortedBy}
use Rattle.std.specs.Map.{keys_of, lookup}
use Rattle.std.specs.Ordering.{nat_cmp, ordering_then, is_eq, is_le, is_lt}
use Rattle.std.specs.BTreeMap.Range.{range_contains}
use Rattle.std.specs.declared.ops.Bound.TheVariants.{Included}
use Rattle.std.proofs.lemmas.List.{map-append, length-map}
use Rattle.std.proofs.lemmas.List.Elements.{filter-append}
use Rattle.std.proofs.lemmas.List.Sorted.{IsPermutation-trans, IsPermutation-sym, IsPermutation-map, IsPermutation-append_right}
use Rattle.sqlite_trees.proofs.ListLemmas.{filter-map, filter_all, filter_none, filter_same, all_of, all_both, all_weaker, all-append, all-filter, all-map, all-permutation, flat_map-map, flat_map_same, IsPermutation-filter, IsPermutation-flat_map}
use Rattle.txc_base_slots.specs.declared.slots.SlotKey.{SlotKey}
use Rattle.txc_base_slots.specs.Slots.{key_cmp, is_key, held_at, held, Changes}
use Rattle.txc_base_slots.proofs.SlotLemmas.{key_exact, key_itself, held_found}
use Rattle.txc_rows.specs.States.{is_at}
use Rattle.txc_rows.specs.StorableVersions.{IsStorable}
use Rattle.txc_rows.specs.declared.placed.Placed.{Placed}
use Rattle.txc_rows.specs.declared.query.Query.{Query}
use Rattle.txc_rows.specs.declared.query.Query.TheVariants.{ById, ByGroup, All, Range}
use Rattle.txc_rows.specs.declared.version.Versioned.{Versioned}
use Rattle.txc_rows.specs.Versions.{suits}
use Rattle.txc_rows.specs.Placed.{version_of, is_left, left_from, placed_left, closed_placed}
use Rattle.txc_rows.specs.LatestTable.{IsFinding}
use Rattle.txc_rows.specs.VersionSlots.{row_key, group_key, row_slot, group_slot, in_slots, row_between, in_group_of, AreCurrent, Moves}
use Rattle.txc_rows.proofs.Members.{both_true, passing}
use Rattle.txc_rows.proofs.IndexLemmas.{keys_between, between_one}
use Rattle.txc_tags.proofs.All.{all_front, all_back}

-- ---- keys

key_test : (t i u j : ℕ) → is_eq (ordering_then (nat_cmp t u) (ordering_then (nat_cmp i j) (nat_cmp 0 0))) ≡ ((u == t) && (j == i))
key_test t i u j = grind (arith, nat_tests)

-- a version stands in the slot of its own table and id alone
off_slot : (t i : ℕ) (x : Placed) → is_key (row_key t i) (row_slot x) ≡ false → is_at t i x.version.row ≡ false
off_slot t i x off = sym (key_test t i x.version.row.table x.version.row.id) ∙ off

at_slot : (t i : ℕ) (x : Placed) → row_key t i ≡ row_slot x → is_at t i x.version.row ≡ true
at_slot t i x same = sym (key_test t i x.version.row.table x.version.row.id) ∙ subst (λ k. is_key (row_key t i) k ≡ true) same (key_itself (row_key t i))

same_at : (t i u j : ℕ) → (u == t) && (j == i) ≡ true → (u ≡ t) × (j ≡ i)
same_at t i u j e = let h : (u ≡ t) × (j ≡ i) = (grind (arith, nat_tests), grind (arith, nat_tests)) in h

at_again : (t i u j : ℕ) → u ≡ t → j ≡ i → ((u == t) && (j == i)) ≡ true
at_again t i u j e f = grind (arith, nat_tests)

-- the slots of two versions in a group are apart where their tables or ids are
groups_apart : (t i : ℕ) (x y : Placed) → is_at t i x.version.row ≡ true → is_at t i y.version.row ≡ false → is_key (group_slot x) (group_slot y) ≡ false
groups_apart t i x y here off = go (is_key (group_slot x) (group_slot y)) refl
  where
    go : (b : Bool) → is_key (group_slot x) (group_slot y) ≡ b → b ≡ false
    go false e = refl
    go true e =
        let same = key_exact (group_slot x) (group_slot y) e in
        let one = same_at t i x.version.row.table x.version.row.id here in
        let on : is_at t i y.version.row ≡ true = at_again t i y.version.row.table y.version.row.id (sym (ap (λ (k : SlotKey). k.table) same) ∙ one.0) (sym (ap (λ (k : SlotKey). k.id) same) ∙ one.1) in
        absurd (cc)

-- ---- one slot is marked

abbrev other : SlotKey → SlotKey → Bool
other k l = not (is_key k l)

others_kept : (k : SlotKey) (ks : List SlotKey) → AllByRecursion (λ l. is_key k l ≡ false) ks → filter (other k) ks ≡ ks
others_kept k ks off = filter_all (other k) ks (all_weaker _ _ (λ l e. rw e refl) ks off)

module _ {V : Type 0} where
  abbrev pub keys : List (SlotKey × V) → List SlotKey
  keys ps = map (λ p. p.0) ps

  module _ (k : SlotKey) where
    own_left : (o : Option V) → filter (other k) (keys (held_at k o)) ≡ []
    own_left None = refl
    own_left (Some v) = rw (key_itself k) refl

    -- the keys of those slots are the marked one's and the others
    marked : (value : Option V) (old new : List (SlotKey × Option V)) (mine ks : List SlotKey) → Changes k value old new → AllByRecursion (λ l. is_key k l ≡ true) mine → AllByRecursion (λ l. is_key k l ≡ false) ks
        → IsPermutation (mine ++ ks) (keys (held old)) → IsPermutation (keys (held_at k value) ++ ks) (keys (held new))
    marked value old new mine ks h own off same =
        let left : filter (other k) (mine ++ ks) ≡ ks = filter-append (other k) mine ks ∙ ap (λ ls. ls ++ filter (other k) ks) (filter_none (other k) mine (all_weaker _ _ (λ l e. rw e refl) mine own)) ∙ others_kept k ks off in
        let rest_off : AllByRecursion (λ l. is_key k l ≡ false) (keys h.rest) = all-map (λ l. is_key k l ≡ false) (λ (p : SlotKey × V). p.0) h.rest h.others in
        let right : filter (other k) (keys (held_at k h.was ++ h.rest)) ≡ keys h.rest
        = ap (filter (other k)) (map-append (λ (p : SlotKey × V). p.0) (held_at k h.was) h.rest) ∙ filter-append (other k) (keys (held_at k h.was)) (keys h.rest) ∙ ap (λ ls. ls ++ filter (other k) (keys h.rest)) (own_left h.was) ∙ others_kept k (keys h.rest) rest_off in
        let before : IsPermutation (mine ++ ks) (keys (held_at k h.was ++ h.rest)) = IsPermutation-trans _ _ _ same (IsPermutation-map (λ (p : SlotKey × V). p.0) _ _ h.before) in
        let rest : IsPermutation ks (keys h.rest) = subst (λ l. IsPermutation l (keys h.rest)) left (subst (IsPermutation (filter (other k) (mine ++ ks))) right (IsPermutation-filter (other k) _ _ before)) in
        let after : IsPermutation (keys (held_at k value) ++ keys h.rest) (keys (held new))
        = subst (λ l. IsPermutation l (keys (held new))) (map-append (λ (p : SlotKey × V). p.0) (held_at k value) h.rest) (IsPermutation-map (λ (p : SlotKey × V). p.0) _ _ (IsPermutation-sym _ _ h.after)) in
        IsPermutation-trans _ _ _ (IsPermutation-append_right (keys (held_at k value)) _ _ rest) after

-- ---- a version is replaced

abbrev Holds : SlotKey → List (SlotKey × Option Placed) → Option Placed → Type 0
Holds k rows o = MatchOption o ((x : Placed) → lookup (is_key k) rows ≢ Some (Some x)) (λ x. lookup (is_key k) rows ≡ Some (Some x))

held_is : (k : SlotKey) (rows : List (SlotKey × Option Placed)) (o w : Option Placed) → lookup (is_key k) rows ≡ Some w → Holds k rows o → w ≡ o
held_is k rows None None found is = refl
held_is k rows None (Some x) found is = absurd (is x found)
held_is k rows (Some x) w found is = let same : Some w ≡ Some (Some x) = sym found ∙ is in let f = same in cc

one_row : (k : SlotKey) (o : Option Placed) → map (λ (p : SlotKey × Placed). p.1) (held_at k o) ≡ option_to_list o
one_row k None = refl
one_row k (Some x) = refl

module _ {V : Type 0} (t i s : ℕ) (mark : V) (rows rows_then : List (SlotKey × Option Placed)) (groups groups_mid groups_then : List (SlotKey × Option V)) (h : AreCurrent rows groups) (was came : Option Placed)
    (found : Holds (row_key t i) rows was)
    (left : MatchOption was (groups_mid ≡ groups) (λ x. Changes (group_slot x) None groups groups_mid))
    (new : MatchOption came (0 ≤ 0) (λ x. (is_at t i x.version.row ≡ true) × (x.version.died ≡ None)))
    (joined : MatchOption came (groups_then ≡ groups_mid) (λ x. Changes (group_slot x) (Some mark) groups_mid groups_then))
    (changes : Changes (row_key t i) came rows rows_then) where
  abbrev k : SlotKey
  k = row_key t i

  abbrev rest : List Placed
  rest = map (λ (p : SlotKey × Placed). p.1) changes.rest

  was_is : changes.was ≡ was
  was_is = held_is k rows was changes.was changes.found found

  rows_of : (o : Option Placed) → map (λ (p : SlotKey × Placed). p.1) (held_at k o ++ changes.rest) ≡ option_to_list o ++ rest
  rows_of o = map-append (λ (p : SlotKey × Placed). p.1) (held_at k o) changes.rest ∙ ap (λ xs. xs ++ rest) (one_row k o)

  before : IsPermutation (in_slots rows) (option_to_list was ++ rest)
  before = subst (λ o. IsPermutation (in_slots rows) (option_to_list o ++ rest)) was_is (subst (IsPermutation (in_slots rows)) (rows_of changes.was) (IsPermutation-map (λ (p : SlotKey × Placed). p.1) _ _ changes.before))

  after : IsPermutation (in_slots rows_then) (option_to_list came ++ rest)
  after = subst (IsPermutation (in_slots rows_then)) (rows_of came) (IsPermutation-map (λ (p : SlotKey × Placed). p.1) _ _ changes.after)

  keyed_parts : AllByRecursion (λ p. p.0 ≡ row_slot p.1) (held_at k changes.was ++ changes.rest)
  keyed_parts = all-permutation (λ p. p.0 ≡ row_slot p.1) _ _ changes.before h.keyed

  keyed_rest : AllByRecursion (λ p. p.0 ≡ row_slot p.1) changes.rest
  keyed_rest = all_back _ (held_at k changes.was) changes.rest keyed_parts

  rest_off : AllByRecursion (λ x. is_at t i x.version.row ≡ false) rest
  rest_off = all-map (λ x. is_at t i x.version.row ≡ false) (λ (p : SlotKey × Placed). p.1) changes.rest
      (all_both (λ p. p.0 ≡ row_slot p.1) (λ p. is_key k p.0 ≡ false) (λ p. is_at t i p.1.version.row ≡ false) (λ p same off. off_slot t i p.1 (subst (λ l. is_key k l ≡ false) same off)) changes.rest keyed_rest changes.others)

  was_at : AllByRecursion (λ x. is_at t i x.version.row ≡ true) (option_to_list was)
  was_at = subst (λ o. AllByRecursion (λ x. is_at t i x.version.row ≡ true) (option_to_list o)) was_is (go changes.was (all_front _ (held_at k changes.was) changes.rest keyed_parts))
    where
      go : (o : Option Placed) → AllByRecursion (λ p. p.0 ≡ row_slot p.1) (held_at k o) → AllByRecursion (λ x. is_at t i x.version.row ≡ true) (option_to_list o)
      go None keyed = tt
      go (Some x) keyed = (at_slot t i x keyed.0, tt)

  moves : (replaced : List Placed) → Moves t i s came (in_slots rows) (in_slots rows_then) replaced (replaced ++ map (closed_placed t i s) (option_to_list was))
  moves replaced = record { was = was; rest = rest; at = was_at; off = rest_off; before = before; after = after; replaced_are = refl }

  pub moves_so : (replaced new : List Placed) → new ≡ replaced ++ map (λ x. closed_placed x.version.row.table x.version.row.id s x) (option_to_list was) → Moves t i s came (in_slots rows) (in_slots rows_then) replaced new
  moves_so replaced new are = subst (λ xs. Moves t i s came (in_slots rows) (in_slots rows_then) replaced xs) (sym (are ∙ ap (λ xs. replaced ++ xs) (go was was_at))) (moves replaced)
    where
      go : (o : Option Placed) → AllByRecursion (λ x. is_at t i x.version.row ≡ true) (option_to_list o) → map (λ x. closed_placed x.version.row.table x.version.row.id s x) (option_to_list o) ≡ map (closed_placed t i s) (option_to_list o)
      go None at = refl
      go (Some x) at = let same = same_at t i x.version.row.table x.version.row.id at.0 in rw (same.0, same.1) refl

  -- ---- what is kept of them

  keyed_then : AllByRecursion (λ p. p.0 ≡ row_slot p.1) (held rows_then)
  keyed_then = all-permutation (λ p. p.0 ≡ row_slot p.1) _ _ (IsPermutation-sym _ _ changes.after) (all-append _ (held_at k came) changes.rest (go came new) keyed_rest)
    where
      own : (x : Placed) → is_at t i x.version.row ≡ true → k ≡ row_slot x
      own x at = let same = same_at t i x.version.row.table x.version.row.id at in rw (same.0, same.1) refl

      go : (o : Option Placed) → MatchOption o (0 ≤ 0) (λ x. (is_at t i x.version.row ≡ true) × (x.version.died ≡ None)) → AllByRecursion (λ p. p.0 ≡ row_slot p.1) (held_at k o)
      go None is = tt
      go (Some x) is = (own x is.0, tt)

  alive_then : AllByRecursion (λ x. x.version.died ≡ None) (in_slots rows_then)
  alive_then = all-permutation (λ x. x.version.died ≡ None) _ _ (IsPermutation-sym _ _ after)
      (all-append _ (option_to_list came) rest (go came new) (all_back _ (option_to_list was) rest (all-permutation (λ x. x.version.died ≡ None) _ _ before h.alive)))
    where
      go : (o : Option Placed) → MatchOption o (0 ≤ 0) (λ x. (is_at t i x.version.row ≡ true) × (x.version.died ≡ None)) → AllByRecursion (λ x. x.version.died ≡ None) (option_to_list o)
      go None is = tt
      go (Some x) is = (is.1, tt)

  slots_off : (x : Placed) → is_at t i x.version.row ≡ true → AllByRecursion (λ l. is_key (group_slot x) l ≡ false) (map group_slot rest)
  slots_off x at = all-map (λ l. is_key (group_slot x) l ≡ false) group_slot rest (all_weaker _ _ (λ y off. groups_apart t i x y at off) rest rest_off)

  -- its slot in the group is left
  mid_groups : IsPermutation (map group_slot rest) (keys (held groups_mid))
  mid_groups = go was left was_at (IsPermutation-trans _ _ _ (IsPermutation-sym _ _ (IsPermutation-map group_slot _ _ before)) h.grouped)
    where
      go : (o : Option Placed) → MatchOption o (groups_mid ≡ groups) (λ x. Changes (group_slot x) None groups groups_mid) → AllByRecursion (λ x. is_at t i x.version.row ≡ true) (option_to_list o)
          → IsPermutation (map group_slot (option_to_list o ++ rest)) (keys (held groups)) → IsPermutation (map group_slot rest) (keys (held groups_mid))
      go None same at all = rw same all
      go (Some x) change at all = marked (group_slot x) None groups groups_mid (group_slot x ∷ []) (map group_slot rest) change (key_itself (group_slot x), tt) (slots_off x at.0) all

  -- and that of the new one is taken
  grouped_then : IsPermutation (map group_slot (in_slots rows_then)) (keys (held groups_then))
  grouped_then = IsPermutation-trans _ _ _ (IsPermutation-map group_slot _ _ after) (go came new joined)
    where
      go : (o : Option Placed) → MatchOption o (0 ≤ 0) (λ x. (is_at t i x.version.row ≡ true) × (x.version.died ≡ None)) → MatchOption o (groups_then ≡ groups_mid) (λ x. Changes (group_slot x) (Some mark) groups_mid groups_then)
          → IsPermutation (map group_slot (option_to_list o ++ rest)) (keys (held groups_then))
      go None is same = rw same mid_groups
      go (Some x) is change = marked (group_slot x) (Some mark) groups_mid groups_then [] (map group_slot rest) change tt (slots_off x is.0) mid_groups

  pub current_then : AreCurrent rows_then groups_then
  current_then = record { keyed = keyed_then; alive = alive_then; grouped = grouped_then }

-- ---- what is found by table and id

low_end : is_le (nat_cmp 0 0) ≡ true
low_end = refl

high_end : is_lt (nat_cmp 0 0) ≡ false
high_end = refl

module _ (t a b : ℕ) where
  abbrev pub within : SlotKey → Bool
  within = range_contains key_cmp (Included (row_key t a)) (Included (row_key t b))

  within_is : (x : Placed) → within (row_slot x) ≡ row_between t a b x
  within_is x = keys_between t a b x.version.row.table x.version.row.id (nat_cmp 0 0) (nat_cmp 0 0) low_end high_end

  pub found_rows : (rows : List (SlotKey × Option Placed)) → AllByRecursion (λ p. p.0 ≡ row_slot p.1) (held rows) → in_slots (filter (λ e. within e.0) rows) ≡ filter (row_between t a b) (in_slots rows)
  found_rows [] keyed = refl
  found_rows (e ∷ es) keyed = go e.1 (all_front _ (held_at e.0 e.1) (held es) keyed) (within e.0) refl (found_rows es (all_back _ (held_at e.0 e.1) (held es) keyed))
    where
      go : (o : Option Placed) → AllByRecursion (λ p. p.0 ≡ row_slot p.1) (held_at e.0 o) → (c : Bool) → within e.0 ≡ c → in_slots (filter (λ f. within f.0) es) ≡ filter (row_between t a b) (in_slots es)
          → in_slots (cond c ((e.0, o) ∷ filter (λ f. within f.0) es) (filter (λ f. within f.0) es)) ≡ filter (row_between t a b) (map (λ (p : SlotKey × Placed). p.1) (held_at e.0 o ++ held es))
      go None keyed true is more = more
      go None keyed false is more = more
      go (Some x) keyed true is more = let on : row_between t a b x ≡ true = sym (within_is x) ∙ subst (λ l. within l ≡ true) keyed.0 is in rw on (ap (λ xs. x ∷ xs) more)
      go (Some x) keyed false is more = let on : row_between t a b x ≡ false = sym (within_is x) ∙ subst (λ l. within l ≡ false) keyed.0 is in rw on more

none_row : (t a b u n : ℕ) → b < a → ((u == t) && (nat_le a n && nat_le n b)) ≡ false
none_row t a b u n low = grind (arith, nat_tests)

pub none_between : (t a b : ℕ) → b < a → (xs : List Placed) → filter (row_between t a b) xs ≡ []
none_between t a b low [] = refl
none_between t a b low (x ∷ xs) = rw (none_row t a b x.version.row.table x.version.row.id low) (none_between t a b low xs)

-- ---- and by table and group

-- the version that was looked up
abbrev pub there_of : Option (Option Placed) → Option Placed
there_of None = None
there_of (Some o) = o

-- the versions of the table with the ids of these keys
abbrev pub gathered : List (SlotKey × Option Placed) → ℕ → List SlotKey → List Placed
gathered rows t = flat_map (λ k. option_to_list (there_of (lookup (is_key (row_key t k.id)) rows)))

pub none_there : (o : Option (Option Placed)) → ((x : Placed) → o ≢ Some (Some x)) → there_of o ≡ None
none_there None none = refl
none_there (Some None) none = refl
none_there (Some (Some x)) none = absurd (none x refl)

pub gathered_first : {V : Type 0} (rows : List (SlotKey × Option Placed)) (t : ℕ) (k : SlotKey) (o : Option V) (es : List (SlotKey × Option V)) (x : Placed) → is_none o ≡ false → lookup (is_key (row_key t k.id)) rows ≡ Some (Some x)
    → gathered rows t (keys (held ((k, o) ∷ es))) ≡ x ∷ gathered rows t (keys (held es))
gathered_first rows t k None es x some found = absurd (let e = some in cc)
gathered_first rows t k (Some v) es x some found = rw found refl

-- more than there may be
pub many_left : (most : ℕ) (old found : List Versioned) (x : Placed) (rest all : List Placed) → found ++ map version_of (x ∷ rest) ≡ old ++ map version_of all → length found ≡ most → most < length old + length all
many_left most old found x rest all same full =
    omega (arith, full, ap length same, length-append found (map version_of (x ∷ rest)), length-append old (map version_of all), length-map rest version_of, length-map all version_of)

low_id : (n : ℕ) → is_le (nat_cmp 0 n) ≡ true
low_id n = grind (arith, nat_tests)

high_id : (n : ℕ) → n ≤ 4294967295 → is_lt (nat_cmp 4294967295 n) ≡ false
high_id n low = grind (arith, nat_tests)

abbrev pub found_keys : {V : Type 0} → ℕ → ℕ → List (SlotKey × Option Placed) → List (SlotKey × Option V) → List Placed
found_keys t g rows groups = gathered rows t (map (λ p. p.0) (held (filter (λ e. range_contains key_cmp (Included (group_key t g 0)) (Included (group_key t g 4294967295)) e.0) groups)))

module _ (t g : ℕ) where
  abbrev pub in_range : SlotKey → Bool
  in_range = range_contains key_cmp (Included (group_key t g 0)) (Included (group_key t g 4294967295))

  abbrev of_group : SlotKey → Bool
  of_group k = (k.table == t) && (k.number == g)

  range_is : (k : SlotKey) → k.id ≤ 4294967295 → in_range k ≡ of_group k
  range_is k low = keys_between t g g k.table k.number (nat_cmp 0 k.id) (nat_cmp 4294967295 k.id) (low_id k.id) (high_id k.id low) ∙ between_one t g k.table k.number

  group_keys : {V : Type 0} (groups : List (SlotKey × Option V)) → AllByRecursion (λ l. l.id ≤ 4294967295) (keys (held groups)) → keys (held (filter (λ e. in_range e.0) groups)) ≡ filter of_group (keys (held groups))
  group_keys [] low = refl
  group_keys {V} (e ∷ es) low = go e.1 low (in_range e.0) refl (group_keys es)
    where
      go : (o : Option V) → AllByRecursion (λ l. l.id ≤ 4294967295) (keys (held_at e.0 o ++ held es)) → (c : Bool) → in_range e.0 ≡ c → (AllByRecursion (λ l. l.id ≤ 4294967295) (keys (held es)) → keys (held (filter (λ f. in_range f.0) es)) ≡ filter of_group (keys (held es)))
          → keys (held (cond c ((e.0, o) ∷ filter (λ f. in_range f.0) es) (filter (λ f. in_range f.0) es))) ≡ filter of_group (keys (held_at e.0 o ++ held es))
      go None low true is more = more low
      go None low false is more = more low
      go (Some v) low true is more = let on : of_group e.0 ≡ true = sym (range_is e.0 low.0) ∙ is in rw on (ap (λ xs. e.0 ∷ xs) (more low.1))
      go (Some v) low false is more = let on : of_group e.0 ≡ false = sym (range_is e.0 low.0) ∙ is in rw on (more low.1)

  module _ {V : Type 0} (rows : List (SlotKey × Option Placed)) (groups : List (SlotKey × Option V)) (h : AreCurrent rows groups) (sorted : IsStrictlySortedBy key_cmp (keys_of rows)) where
    looked_up : AllByRecursion (λ x. lookup (is_key (row_slot x)) rows ≡ Some (Some x)) (in_slots rows)
    looked_up = all-map (λ x. lookup (is_key (row_slot x)) rows ≡ Some (Some x)) (λ (p : SlotKey × Placed). p.1) (held rows)
        (all_both (λ p. p.0 ≡ row_slot p.1) (λ p. lookup (is_key p.0) rows ≡ Some (Some p.1)) (λ p. lookup (is_key (row_slot p.1)) rows ≡ Some (Some p.1)) (λ p same found. subst (λ l. lookup (is_key l) rows ≡ Some (Some p.1)) same found) (held rows) h.keyed (held_found rows sorted))

    one_gathered : (x : Placed) → in_group_of t g x ≡ true → lookup (is_key (row_slot x)) rows ≡ Some (Some x) → option_to_list (there_of (lookup (is_key (row_key t x.version.row.id)) rows)) ≡ x ∷ []
    one_gathered x here found =
        let table : x.version.row.table ≡ t = eqb-true _ _ (both_true (x.version.row.table == t) (x.version.row.group == g) here).0 in
        ap (λ o. option_to_list (there_of o)) (subst (λ (n : ℕ). lookup (is_key (row_key n x.version.row.id)) rows ≡ Some (Some x)) table found)

    abbrev asked_rows : List Placed
    asked_rows = filter (in_group_of t g) (in_slots rows)

    all_gathered : gathered rows t (map group_slot asked_rows) ≡ asked_rows
    all_gathered = flat_map-map (λ k. option_to_list (there_of (lookup (is_key (row_key t k.id)) rows))) group_slot asked_rows
        ∙ flat_map_same (λ x. option_to_list (there_of (lookup (is_key (row_key t x.version.row.id)) rows))) asked_rows
        (all_both (λ x. in_group_of t g x ≡ true) (λ x. lookup (is_key (row_slot x)) rows ≡ Some (Some x)) _ one_gathered asked_rows (passing (in_group_of t g) (in_slots rows)) (all-filter _ (in_group_of t g) (in_slots rows) looked_up))

    pub found_group : AllByRecursion (λ x. IsStorable x.version) (in_slots rows) → IsPermutation (filter (in_group_of t g) (in_slots rows)) (gathered rows t (keys (held (filter (λ e. in_range e.0) groups))))
    found_group each =
        let low : AllByRecursion (λ l. l.id ≤ 4294967295) (keys (held groups)) = all-permutation (λ l. l.id ≤ 4294967295) _ _ h.grouped (all-map (λ l. l.id ≤ 4294967295) group_slot (in_slots rows) (all_weaker _ _ (λ x is. is.row.id) (in_slots rows) each)) in
        let asked : IsPermutation (map group_slot asked_rows) (filter of_group (keys (held groups))) = subst (λ l. IsPermutation l (filter of_group (keys (held groups)))) (filter-map of_group group_slot (in_slots rows)) (IsPermutation-filter of_group _ _ h.grouped) in
        let ranged : IsPermutation (map group_slot asked_rows) (keys (held (filter (λ e. in_range e.0) groups))) = rw (group_keys groups low) asked in
        subst (λ l. IsPermutation l (gathered rows t (keys (held (filter (λ e. in_range e.0) groups))))) all_gathered (IsPermutation-flat_map _ _ _ ranged)

-- ---- the same slots

pub current_same : {V : Type 0} (rows rows_then : List (SlotKey × Option Placed)) (groups groups_then : List (SlotKey × Option V)) → held rows_then ≡ held rows → held groups_then ≡ held groups → AreCurrent rows groups → AreCurrent rows_then groups_then
current_same rows rows_then groups groups_then rows_same groups_same h = record { keyed = rw rows_same h.keyed; alive = rw rows_same h.alive; grouped = rw (rows_same, groups_same) h.grouped }

-- ---- what a query finds in them

pub alive_left : (from : ℕ) (xs : List Placed) → AllByRecursion (λ x. x.version.died ≡ None) xs → left_from from (map version_of xs) ≡ map version_of xs
alive_left from [] alive = refl
alive_left from (x ∷ xs) alive = let on : is_left from x.version ≡ true = rw alive.0 refl in rw on (ap (λ vs. x.version ∷ vs) (alive_left from xs alive.1))

pub alive_placed : (from : ℕ) (xs : List Placed) → AllByRecursion (λ x. x.version.died ≡ None) xs → placed_left from xs ≡ xs
alive_placed from [] alive = refl
alive_placed from (x ∷ xs) alive = let on : is_left from x.version ≡ true = rw alive.0 refl in rw on (ap (λ ys. x ∷ ys) (alive_placed from xs alive.1))

module _ (q : Query) (p : Placed → Bool) (xs : List Placed) (agree : AllByRecursion (λ x. p x ≡ suits q x.version) xs) where
  suited : filter (suits q) (map version_of xs) ≡ map version_of (filter p xs)
  suited = filter-map (suits q) version_of xs ∙ ap (map version_of) (sym (filter_same p (λ x. suits q x.version) xs agree))

  pub slots_finding : AllByRecursion (λ x. x.version.died ≡ None) xs → (from : ℕ) (more : List Placed) → IsPermutation (filter p xs) more → (old new : List Versioned) → new ≡ old ++ map version_of more → IsFinding q from xs old new
  slots_finding alive from more same old new are = record {
    more = map version_of more;
    same = rw (alive_left from xs alive, suited) (IsPermutation-map version_of _ _ same);
    are = are;
  }

  pub slots_many : AllByRecursion (λ x. x.version.died ≡ None) xs → (from most n : ℕ) → most < n + length (filter p xs) → most < n + length (filter (suits q) (left_from from (map version_of xs)))
  slots_many alive from most n many = omega (arith, many, ap (λ vs. length (filter (suits q) vs)) (alive_left from xs alive), ap length suited, length-map (filter p xs) version_of)

pub agree_id : (t i : ℕ) (xs : List Placed) → AllByRecursion (λ x. row_between t i i x ≡ suits (ById t i) x.version) xs
agree_id t i xs = all_of (λ x. row_between t i i x ≡ suits (ById t i) x.version) (λ x. between_one t i x.version.row.table x.version.row.id) xs

pub agree_group : (t g : ℕ) (xs : List Placed) → AllByRecursion (λ x. in_group_of t g x ≡ suits (ByGroup t g) x.version) xs
agree_group t g xs = all_of (λ x. in_group_of t g x ≡ suits (ByGroup t g) x.version) (λ x. refl) xs

pub agree_range : (t a b : ℕ) (xs : List Placed) → AllByRecursion (λ x. row_between t a b x ≡ suits (Range t a b) x.version) xs
agree_range t a b xs = all_of (λ x. row_between t a b x ≡ suits (Range t a b) x.version) (λ x. refl) xs

any_id : (t u n : ℕ) → n ≤ 4294967295 → ((u == t) && (nat_le 0 n && nat_le n 4294967295)) ≡ (u == t)
any_id t u n low = grind (arith, nat_tests)

pub agree_all : (t : ℕ) (xs : List Placed) → AllByRecursion (λ x. IsStorable x.version) xs → AllByRecursion (λ x. row_between t 0 4294967295 x ≡ suits (All t) x.version) xs
agree_all t xs each = all_weaker (λ x. IsStorable x.version) (λ x. row_between t 0 4294967295 x ≡ suits (All t) x.version) (λ x is. any_id t x.version.row.table x.version.row.id is.row.id) xs each
