-- What a change makes of the last versions and of those that were replaced.
use Rattle.std.proofs.Common.{◌≡◌, ◌≢◌, inl, inr, ℕ, ◌+◌, ◌<◌, ◌≤◌, List, [], ◌∷◌, ◌++◌, map, filter, length, Bool, true, false, cond, ◌&&◌, ◌==◌, None, Some, refl, sym, ap, ◌∙◌, append-nil, append_assoc, arith}
use Rattle.std.proofs.lemmas.Bool.Decides.{nat_tests}
use borrow.Author.Tests.{eqb-true, eq-eqb}
use Rattle.std.proofs.lemmas.List.{map-append}
use Rattle.std.specs.List.{AllByRecursion}
use Rattle.std.specs.List.Sorted.{IsPermutation}
use Rattle.std.proofs.lemmas.List.Sorted.{IsPermutation-refl, IsPermutation-trans, IsPermutation-sym, IsPermutation-cons, IsPermutation-append_left, IsPermutation-append_right, IsPermutation-append_comm}
use Rattle.sqlite.specs.Tree.{IsAscending}
use Rattle.sqlite_trees.proofs.ListLemmas.{map-map, all_of, all_weaker, all_both, all-filter, all-append, all-map, all-permutation, ascending-append, ascending-map, ascending_weaker, IsPermutation-same, filter_none}
use Rattle.txc_stamp.specs.declared.stamp.TheConstants.{MOST_STAMP}
use Rattle.txc_rows.specs.Values.{RowValue, IsRow}
use Rattle.txc_rows.specs.States.{is_at}
use Rattle.txc_rows.specs.Versions.{is_current, closed, removed}
use Rattle.txc_rows.specs.StorableVersions.{IsStorable}
use Rattle.txc_rows.specs.declared.placed.Placed.{Placed}
use Rattle.txc_rows.specs.Placed.{version_of, by_place, versions_by_place, has_key, closed_placed, new_placed, renewed, put_latest, put_replaced, HaveOwnPlaces, HaveOwnKeys, AreBelow, IsOneCurrent, AreWellPlaced, AreWritten}
use Rattle.txc_rows.proofs.Members.{bool_cases, both_true, and_true, none_of, passing}
use Rattle.txc_rows.proofs.StoredVersions.{hit_is, holdable_closed, closed_dead}
use Rattle.txc_rows.proofs.PlaceLemmas.{pairs_permuted, by_place_same, by_place_mapped, by_place_last, own_places_permuted}
use Rattle.txc_tags.proofs.All.{all_front, all_back}

-- ---- what is left of a list, and its front

-- each of two lists, and each of the first with each of the second
pub parts : {A : Type 0} (R : A → A → Type 0) (xs ys : List A) → IsAscending R (xs ++ ys) → IsAscending R xs × IsAscending R ys × AllByRecursion (λ x. AllByRecursion (R x) ys) xs
parts R [] ys pairs = (tt, pairs, tt)
parts R (x ∷ xs) ys pairs = let rest = parts R xs ys pairs.1 in ((all_front (R x) xs ys pairs.0, rest.0), rest.1, (all_back (R x) xs ys pairs.0, rest.2))

pub empty_of : {A : Type 0} (xs : List A) → length xs == 0 ≡ true → xs ≡ []
empty_of [] e = refl
empty_of (x ∷ xs) e = absurd (let f = eqb-true _ _ e in omega (arith, f))

-- ---- a version ends

dead_stays : (t i s : ℕ) (x : Placed) → x.version.died ≢ None → closed_placed t i s x ≡ x
dead_stays t i s x dead = elim (bool_cases (is_at t i x.version.row && is_current x.version)) [
  | inl hit ↦ absurd (dead (hit_is t i x.version hit).2)
  | inr off ↦ rw off refl
]

pub dead_stay : (t i s : ℕ) (xs : List Placed) → AllByRecursion (λ x. x.version.died ≢ None) xs → map (closed_placed t i s) xs ≡ xs
dead_stay t i s [] dead = refl
dead_stay t i s (x ∷ xs) dead = rw (dead_stays t i s x dead.0, dead_stay t i s xs dead.1) refl

ended_all : (t i s : ℕ) (latest earlier : List Placed) → AllByRecursion (λ x. x.version.died ≢ None) earlier → map (closed_placed t i s) latest ++ earlier ≡ map (closed_placed t i s) (latest ++ earlier)
ended_all t i s latest earlier dead = ap (λ ys. map (closed_placed t i s) latest ++ ys) (sym (dead_stay t i s earlier dead)) ∙ sym (map-append (closed_placed t i s) latest earlier)

pub ended_versions : (t i s : ℕ) (latest earlier : List Placed) → AllByRecursion (λ x. x.version.died ≢ None) earlier
    → versions_by_place (map (closed_placed t i s) latest ++ earlier) ≡ removed t i s (versions_by_place (latest ++ earlier))
ended_versions t i s latest earlier dead =
    ap versions_by_place (ended_all t i s latest earlier dead)
    ∙ ap (map version_of) (by_place_mapped (closed_placed t i s) (λ x. refl) (latest ++ earlier))
    ∙ map-map version_of (closed_placed t i s) (by_place (latest ++ earlier))
    ∙ sym (map-map (closed t i s) version_of (by_place (latest ++ earlier)))

still_one : (t i s : ℕ) (x y : Placed) → IsOneCurrent x y → IsOneCurrent (closed_placed t i s x) (closed_placed t i s y)
still_one t i s x y h at current = closed_dead t i s y.version (h at (alive (is_at t i x.version.row && is_current x.version) refl current))
  where
    alive : (b : Bool) → is_at t i x.version.row && is_current x.version ≡ b → cond b (Some s) x.version.died ≡ None → x.version.died ≡ None
    alive true e f = absurd (let g = f in cc)
    alive false e f = f

pub ended_apart : (t i s : ℕ) → s ≤ MOST_STAMP → (latest earlier : List Placed) → AreWellPlaced latest earlier → AreWellPlaced (map (closed_placed t i s) latest) earlier
ended_apart t i s low latest earlier h =
    let all = ended_all t i s latest earlier h.ended in
    record {
      places = rw all (ascending-map (λ x y. x.place ≢ y.place) (closed_placed t i s) (latest ++ earlier) h.places);
      keys = ascending-map _ (closed_placed t i s) latest h.keys;
      current = ascending-map IsOneCurrent (closed_placed t i s) latest (ascending_weaker IsOneCurrent _ (still_one t i s) latest h.current);
      ended = h.ended;
      each = rw all (all-map (λ x. IsStorable x.version) (closed_placed t i s) (latest ++ earlier) (all_weaker _ _ (λ x is. holdable_closed t i s low x.version is) (latest ++ earlier) h.each));
    }

pub ended_below : (t i s next : ℕ) (latest earlier : List Placed) → AllByRecursion (λ x. x.version.died ≢ None) earlier → AreBelow next (latest ++ earlier) → AreBelow next (map (closed_placed t i s) latest ++ earlier)
ended_below t i s next latest earlier dead low = rw (ended_all t i s latest earlier dead) (all-map (λ x. x.place < next) (closed_placed t i s) (latest ++ earlier) low)

-- none of the table and id is current
abbrev pub HasNoCurrent : ℕ → ℕ → List Placed → Type 0
HasNoCurrent t i = AllByRecursion (λ x. is_at t i x.version.row ≡ true → x.version.died ≢ None)

pub ended_none : (t i s : ℕ) (xs : List Placed) → HasNoCurrent t i (map (closed_placed t i s) xs)
ended_none t i s xs = all-map (λ x. is_at t i x.version.row ≡ true → x.version.died ≢ None) (closed_placed t i s) xs (all_of _ each xs)
  where
    each : (x : Placed) → is_at t i x.version.row ≡ true → (closed_placed t i s x).version.died ≢ None
    each x at = go (is_at t i x.version.row && is_current x.version) refl
      where
        go : (b : Bool) → is_at t i x.version.row && is_current x.version ≡ b → cond b (Some s) x.version.died ≡ None → ⊥
        go true e f = let g = f in cc
        go false e f = let current : is_current x.version ≡ true = rw f refl in let hit = and_true _ _ at current in cc

at_turned : (a b c d : ℕ) → (c == a) && (d == b) ≡ true → (a == c) && (b == d) ≡ true
at_turned a b c d e = grind (arith, nat_tests)

pub one_turned : (x y : Placed) → IsOneCurrent x y → IsOneCurrent y x
one_turned x y one at current dead = one (at_turned y.version.row.table y.version.row.id x.version.row.table x.version.row.id at) dead current

-- at most one of a table and id is current
pub few_current : (t i : ℕ) (xs : List Placed) → IsAscending IsOneCurrent xs → length (filter (λ x. is_at t i x.version.row && is_current x.version) xs) ≤ 1
few_current t i [] h = omega arith
few_current t i (x ∷ xs) h = elim (bool_cases (is_at t i x.version.row && is_current x.version)) [
  | inl e ↦ rw (e, filter_none _ xs (all_weaker (IsOneCurrent x) _ (none e) xs h.0)) (omega arith)
  | inr e ↦ rw e (few_current t i xs h.1)
]
  where
    none : is_at t i x.version.row && is_current x.version ≡ true → (y : Placed) → IsOneCurrent x y → is_at t i y.version.row && is_current y.version ≡ false
    none hit y one = elim (bool_cases (is_at t i y.version.row && is_current y.version)) [
      | inl hits ↦
          let a = hit_is t i x.version hit in
          let b = hit_is t i y.version hits in
          absurd (one (and_true _ _ (eq-eqb _ _ (b.0 ∙ sym a.0)) (eq-eqb _ _ (b.1 ∙ sym a.1))) a.2 b.2)
      | inr off ↦ off
    ]

-- ---- keys

pub key_is : (t i g : ℕ) (x : Placed) → has_key t i g x ≡ true → (x.version.row.table ≡ t) × (x.version.row.id ≡ i) × (x.version.row.group ≡ g)
key_is t i g x e =
    let two = both_true (is_at t i x.version.row) (x.version.row.group == g) e in
    let at = both_true (x.version.row.table == t) (x.version.row.id == i) two.0 in
    (eqb-true _ _ at.0, eqb-true _ _ at.1, eqb-true _ _ two.1)

pub key_turned : (t i g u j k : ℕ) → (((t == u) && (i == j)) && (g == k)) ≡ (((u == t) && (j == i)) && (k == g))
key_turned t i g u j k = grind (arith, nat_tests)

-- those after one with the key do not have it
others_off : (t i g : ℕ) (x : Placed) → has_key t i g x ≡ true → (ys : List Placed) → AllByRecursion (λ y. has_key x.version.row.table x.version.row.id x.version.row.group y ≡ false) ys → AllByRecursion (λ y. has_key t i g y ≡ false) ys
others_off t i g x e ys all = let same = key_is t i g x e in rw (same.0, same.1, same.2) at all

pub few_keys : (t i g : ℕ) (xs : List Placed) → HaveOwnKeys xs → length (filter (has_key t i g) xs) ≤ 1
few_keys t i g [] own = omega arith
few_keys t i g (x ∷ xs) own = elim (bool_cases (has_key t i g x)) [
  | inl e ↦ rw (e, filter_none (has_key t i g) xs (others_off t i g x e xs own.0)) (omega arith)
  | inr e ↦ rw e (few_keys t i g xs own.1)
]

higher : (place : ℕ) (xs : List Placed) → AreBelow place xs → AreBelow (place + 1) xs
higher place xs below = all_weaker (λ x. x.place < place) (λ x. x.place < place + 1) (λ x low. omega (arith, low)) xs below

-- ---- a put

module _ (place s : ℕ) (row : RowValue) where
  abbrev new : Placed
  new = new_placed place row s

  abbrev here : Placed → Bool
  here = has_key row.table row.id row.group

  stay_off : (xs : List Placed) → AllByRecursion (λ x. here x ≡ false) xs → map (renewed place row s) xs ≡ xs
  stay_off [] off = refl
  stay_off (x ∷ xs) off = rw (off.0, stay_off xs off.1) refl

  -- the new one comes, and the one before it goes to the earlier ones
  renewed_permutes : (xs : List Placed) → HaveOwnKeys xs → length (filter here xs) == 0 ≡ false → IsPermutation (map (renewed place row s) xs ++ filter here xs) (xs ++ new ∷ [])
  renewed_permutes [] own some = absurd (let e = some in cc)
  renewed_permutes (x ∷ xs) own some = go (here x) refl some (renewed_permutes xs own.1)
    where
      ends : (a b : Placed) (ys : List Placed) → IsPermutation (b ∷ ys ++ a ∷ []) (a ∷ ys ++ b ∷ [])
      ends a b ys = IsPermutation-trans _ _ _ (IsPermutation-append_comm (b ∷ ys) (a ∷ [])) (IsPermutation-cons a _ _ (IsPermutation-append_comm (b ∷ []) ys))

      go : (b : Bool) → here x ≡ b → length (filter here (x ∷ xs)) == 0 ≡ false → (length (filter here xs) == 0 ≡ false → IsPermutation (map (renewed place row s) xs ++ filter here xs) (xs ++ new ∷ [])) → IsPermutation (map (renewed place row s) (x ∷ xs) ++ filter here (x ∷ xs)) ((x ∷ xs) ++ new ∷ [])
      go true e some on =
          let off = others_off row.table row.id row.group x e xs own.0 in
          rw (e, stay_off xs off, filter_none here xs off) (ends x new xs)
      go false e some on = rw e (IsPermutation-cons x _ _ (on (rw e at some)))

  moved : (xs ys zs : List Placed) → IsPermutation ((xs ++ zs) ++ ys) ((xs ++ ys) ++ zs)
  moved xs ys zs = rw (append_assoc xs zs ys, append_assoc xs ys zs) (IsPermutation-append_right xs _ _ (IsPermutation-append_comm zs ys))

  swapped : (latest : List Placed) → HaveOwnKeys latest → IsPermutation (put_latest place row s latest ++ filter here latest) (latest ++ new ∷ [])
  swapped latest own = go (length (filter here latest) == 0) refl
    where
      go : (b : Bool) → length (filter here latest) == 0 ≡ b → IsPermutation (cond b (latest ++ new ∷ []) (map (renewed place row s) latest) ++ filter here latest) (latest ++ new ∷ [])
      go true e = rw (empty_of (filter here latest) e, append-nil (latest ++ new ∷ [])) (IsPermutation-refl (latest ++ new ∷ []))
      go false e = renewed_permutes latest own e

  module _ (latest earlier : List Placed) (h : AreWellPlaced latest earlier) (low : AreBelow place (latest ++ earlier)) where
    all : List Placed
    all = latest ++ earlier

    own_then : HaveOwnPlaces ((latest ++ earlier) ++ new ∷ [])
    own_then = ascending-append (λ x y. x.place ≢ y.place) (latest ++ earlier) (new ∷ []) h.places (tt, tt) (all_weaker (λ x. x.place < place) (λ x. AllByRecursion (λ y. x.place ≢ y.place) (new ∷ [])) (λ x below. (λ e. omega (arith, below, e), tt)) (latest ++ earlier) low)

    permutes : IsPermutation (put_latest place row s latest ++ put_replaced row latest earlier) ((latest ++ earlier) ++ new ∷ [])
    permutes =
        IsPermutation-trans _ _ _ (IsPermutation-same _ _ (sym (append_assoc (put_latest place row s latest) earlier (filter here latest))))
        (IsPermutation-trans _ _ _ (moved (put_latest place row s latest) (filter here latest) earlier)
        (IsPermutation-trans _ _ _ (IsPermutation-append_left earlier _ _ (swapped latest h.keys)) (moved latest earlier (new ∷ []))))

    pub put_versions : versions_by_place (put_latest place row s latest ++ put_replaced row latest earlier) ≡ versions_by_place (latest ++ earlier) ++ new.version ∷ []
    put_versions =
        ap (map version_of) (sym (by_place_same _ _ (IsPermutation-sym _ _ permutes) own_then) ∙ by_place_last new (latest ++ earlier) low)
        ∙ map-append version_of (by_place (latest ++ earlier)) (new ∷ [])

    pub put_below : AreBelow (place + 1) (put_latest place row s latest ++ put_replaced row latest earlier)
    put_below =
        all-permutation (λ x. x.place < place + 1) _ _ (IsPermutation-sym _ _ permutes)
        (all-append (λ x. x.place < place + 1) (latest ++ earlier) (new ∷ []) (higher place (latest ++ earlier) low) (omega arith, tt))

    module _ (none : HasNoCurrent row.table row.id latest) (is : IsRow row) (stamp : s ≤ MOST_STAMP) where
      own_key : (xs : List Placed) → HaveOwnKeys xs → HaveOwnKeys (map (renewed place row s) xs)
      own_key xs own = ascending-map _ (renewed place row s) xs (ascending_weaker _ _ still xs own)
        where
          key_kept : (x : Placed) → ((renewed place row s x).version.row.table ≡ x.version.row.table) × ((renewed place row s x).version.row.id ≡ x.version.row.id) × ((renewed place row s x).version.row.group ≡ x.version.row.group)
          key_kept x = elim (bool_cases (here x)) [
            | inl e ↦ let same = key_is row.table row.id row.group x e in rw e (sym same.0, sym same.1, sym same.2)
            | inr e ↦ rw e (refl, refl, refl)
          ]

          still : (x y : Placed) → has_key x.version.row.table x.version.row.id x.version.row.group y ≡ false
              → has_key (renewed place row s x).version.row.table (renewed place row s x).version.row.id (renewed place row s x).version.row.group (renewed place row s y) ≡ false
          still x y off = let a = key_kept x in let b = key_kept y in rw (a.0, a.1, a.2, b.0, b.1, b.2) off

      new_key : (x : Placed) → here x ≡ false → AllByRecursion (λ y. has_key x.version.row.table x.version.row.id x.version.row.group y ≡ false) (new ∷ [])
      new_key x off = (key_turned row.table row.id row.group x.version.row.table x.version.row.id x.version.row.group ∙ off, tt)

      keys_then : HaveOwnKeys (put_latest place row s latest)
      keys_then = go (length (filter here latest) == 0) refl
        where
          go : (b : Bool) → length (filter here latest) == 0 ≡ b → HaveOwnKeys (cond b (latest ++ new ∷ []) (map (renewed place row s) latest))
          go true e = ascending-append _ latest (new ∷ []) h.keys (tt, tt) (all_weaker _ _ new_key latest (none_of here latest (empty_of (filter here latest) e)))
          go false e = own_key latest h.keys

      new_one : (x : Placed) → (is_at row.table row.id x.version.row ≡ true → x.version.died ≢ None) → AllByRecursion (IsOneCurrent x) (new ∷ [])
      new_one x off = (λ at current. absurd (off (at_turned x.version.row.table x.version.row.id row.table row.id at) current), tt)

      one_then : IsAscending IsOneCurrent (put_latest place row s latest)
      one_then =
          let pushed = ascending-append IsOneCurrent latest (new ∷ []) h.current (tt, tt) (all_weaker _ _ new_one latest none) in
          (parts IsOneCurrent _ (filter here latest) ((pairs_permuted IsOneCurrent one_turned _ _ (IsPermutation-sym _ _ (swapped latest h.keys))).1 pushed)).0

      dead_there : (xs : List Placed) → HasNoCurrent row.table row.id xs → AllByRecursion (λ x. x.version.died ≢ None) (filter here xs)
      dead_there xs off = all_both (λ x. here x ≡ true) (λ x. is_at row.table row.id x.version.row ≡ true → x.version.died ≢ None) (λ x. x.version.died ≢ None) (λ x e alive. alive (both_true (is_at row.table row.id x.version.row) _ e).0) (filter here xs) (passing here xs) (all-filter _ here xs off)

      holdable : IsStorable new.version
      holdable = record { row = is; born = stamp; died = λ d e. absurd (let f = e in cc) }

      pub put_apart : AreWellPlaced (put_latest place row s latest) (put_replaced row latest earlier)
      put_apart = record {
        places = own_places_permuted _ _ (IsPermutation-sym _ _ permutes) own_then;
        keys = keys_then;
        current = one_then;
        ended = all-append (λ x. x.version.died ≢ None) earlier (filter here latest) h.ended (dead_there latest none);
        each = all-permutation (λ x. IsStorable x.version) _ _ (IsPermutation-sym _ _ permutes)
            (all-append (λ x. IsStorable x.version) (latest ++ earlier) (new ∷ []) h.each (holdable, tt));
      }

-- ---- one change

pub removed_written : (t i s place : ℕ) → s ≤ MOST_STAMP → (latest earlier : List Placed) → AreWellPlaced latest earlier → AreBelow place (latest ++ earlier)
    → AreWritten (removed t i s (versions_by_place (latest ++ earlier))) (place + 1) (map (closed_placed t i s) latest ++ earlier)
removed_written t i s place low latest earlier h below = record {
  versions_are = ended_versions t i s latest earlier h.ended;
  below = ended_below t i s (place + 1) latest earlier h.ended (higher place (latest ++ earlier) below);
}

pub put_written : (s place : ℕ) (row : RowValue) (latest earlier : List Placed) → AreWellPlaced latest earlier → AreBelow place (latest ++ earlier)
    → AreWritten (versions_by_place (latest ++ earlier) ++ record { row = row; born = s; died = None } ∷ []) (place + 1) (put_latest place row s latest ++ put_replaced row latest earlier)
put_written s place row latest earlier h low = record {
  versions_are = put_versions place s row latest earlier h low;
  below = put_below place s row latest earlier h low;
}
