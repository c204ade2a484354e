-- The bytes of the values of entries, as entries come and go.
use Rattle.std.proofs.Common.{◌≡◌, ℕ, ◌+◌, ◌-◌, ◌*◌, ◌<◌, ◌≤◌, Bool, true, false, cond, List, [], ◌∷◌, length, take, Option, Some, None, refl, sym, ap, subst, ◌∙◌, arith, suc, zero}
use Rattle.std.specs.Prelude.{slice_get}
use Rattle.std.specs.List.{AllByRecursion}
use Rattle.std.specs.Option.{option_map, option_map_or}
use Rattle.std.specs.Map.{lookup, lookup_entry, remove_entry, set_value}
use Rattle.std.proofs.lemmas.List.Sums.{sum_by-cons}
use Rattle.lru.specs.LruCache.{LruCache, promoted, put_entries, displaced}
use Rattle.txc_tags.specs.declared.tag.Tag.{Tag}
use Rattle.txc_tags.proofs.All.{all-take}
use Rattle.txc_stamp.specs.Interval.{closed_at}
use Rattle.txc_node.specs.declared.value.TheConstants.{MOST_VALUE_LEN}
use Rattle.txc_node.specs.declared.entry.Entry.{Entry}
use Rattle.txc_node.specs.declared.place.Place.{Place}
use Rattle.txc_node.specs.declared.stored.Stored.{Stored}
use Rattle.txc_node.specs.Places.{equal_places}
use Rattle.txc_node.specs.Cache.{bytes_of}
use Rattle.txc_node.specs.IndexedEntries.{after_at, entry_of, entries_of, is_stale, stored_after}
use Rattle.txc_node.specs.WeighedEntries.{value_len_in}
use Rattle.txc_node.proofs.Pairs.{removed_keeps}

-- the bytes of the value of what is stored, if anything is
abbrev pub stored_bytes : Option Stored → ℕ
stored_bytes None = 0
stored_bytes (Some s) = length s.value

abbrev weight : List (Place × Stored) → ℕ
weight ps = bytes_of (entries_of ps)

abbrev IsShort : Place × Stored → Type 0
IsShort p = length p.1.value ≤ MOST_VALUE_LEN

pub bytes_more : (e : Entry) (es : List Entry) → bytes_of (e ∷ es) ≡ length e.value + bytes_of es
bytes_more e es = sum_by-cons (λ (o : Entry). length o.value) e es

weight_more : (p : Place × Stored) (ps : List (Place × Stored)) → weight (p ∷ ps) ≡ length p.1.value + weight ps
weight_more p ps = bytes_more (entry_of p) (entries_of ps)

-- ---- what is taken out

pub removed_weight : (test : Place → Bool) (ps : List (Place × Stored)) → weight (remove_entry test ps) + stored_bytes (lookup test ps) ≡ weight ps
removed_weight test [] = refl
removed_weight test (x ∷ ps) =
    let rest = removed_weight test ps in
    let here = weight_more x ps in
    let there = weight_more x (remove_entry test ps) in
    let go : (b : Bool) → weight (cond b ps (x ∷ remove_entry test ps)) + stored_bytes (cond b (Some x.1) (lookup test ps)) ≡ weight (x ∷ ps) = λ b. elim b as (λ v. weight (cond v ps (x ∷ remove_entry test ps)) + stored_bytes (cond v (Some x.1) (lookup test ps)) ≡ weight (x ∷ ps)) [ true ↦ omega (arith, here) | false ↦ omega (arith, rest, here, there) ] in
    go (test x.0)

entry_weight : (test : Place → Bool) (ps : List (Place × Stored)) → weight (remove_entry test ps) + value_len_in (lookup_entry test ps) ≡ weight ps
entry_weight test [] = refl
entry_weight test (x ∷ ps) =
    let rest = entry_weight test ps in
    let here = weight_more x ps in
    let there = weight_more x (remove_entry test ps) in
    let go : (b : Bool) → weight (cond b ps (x ∷ remove_entry test ps)) + value_len_in (cond b (Some x) (lookup_entry test ps)) ≡ weight (x ∷ ps) = λ b. elim b as (λ v. weight (cond v ps (x ∷ remove_entry test ps)) + value_len_in (cond v (Some x) (lookup_entry test ps)) ≡ weight (x ∷ ps)) [ true ↦ omega (arith, here) | false ↦ omega (arith, rest, here, there) ] in
    go (test x.0)

-- one more than are left, or none
pub taken_weight : (n : ℕ) (ps : List (Place × Stored)) → length ps ≤ n + 1 → weight (take n ps) + value_len_in (slice_get ps n) ≡ weight ps
taken_weight zero [] h = refl
taken_weight (suc n) [] h = refl
taken_weight zero (x ∷ []) h = let one = weight_more x [] in omega (arith, one)
taken_weight zero (x ∷ y ∷ ps) h = absurd (omega arith)
taken_weight (suc n) (x ∷ ps) h =
    let rest = taken_weight n ps (omega arith) in
    let here = weight_more x ps in
    let there = weight_more x (take n ps) in
    omega (arith, rest, here, there)

-- ---- what moves, and what is closed

pub promoted_weight : (test : Place → Bool) (ps : List (Place × Stored)) → weight (promoted test ps) ≡ weight ps
promoted_weight test ps =
    let all = entry_weight test ps in
    (elim (lookup_entry test ps) as (λ o. weight (remove_entry test ps) + value_len_in o ≡ weight ps → weight (option_map_or (λ (e : Place × Stored). e ∷ remove_entry test ps) o ps) ≡ weight ps) [
      | None ↦ λ h. refl
      | Some e ↦ λ h. let here = weight_more e (remove_entry test ps) in omega (arith, h, here)
    ]) all

found_short : (test : Place → Bool) (ps : List (Place × Stored)) (e : Place × Stored) → lookup_entry test ps ≡ Some e → AllByRecursion IsShort ps → IsShort e
found_short test [] e is h = let none : None ≡ Some e = is in cc
found_short test (x ∷ ps) e is h = (elim (test x.0) as (λ v. cond v (Some x) (lookup_entry test ps) ≡ Some e → IsShort e) [
  | true ↦ λ t. let some : Some x ≡ Some e = t in let same : x ≡ e = cc in subst IsShort same h.0
  | false ↦ λ t. found_short test ps e t h.1
]) is

pub promoted_short : (test : Place → Bool) (ps : List (Place × Stored)) → AllByRecursion IsShort ps → AllByRecursion IsShort (promoted test ps)
promoted_short test ps h =
    (elim (lookup_entry test ps) as (λ o. lookup_entry test ps ≡ o → AllByRecursion IsShort (option_map_or (λ (e : Place × Stored). e ∷ remove_entry test ps) o ps)) [
      | None ↦ λ is. h
      | Some e ↦ λ is. (found_short test ps e is h, removed_keeps IsShort test ps h)
    ]) refl

same_value : (stamp : ℕ) (tags : List Tag) (s : Stored) → (stored_after stamp tags s).value ≡ s.value
same_value stamp tags s = elim (is_stale stamp tags s) as (λ b. (cond b (record s { reach = closed_at (stamp - 1) s.reach }) s).value ≡ s.value) [ true ↦ refl | false ↦ refl ]

set_weight : (test : Place → Bool) (ps : List (Place × Stored)) (s w : Stored) → lookup test ps ≡ Some s → w.value ≡ s.value → weight (set_value test ps w) ≡ weight ps
set_weight test [] s w is same = refl
set_weight test (x ∷ ps) s w is same =
    (elim (test x.0) as (λ v. cond v (Some x.1) (lookup test ps) ≡ Some s → weight (cond v ((x.0, w) ∷ ps) (x ∷ set_value test ps w)) ≡ weight (x ∷ ps)) [
      | true ↦ λ t.
          let some : Some x.1 ≡ Some s = t in
          let its : x.1 ≡ s = cc in
          let len : length w.value ≡ length x.1.value = ap (λ (v : List ℕ). length v) (same ∙ ap (λ (u : Stored). u.value) (sym its)) in
          let here = weight_more x ps in
          let there = weight_more (x.0, w) ps in
          omega (arith, len, here, there)
      | false ↦ λ t.
          let rest = set_weight test ps s w t same in
          let here = weight_more x ps in
          let there = weight_more x (set_value test ps w) in
          omega (arith, rest, here, there)
    ]) is

set_short : (test : Place → Bool) (ps : List (Place × Stored)) (s w : Stored) → lookup test ps ≡ Some s → w.value ≡ s.value → AllByRecursion IsShort ps → AllByRecursion IsShort (set_value test ps w)
set_short test [] s w is same h = tt
set_short test (x ∷ ps) s w is same h =
    (elim (test x.0) as (λ v. cond v (Some x.1) (lookup test ps) ≡ Some s → AllByRecursion IsShort (cond v ((x.0, w) ∷ ps) (x ∷ set_value test ps w))) [
      | true ↦ λ t.
          let some : Some x.1 ≡ Some s = t in
          let its : x.1 ≡ s = cc in
          let len : length w.value ≡ length x.1.value = ap (λ (v : List ℕ). length v) (same ∙ ap (λ (u : Stored). u.value) (sym its)) in
          let short = h.0 in
          (omega (arith, len, short), h.1)
      | false ↦ λ t. (h.0, set_short test ps s w t same h.1)
    ]) is

module _ (stamp : ℕ) (tags : List Tag) (q : Place) (ps : List (Place × Stored)) where
  pub closed_weight : weight (after_at stamp tags q ps) ≡ weight ps
  closed_weight =
      (elim (lookup (equal_places q) ps) as (λ o. lookup (equal_places q) ps ≡ o → weight (option_map_or (λ (s : Stored). set_value (equal_places q) ps (stored_after stamp tags s)) o ps) ≡ weight ps) [
        | None ↦ λ is. refl
        | Some s ↦ λ is. set_weight (equal_places q) ps s (stored_after stamp tags s) is (same_value stamp tags s)
      ]) refl

  pub closed_short : AllByRecursion IsShort ps → AllByRecursion IsShort (after_at stamp tags q ps)
  closed_short h =
      (elim (lookup (equal_places q) ps) as (λ o. lookup (equal_places q) ps ≡ o → AllByRecursion IsShort (option_map_or (λ (s : Stored). set_value (equal_places q) ps (stored_after stamp tags s)) o ps)) [
        | None ↦ λ is. h
        | Some s ↦ λ is. set_short (equal_places q) ps s (stored_after stamp tags s) is (same_value stamp tags s) h
      ]) refl

-- ---- what is put in

found_value : (test : Place → Bool) (ps : List (Place × Stored)) → lookup test ps ≡ option_map (λ (p : Place × Stored). p.1) (lookup_entry test ps)
found_value test [] = refl
found_value test (x ∷ ps) =
    let rest = found_value test ps in
    let go : (b : Bool) → cond b (Some x.1) (lookup test ps) ≡ option_map (λ (p : Place × Stored). p.1) (cond b (Some x) (lookup_entry test ps)) = λ b. elim b as (λ v. cond v (Some x.1) (lookup test ps) ≡ option_map (λ (p : Place × Stored). p.1) (cond v (Some x) (lookup_entry test ps))) [ true ↦ refl | false ↦ rest ] in
    go (test x.0)

pub put_weight : (c : LruCache Place Stored) (q : Place) (s : Stored) → length c.entries ≤ c.cap → 0 < c.cap
    → weight (put_entries equal_places c q s) + value_len_in (displaced equal_places c q s) ≡ weight c.entries + length s.value
put_weight c q s within some =
    let ps = c.entries in
    let test = equal_places q in
    let all = entry_weight test ps in
    let full = taken_weight (c.cap - 1) ps (omega arith) in
    let value = ap (λ (o : Option Stored). value_len_in (option_map_or (λ (old : Stored). Some (q, old)) o (slice_get ps (c.cap - 1)))) (found_value test ps) in
    let put : weight (put_entries equal_places c q s) + value_len_in (option_map_or (λ (old : Stored). Some (q, old)) (option_map (λ (p : Place × Stored). p.1) (lookup_entry test ps)) (slice_get ps (c.cap - 1))) ≡ weight ps + length s.value =
    (elim (lookup_entry test ps) as (λ o. weight (remove_entry test ps) + value_len_in o ≡ weight ps
    → weight (option_map_or (λ (e : Place × Stored). (e.0, s) ∷ remove_entry test ps) o ((q, s) ∷ take (c.cap - 1) ps))
    + value_len_in (option_map_or (λ (old : Stored). Some (q, old)) (option_map (λ (p : Place × Stored). p.1) o) (slice_get ps (c.cap - 1))) ≡ weight ps + length s.value) [
      | None ↦ λ h. let here = weight_more (q, s) (take (c.cap - 1) ps) in omega (arith, full, here)
      | Some e ↦ λ h. let here = weight_more (e.0, s) (remove_entry test ps) in omega (arith, h, here)
    ]) all in
    omega (arith, value, put)

pub taken_short : (n : ℕ) (ps : List (Place × Stored)) → AllByRecursion IsShort ps → AllByRecursion IsShort (take n ps)
taken_short n ps h = all-take IsShort n ps h

pub removed_short : (test : Place → Bool) (ps : List (Place × Stored)) → AllByRecursion IsShort ps → AllByRecursion IsShort (remove_entry test ps)
removed_short test ps h = removed_keeps IsShort test ps h

pub put_short : (c : LruCache Place Stored) (q : Place) (s : Stored) → length s.value ≤ MOST_VALUE_LEN → AllByRecursion IsShort c.entries → AllByRecursion IsShort (put_entries equal_places c q s)
put_short c q s short h =
    let ps = c.entries in
    let test = equal_places q in
    elim (lookup_entry test ps) as (λ o. AllByRecursion IsShort (option_map_or (λ (e : Place × Stored). (e.0, s) ∷ remove_entry test ps) o ((q, s) ∷ take (c.cap - 1) ps))) [
      | None ↦ (short, taken_short (c.cap - 1) ps h)
      | Some e ↦ (short, removed_keeps IsShort test ps h)
    ]

-- ---- how many there can be

pub weight_fits : (ps : List (Place × Stored)) → AllByRecursion IsShort ps → weight ps ≤ length ps * MOST_VALUE_LEN
weight_fits [] h = omega arith
weight_fits (x ∷ ps) h =
    let rest = weight_fits ps h.1 in
    let here = weight_more x ps in
    let short = h.0 in
    omega (arith, rest, here, short)
