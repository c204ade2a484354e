-- The entries of a cache at their places.
use Rattle.std.proofs.Common.{◌≡◌, ℕ, Bool, true, false, not, cond, List, [], ◌∷◌, take, Option, Some, None, refl, sym, ap, subst, ◌∙◌, suc, zero}
use Rattle.std.specs.Prelude.{slice_get}
use Rattle.std.specs.List.{AllByRecursion, find}
use Rattle.std.specs.Option.{option_map, option_map_or}
use Rattle.std.specs.Map.{lookup, lookup_entry, remove_entry}
use Rattle.lru.specs.LruCache.{promoted}
use Rattle.txc_node.specs.declared.entry.Entry.{Entry}
use Rattle.txc_node.specs.declared.place.Place.{Place}
use Rattle.txc_node.specs.declared.stored.Stored.{Stored}
use Rattle.txc_node.specs.Places.{place_of, equal_places, equal_places_is}
use Rattle.txc_node.specs.Entries.{same_place, others, AreApart}
use Rattle.txc_node.specs.IndexedEntries.{entry_of, stored_of, entries_of, entry_at, ArePlaced}
use Rattle.txc_node.proofs.Apart.{same_place_sym}

-- ---- what is found at a place

-- the entry at a place is that of the pair there
pub found_pair : (q : Place) (ps : List (Place × Stored)) → ArePlaced ps → entry_at (entries_of ps) q ≡ option_map entry_of (lookup_entry (equal_places q) ps)
found_pair q [] placed = refl
found_pair q (x ∷ ps) placed =
    let e = entry_of x in
    let rest = option_map entry_of (lookup_entry (equal_places q) ps) in
    ap (λ (o : Option Entry). cond (equal_places q (place_of e)) (Some e) o) (found_pair q ps placed.1)
    ∙ elim (equal_places q (place_of e)) as (λ b. cond b (Some e) rest ≡ option_map entry_of (cond b (Some x) (lookup_entry (equal_places q) ps))) [ true ↦ refl | false ↦ refl ]
    ∙ ap (λ (r : Place). option_map entry_of (cond (equal_places q r) (Some x) (lookup_entry (equal_places q) ps))) (sym placed.0)

pub pair_of : (ps : List (Place × Stored)) (q : Place) (e : Entry) → ArePlaced ps → entry_at (entries_of ps) q ≡ Some e → (x : Place × Stored) × (lookup_entry (equal_places q) ps ≡ Some x) × (entry_of x ≡ e)
pair_of ps q e placed h = (elim (lookup_entry (equal_places q) ps) as (λ f. option_map entry_of f ≡ Some e → (x : Place × Stored) × (f ≡ Some x) × (entry_of x ≡ e)) [
  | None ↦ λ h. let none : None ≡ Some e = h in cc
  | Some x ↦ λ h. let is : Some (entry_of x) ≡ Some e = h in let same : entry_of x ≡ e = cc in (x, refl, same)
]) (sym (found_pair q ps placed) ∙ h)

-- what is stored at a place, by the entry that stands there
pub stored_at : (q : Place) (ps : List (Place × Stored)) → ArePlaced ps → lookup (equal_places q) ps ≡ option_map stored_of (find (λ e. equal_places q (place_of e)) (entries_of ps))
stored_at q [] placed = refl
stored_at q (x ∷ ps) placed =
    let e = entry_of x in
    let rest = find (λ o. equal_places q (place_of o)) (entries_of ps) in
    ap (λ (r : Place). cond (equal_places q r) (Some x.1) (lookup (equal_places q) ps)) placed.0
    ∙ elim (equal_places q (place_of e)) as (λ b. cond b (Some x.1) (lookup (equal_places q) ps) ≡ option_map stored_of (cond b (Some e) rest)) [ true ↦ refl | false ↦ stored_at q ps placed.1 ]

-- ---- promotion

-- no other stands there
elsewhere : (b x : Entry) (xs : List Entry) → place_of b ≡ place_of x → AllByRecursion (λ o. same_place o x ≡ false) xs → others b xs ≡ xs
elsewhere b x [] e h = refl
elsewhere b x (o ∷ xs) e h =
    let other : same_place o b ≡ false = ap (equal_places (place_of o)) e ∙ h.0 in
    ap (λ v. cond (not v) (o ∷ others b xs) (others b xs)) other ∙ ap (λ ys. o ∷ ys) (elsewhere b x xs e h.1)

-- without the pair of a place are the others
pub without_is_others : (ps : List (Place × Stored)) (b : Entry) → ArePlaced ps → AreApart (entries_of ps) → entries_of (remove_entry (equal_places (place_of b)) ps) ≡ others b (entries_of ps)
without_is_others [] b placed apart = refl
without_is_others (x ∷ ps) b placed apart =
    let e = entry_of x in
    let there : equal_places (place_of b) x.0 ≡ same_place e b = ap (equal_places (place_of b)) placed.0 ∙ same_place_sym b e in
    (elim (same_place e b) as (λ v. same_place e b ≡ v → entries_of (remove_entry (equal_places (place_of b)) (x ∷ ps)) ≡ others b (entries_of (x ∷ ps))) [
      | true ↦ λ t. ap (λ v. entries_of (cond v ps (x ∷ remove_entry (equal_places (place_of b)) ps))) (there ∙ t) ∙ sym (elsewhere b e (entries_of ps) (sym (equal_places_is (place_of e) (place_of b) t)) apart.0) ∙ sym (ap (λ v. cond (not v) (e ∷ others b (entries_of ps)) (others b (entries_of ps))) t)
      | false ↦ λ t. ap (λ v. entries_of (cond v ps (x ∷ remove_entry (equal_places (place_of b)) ps))) (there ∙ t) ∙ ap (λ ys. e ∷ ys) (without_is_others ps b placed.1 apart.1) ∙ sym (ap (λ v. cond (not v) (e ∷ others b (entries_of ps)) (others b (entries_of ps))) t)
    ]) refl

-- the pair that is found at a place
pub pair_at : (ps : List (Place × Stored)) (q : Place) (x : Place × Stored) → ArePlaced ps → lookup_entry (equal_places q) ps ≡ Some x → (x.0 ≡ q) × (q ≡ place_of (entry_of x))
pair_at [] q x placed h = cc
pair_at (y ∷ ps) q x placed h = (elim (equal_places q y.0) as (λ v. equal_places q y.0 ≡ v → (x.0 ≡ q) × (q ≡ place_of (entry_of x))) [
  | true ↦ λ t.
      let h' : Some y ≡ Some x = sym (ap (λ v. cond v (Some y) (lookup_entry (equal_places q) ps)) t) ∙ h in
      let same : y ≡ x = cc in
      let key : q ≡ y.0 = equal_places_is q y.0 t in
      (sym (ap (λ p. p.0) same) ∙ sym key, key ∙ placed.0 ∙ ap (λ p. place_of (entry_of p)) same)
  | false ↦ λ t. pair_at ps q x placed.1 (sym (ap (λ v. cond v (Some y) (lookup_entry (equal_places q) ps)) t) ∙ h)
]) refl

-- the entries after the promotion of the place of one
pub promoted_is : (ps : List (Place × Stored)) (x : Place × Stored) → ArePlaced ps → AreApart (entries_of ps) → lookup_entry (equal_places (place_of (entry_of x))) ps ≡ Some x
    → entries_of (promoted (equal_places (place_of (entry_of x))) ps) ≡ entry_of x ∷ others (entry_of x) (entries_of ps)
promoted_is ps x placed apart h =
    let q = place_of (entry_of x) in
    ap (λ (f : Option (Place × Stored)). entries_of (option_map_or (λ e. e ∷ remove_entry (equal_places q) ps) f ps)) h ∙ ap (λ ys. entry_of x ∷ ys) (without_is_others ps (entry_of x) placed apart)

-- ---- what a change of the order keeps

pub removed_keeps : (P : Place × Stored → Type 0) (test : Place → Bool) (ps : List (Place × Stored)) → AllByRecursion P ps → AllByRecursion P (remove_entry test ps)
removed_keeps P test [] h = tt
removed_keeps P test (x ∷ ps) h =
    let go : (v : Bool) → AllByRecursion P (cond v ps (x ∷ remove_entry test ps)) = λ v. elim v as (λ w. AllByRecursion P (cond w ps (x ∷ remove_entry test ps))) [ true ↦ h.1 | false ↦ (h.0, removed_keeps P test ps h.1) ] in
    go (test x.0)

pub looked_up : (P : Place × Stored → Type 0) (test : Place → Bool) (ps : List (Place × Stored)) (e : Place × Stored) → AllByRecursion P ps → lookup_entry test ps ≡ Some e → P e
looked_up P test [] e h k = cc
looked_up P test (x ∷ ps) e h k = (elim (test x.0) as (λ v. test x.0 ≡ v → P e) [
  | true ↦ λ t. let k' : Some x ≡ Some e = sym (ap (λ v. cond v (Some x) (lookup_entry test ps)) t) ∙ k in let same : x ≡ e = cc in subst P same h.0
  | false ↦ λ t. looked_up P test ps e h.1 (sym (ap (λ v. cond v (Some x) (lookup_entry test ps)) t) ∙ k)
]) refl

pub promoted_keeps : (P : Place × Stored → Type 0) (test : Place → Bool) (ps : List (Place × Stored)) → AllByRecursion P ps → AllByRecursion P (promoted test ps)
promoted_keeps P test ps h = (elim (lookup_entry test ps) as (λ f. lookup_entry test ps ≡ f → AllByRecursion P (option_map_or (λ e. e ∷ remove_entry test ps) f ps)) [
  | None ↦ λ t. h
  | Some e ↦ λ t. (looked_up P test ps e h t, removed_keeps P test ps h)
]) refl

-- ---- what is put

pub entries_take : (n : ℕ) (ps : List (Place × Stored)) → entries_of (take n ps) ≡ take n (entries_of ps)
entries_take zero ps = refl
entries_take (suc n) [] = refl
entries_take (suc n) (x ∷ ps) = ap (λ ys. entry_of x ∷ ys) (entries_take n ps)

-- the entry of the pair at an index
pub get_entry : (ps : List (Place × Stored)) (n : ℕ) → slice_get (entries_of ps) n ≡ option_map entry_of (slice_get ps n)
get_entry [] n = refl
get_entry (x ∷ ps) zero = refl
get_entry (x ∷ ps) (suc n) = get_entry ps n
