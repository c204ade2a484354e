-- A new entry that goes first.
use Rattle.std.proofs.Common.{◌≡◌, ℕ, ◌-◌, ◌<◌, ◌≤◌, Bool, true, false, not, cond, List, [], ◌∷◌, ◌++◌, length, take, Option, Some, None, refl, sym, ap, subst, ◌∙◌, arith, suc, zero}
use Rattle.std.specs.Prelude.{slice_get, remove}
use Rattle.std.specs.List.{AllByRecursion, find}
use Rattle.std.specs.Option.{option_map, option_map_or}
use Rattle.std.specs.Map.{lookup, lookup_entry, remove_entry}
use Rattle.std.proofs.lemmas.List.{length-map}
use Rattle.std.proofs.lemmas.Option.{slice_get_within}
use Rattle.lru.specs.LruCache.{LruCache, put_entries, displaced}
use Rattle.txc_stamp.specs.Interval.{Interval}
use Rattle.txc_tags.specs.Keys.{Call, same_call}
use Rattle.txc_node.specs.declared.entry.Entry.{Entry}
use Rattle.txc_node.specs.declared.place.Place.{Place}
use Rattle.txc_node.specs.declared.stored.Stored.{Stored}
use Rattle.txc_node.specs.declared.versions.Found.{Found}
use Rattle.txc_node.specs.Places.{place_of, place_at, equal_places}
use Rattle.txc_node.specs.Entries.{same_place, others, AreApart}
use Rattle.txc_node.specs.Cache.{Cache, ends_no_earlier, is_kept, replayed_reach}
use Rattle.txc_node.specs.IndexedEntries.{entry_at, entry_of, entries_of, ArePlaced, AreTied, entries_under, reaches_under, listed, IndexesKeys, Relists, StandsUnder, with_first, IsFound}
use Rattle.txc_node.proofs.Apart.{same_place_sym, first_apart}
use Rattle.txc_node.proofs.Inserts.{others_like, others_none, filter_same, place_moved}
use Rattle.txc_node.proofs.Swept.{find_same}
use Rattle.txc_node.proofs.Pairs.{entries_take, found_pair, pair_at, without_is_others, removed_keeps, get_entry}
use Rattle.txc_node.proofs.KeyLists.{indexes_by, put_first, brought_first, relisted_there}
use Rattle.txc_node.proofs.Fronts.{key_at}
use Rattle.txc_node.proofs.Lasts.{split_at, dropped_tied}

-- ---- what is found at a place

none_there : (p : Entry → Bool) (es : List Entry) → find p es ≡ None → AllByRecursion (λ o. p o ≡ false) es
none_there p [] h = tt
none_there p (x ∷ es) h = (elim (p x) as (λ b. p x ≡ b → cond b (Some x) (find p es) ≡ None → AllByRecursion (λ o. p o ≡ false) (x ∷ es)) [
  | true ↦ λ t h. let some : Some x ≡ None = h in cc
  | false ↦ λ t h. (t, none_there p es h)
]) refl h

-- where no entry stands, no pair does
no_pair : (ps : List (Place × Stored)) (q : Place) (e : Entry) → q ≡ place_of e → ArePlaced ps → AllByRecursion (λ o. same_place o e ≡ false) (entries_of ps)
    → (lookup_entry (equal_places q) ps ≡ None) × (lookup (equal_places q) ps ≡ None)
no_pair [] q e at placed h = (refl, refl)
no_pair (x ∷ ps) q e at placed h =
    let other : equal_places q x.0 ≡ false = ap (λ p. equal_places p x.0) at ∙ ap (equal_places (place_of e)) placed.0 ∙ same_place_sym e (entry_of x) ∙ h.0 in
    let rest = no_pair ps q e at placed.1 h.1 in
    (ap (λ b. cond b (Some x) (lookup_entry (equal_places q) ps)) other ∙ rest.0, ap (λ b. cond b (Some x.1) (lookup (equal_places q) ps)) other ∙ rest.1)

-- where an entry stands, its pair does
pair_there : (ps : List (Place × Stored)) (q : Place) (e o : Entry) → q ≡ place_of e → ArePlaced ps → find (λ y. same_place y e) (entries_of ps) ≡ Some o
    → (x : Place × Stored) × (lookup_entry (equal_places q) ps ≡ Some x) × (lookup (equal_places q) ps ≡ Some x.1) × (same_place o e ≡ true)
pair_there [] q e o at placed h = let none : None ≡ Some o = h in cc
pair_there (y ∷ ps) q e o at placed h =
    let there : equal_places q y.0 ≡ same_place (entry_of y) e = ap (λ p. equal_places p y.0) at ∙ ap (equal_places (place_of e)) placed.0 ∙ same_place_sym e (entry_of y) in
    (elim (same_place (entry_of y) e) as (λ b. same_place (entry_of y) e ≡ b → cond b (Some (entry_of y)) (find (λ z. same_place z e) (entries_of ps)) ≡ Some o
    → (x : Place × Stored) × (lookup_entry (equal_places q) (y ∷ ps) ≡ Some x) × (lookup (equal_places q) (y ∷ ps) ≡ Some x.1) × (same_place o e ≡ true)) [
      | true ↦ λ t h.
          let is : Some (entry_of y) ≡ Some o = h in
          let same : entry_of y ≡ o = cc in
          (y, ap (λ b. cond b (Some y) (lookup_entry (equal_places q) ps)) (there ∙ t), ap (λ b. cond b (Some y.1) (lookup (equal_places q) ps)) (there ∙ t), ap (λ z. same_place z e) (sym same) ∙ t)
      | false ↦ λ t h.
          let r = pair_there ps q e o at placed.1 h in
          (r.0, ap (λ b. cond b (Some y) (lookup_entry (equal_places q) ps)) (there ∙ t) ∙ r.1, ap (λ b. cond b (Some y.1) (lookup (equal_places q) ps)) (there ∙ t) ∙ r.2, r.3)
    ]) refl h

-- ---- the index of the keys

pub same_keys : (key : Call) (index new : List (Call × List Interval)) (es : List Entry) → IndexesKeys index es → Relists key (listed index key) index new → IndexesKeys new es
same_keys key index new es indexed relists = indexes_by key index new es es indexed (subst (λ (rs : List Interval). Relists key rs index new) (indexed key) relists) (λ k other. refl)

-- what was listed first for a key, and then is not
pub relists_over : (key : Call) (rs ss : List Interval) (a b c : List (Call × List Interval)) → Relists key ss a b → Relists key rs b c → Relists key rs a c
relists_over key rs ss a b c h k n = (elim (same_call key n) as (λ v. same_call key n ≡ v → listed c n ≡ cond v rs (listed a n)) [
  | true ↦ λ t. k n ∙ ap (λ v. cond v rs (listed b n)) t
  | false ↦ λ t. relisted_there key n rs b c k t ∙ relisted_there key n ss a b h t
]) refl

-- ---- a new entry at a place where none stands

pub put_tied : (ps : List (Place × Stored)) (q : Place) (s : Stored) (index new : List (Call × List Interval)) → q ≡ place_of (entry_of (q, s)) → find (λ o. same_place o (entry_of (q, s))) (entries_of ps) ≡ None
    → AreTied ps index → Relists q.key (s.reach ∷ listed index q.key) index new → AreTied ((q, s) ∷ ps) new
put_tied ps q s index new at absent h relists =
    let e = entry_of (q, s) in
    let es = entries_of ps in
    record {
      placed = (at, h.placed);
      apart = (none_there (λ o. same_place o e) es absent, h.apart);
      keys = put_first index new es e h.keys relists;
    }

pub absent_put : (c : LruCache Place Stored) (q : Place) (s : Stored) → q ≡ place_of (entry_of (q, s)) → find (λ o. same_place o (entry_of (q, s))) (entries_of c.entries) ≡ None → ArePlaced c.entries
    → (put_entries equal_places c q s ≡ (q, s) ∷ take (c.cap - 1) c.entries) × (displaced equal_places c q s ≡ slice_get c.entries (c.cap - 1))
absent_put c q s at absent placed =
    let none = no_pair c.entries q (entry_of (q, s)) at placed (none_there (λ o. same_place o (entry_of (q, s))) (entries_of c.entries) absent) in (
      ap (λ f. option_map_or (λ p. (p.0, s) ∷ remove_entry (equal_places q) c.entries) f ((q, s) ∷ take (c.cap - 1) c.entries)) none.0,
      ap (λ f. option_map_or (λ old. Some (q, old)) f (slice_get c.entries (c.cap - 1))) none.1,
    )

pub absent_others : (e : Entry) (es : List Entry) → find (λ o. same_place o e) es ≡ None → others e es ≡ es
absent_others e es absent = others_none e es (none_there (λ o. same_place o e) es absent)

take_first : (n : ℕ) (e : Entry) (xs : List Entry) → 0 < n → e ∷ take (n - 1) xs ≡ take n (e ∷ xs)
take_first zero e xs h = absurd (omega arith)
take_first (suc n) e xs h = ap (λ m. e ∷ take m xs) (omega arith)

-- what the cache holds then
pub absent_entries : (c : LruCache Place Stored) (q : Place) (s : Stored) → q ≡ place_of (entry_of (q, s)) → find (λ o. same_place o (entry_of (q, s))) (entries_of c.entries) ≡ None → ArePlaced c.entries → 0 < c.cap
    → entries_of (put_entries equal_places c q s) ≡ take c.cap (with_first (entry_of (q, s)) (entries_of c.entries))
absent_entries c q s at absent placed some =
    let e = entry_of (q, s) in
    ap (λ (qs : List (Place × Stored)). entries_of qs) (absent_put c q s at absent placed).0 ∙ ap (λ es. e ∷ es) (entries_take (c.cap - 1) c.entries)
    ∙ take_first c.cap e (entries_of c.entries) some ∙ ap (λ es. take c.cap (e ∷ es)) (sym (absent_others e (entries_of c.entries) absent))

pub take_past : {X : Type 0} (n : ℕ) (xs : List X) → slice_get xs n ≡ None → take n xs ≡ xs
take_past zero [] h = refl
take_past (suc n) [] h = refl
take_past zero (x ∷ xs) h = let some : Some x ≡ None = h in cc
take_past (suc n) (x ∷ xs) h = ap (λ ys. x ∷ ys) (take_past n xs h)

-- the pair that was pushed out is the entry for which there is no room
pub evicted_is : (n : ℕ) (ps : List (Place × Stored)) (e : Entry) (o : Option (Place × Stored)) → 0 < n → find (λ x. same_place x e) (entries_of ps) ≡ None → o ≡ slice_get ps (n - 1)
    → option_map entry_of o ≡ slice_get (with_first e (entries_of ps)) n
evicted_is zero ps e o some absent is = absurd (omega arith)
evicted_is (suc n) ps e o some absent is =
    ap (option_map entry_of) (is ∙ ap (λ k. slice_get ps k) (omega arith)) ∙ sym (get_entry ps n) ∙ ap (λ (xs : List Entry). slice_get xs n) (sym (absent_others e (entries_of ps) absent))

pub within_pairs : (ps : List (Place × Stored)) (n : ℕ) → length ps ≤ n → length (entries_of ps) ≤ n
within_pairs ps n h = omega (arith, h, length-map ps entry_of)

-- the last pair makes room
pub pushed_out : (n : ℕ) (ps : List (Place × Stored)) (p x : Place × Stored) (index new : List (Call × List Interval))
    → 0 < n → length (entries_of ps) ≤ n → slice_get ps (n - 1) ≡ Some x → AreTied (p ∷ ps) index
    → Relists x.0.key (take (length (listed index x.0.key) - 1) (listed index x.0.key)) index new → AreTied (p ∷ take (n - 1) ps) new
pushed_out n ps p x index new some within is h relists =
    let far : n - 1 < length ps = slice_get_within ps (n - 1) x is in
    let all : length ps ≡ suc (n - 1) = omega (arith, far, within, length-map ps entry_of) in
    let split : p ∷ ps ≡ (p ∷ take (n - 1) ps) ++ x ∷ [] = ap (λ ys. p ∷ ys) (split_at (n - 1) ps x all is) in
    dropped_tied (p ∷ take (n - 1) ps) x index new (subst (λ (qs : List (Place × Stored)). AreTied qs index) split h) relists

-- ---- a new entry in the stead of the one at its place

pub there_put : (c : LruCache Place Stored) (q : Place) (s : Stored) (at : ℕ) → q ≡ place_of (entry_of (q, s)) → StandsUnder (entry_of (q, s)) (entries_of c.entries) at → ArePlaced c.entries
    → (old : Stored) × (put_entries equal_places c q s ≡ (q, s) ∷ remove_entry (equal_places q) c.entries) × (displaced equal_places c q s ≡ Some (q, old)) × (lookup (equal_places q) c.entries ≡ Some old)
there_put c q s at is there placed =
    let x = pair_there c.entries q (entry_of (q, s)) there.0 is placed there.1 in
    let here : x.0.0 ≡ q = (pair_at c.entries q x.0 placed x.1).0 in (
      x.0.1,
      ap (λ f. option_map_or (λ p. (p.0, s) ∷ remove_entry (equal_places q) c.entries) f ((q, s) ∷ take (c.cap - 1) c.entries)) x.1 ∙ ap (λ k. (k, s) ∷ remove_entry (equal_places q) c.entries) here,
      ap (λ f. option_map_or (λ old. Some (q, old)) f (slice_get c.entries (c.cap - 1))) x.2,
      x.2,
    )

-- what stood there before
pub there_before : (c : LruCache Place Stored) (q : Place) (s : Stored) (at : ℕ) → q ≡ place_of (entry_of (q, s)) → StandsUnder (entry_of (q, s)) (entries_of c.entries) at → ArePlaced c.entries → option_map entry_of (displaced equal_places c q s) ≡ entry_at (entries_of c.entries) q
there_before c q s at is there placed =
    let x = pair_there c.entries q (entry_of (q, s)) there.0 is placed there.1 in
    let here : x.0.0 ≡ q = (pair_at c.entries q x.0 placed x.1).0 in
    ap (λ f. option_map entry_of (option_map_or (λ old. Some (q, old)) f (slice_get c.entries (c.cap - 1)))) x.2 ∙ ap (λ (k : Place). Some (entry_of (k, x.0.1))) (sym here) ∙ sym (found_pair q c.entries placed ∙ ap (option_map entry_of) x.1)

replaced_others : (ps : List (Place × Stored)) (q : Place) (s : Stored) {index : List (Call × List Interval)} → q ≡ place_of (entry_of (q, s)) → AreTied ps index → entries_of (remove_entry (equal_places q) ps) ≡ others (entry_of (q, s)) (entries_of ps)
replaced_others ps q s is h = ap (λ k. entries_of (remove_entry (equal_places k) ps)) is ∙ without_is_others ps (entry_of (q, s)) h.placed h.apart

-- the entries after it
pub replaced_entries : (c : LruCache Place Stored) (q : Place) (s : Stored) (at : ℕ) {index : List (Call × List Interval)} → q ≡ place_of (entry_of (q, s)) → StandsUnder (entry_of (q, s)) (entries_of c.entries) at → AreTied c.entries index
    → entries_of (put_entries equal_places c q s) ≡ with_first (entry_of (q, s)) (entries_of c.entries)
replaced_entries c q s at is there h = ap (λ (xs : List (Place × Stored)). entries_of xs) (there_put c q s at is there h.placed).1 ∙ ap (λ (xs : List Entry). entry_of (q, s) ∷ xs) (replaced_others c.entries q s is h)

-- where it stands in the index of the keys
pub within_listed : (ps : List (Place × Stored)) (index : List (Call × List Interval)) (e : Entry) (at : ℕ) → IndexesKeys index (entries_of ps) → StandsUnder e (entries_of ps) at → at < length (listed index e.key)
within_listed ps index e at indexed there =
    let under : at < length (entries_under e.key (entries_of ps)) = slice_get_within (entries_under e.key (entries_of ps)) at there.0 there.2 in
    let all : length (listed index e.key) ≡ length (reaches_under e.key (entries_of ps)) = ap (λ (rs : List Interval). length rs) (indexed e.key) in
    omega (arith, under, all, length-map (entries_under e.key (entries_of ps)) (λ (o : Entry). o.reach))

pub replaced_tied : (ps : List (Place × Stored)) (q : Place) (s : Stored) (at : ℕ) (index new : List (Call × List Interval)) → q ≡ place_of (entry_of (q, s)) → StandsUnder (entry_of (q, s)) (entries_of ps) at
    → AreTied ps index → Relists q.key (s.reach ∷ remove (listed index q.key) at) index new → AreTied ((q, s) ∷ remove_entry (equal_places q) ps) new
replaced_tied ps q s at index new is there h relists =
    let e = entry_of (q, s) in
    let es = entries_of ps in
    let o = there.0 in
    let x = pair_there ps q e o is h.placed there.1 in
    let key : o.key ≡ q.key = key_at q.key es at o there.2 in
    let rest = replaced_others ps q s is h in
    let stands : slice_get (entries_under o.key es) at ≡ Some o = subst (λ (k : Call). slice_get (entries_under k es) at ≡ Some o) (sym key) there.2 in
    let relisted : Relists o.key (s.reach ∷ remove (listed index o.key) at) index new = subst (λ (k : Call). Relists k (s.reach ∷ remove (listed index k) at) index new) (sym key) relists in
    let keys : IndexesKeys new (e ∷ others o es) = brought_first index new es o e at h.apart h.keys stands (sym key) relisted in
    let first : e ∷ others o es ≡ e ∷ entries_of (remove_entry (equal_places q) ps) = ap (λ (xs : List Entry). e ∷ xs) (others_like o e es x.3 ∙ sym rest) in
    record {
      placed = (is, removed_keeps (λ p. p.0 ≡ place_of (entry_of p)) (equal_places q) ps h.placed);
      apart = subst (λ (xs : List Entry). AreApart (e ∷ xs)) (sym rest) (first_apart e es h.apart);
      keys = subst (λ (xs : List Entry). IndexesKeys new xs) first keys;
    }

-- ---- the entry that is handed in, in its new reach

module _ (e f : Entry) (i : Interval) (lo : i.lo ≡ e.reach.lo) (is : (let g : Entry = record e { reach = i } in f ≡ g)) where
  pub first_is : (es : List Entry) → (let g : Entry = record e { reach = i } in with_first f es ≡ g ∷ others e es)
  first_is es =
      let g : Entry = record e { reach = i } in
      ap (λ (x : Entry). with_first x es) is ∙ ap (λ xs. g ∷ xs) (filter_same (λ o. not (same_place o g)) (λ o. not (same_place o e)) (λ o. ap not (place_moved e i o lo)) es)

  pub found_is : (es : List Entry) (found : Option Found) → IsFound (entries_under e.key es) (find (λ o. same_place o e) es) found → IsFound (entries_under f.key es) (find (λ o. same_place o f) es) found
  found_is es found h =
      let g : Entry = record e { reach = i } in
      let same : find (λ o. same_place o g) es ≡ find (λ o. same_place o e) es = find_same (λ o. same_place o g) (λ o. same_place o e) (λ o. place_moved e i o lo) es in
      subst (λ (x : Entry). IsFound (entries_under x.key es) (find (λ o. same_place o x) es) found) (sym is) (subst (λ (o : Option Entry). IsFound (entries_under e.key es) o found) (sym same) h)

  pub place_is : place_of f ≡ place_of e
  place_is = ap place_of is ∙ ap (place_at e.key) lo

-- ---- whether the old entry stays

pub kept_by : (c : Cache) (e : Entry) (i : Interval) (found : Option Found) (stays : Bool)
    → ((x : Entry) (es : List Entry) (o : Option Entry) → IsFound es o found → (let f : Entry = record x { reach = i } in stays ≡ ends_no_earlier c.processed f o))
    → IsFound (entries_under e.key c.entries) (find (λ o. same_place o e) c.entries) found → i ≡ replayed_reach c e → stays ≡ is_kept c e
kept_by c e i found stays h is replayed =
    let old = find (λ o. same_place o e) c.entries in
    h e (entries_under e.key c.entries) old is ∙ ap (λ (r : Interval). let f : Entry = record e { reach = r } in ends_no_earlier c.processed f old) replayed

-- ---- the last entry is taken out

pub last_entry_is : (ps : List (Place × Stored)) (o : Option (Place × Stored)) → o ≡ slice_get ps (length ps - 1) → option_map entry_of o ≡ slice_get (entries_of ps) (length (entries_of ps) - 1)
last_entry_is ps o is = ap (option_map entry_of) is ∙ sym (get_entry ps (length ps - 1)) ∙ ap (λ n. slice_get (entries_of ps) (n - 1)) (sym (length-map ps entry_of))

pub last_left : (ps : List (Place × Stored)) → entries_of (take (length ps - 1) ps) ≡ take (length (entries_of ps) - 1) (entries_of ps)
last_left ps = entries_take (length ps - 1) ps ∙ ap (λ n. take (n - 1) (entries_of ps)) (sym (length-map ps entry_of))

none_last : (ps : List (Place × Stored)) → slice_get ps (length ps - 1) ≡ None → take (length ps - 1) ps ≡ ps
none_last ps none = take_past (length ps - 1) ps none

pub last_tied : (ps : List (Place × Stored)) (x : Place × Stored) (index new : List (Call × List Interval)) → slice_get ps (length ps - 1) ≡ Some x → AreTied ps index
    → Relists x.0.key (take (length (listed index x.0.key) - 1) (listed index x.0.key)) index new → AreTied (take (length ps - 1) ps) new
last_tied ps x index new is h relists =
    let far : length ps - 1 < length ps = slice_get_within ps (length ps - 1) x is in
    let all : length ps ≡ suc (length ps - 1) = omega (arith, far) in
    dropped_tied (take (length ps - 1) ps) x index new (subst (λ (qs : List (Place × Stored)). AreTied qs index) (split_at (length ps - 1) ps x all is) h) relists

pub none_tied : (ps : List (Place × Stored)) (index : List (Call × List Interval)) → slice_get ps (length ps - 1) ≡ None → AreTied ps index → AreTied (take (length ps - 1) ps) index
none_tied ps index none h = subst (λ (qs : List (Place × Stored)). AreTied qs index) (sym (none_last ps none)) h
