-- What a sweep takes out, place by place.
use Rattle.std.proofs.Common.{◌≡◌, ℕ, ◌<◌, ◌+◌, Bool, true, false, not, cond, List, [], ◌∷◌, map, length, Some, None, refl, sym, ap, subst, ◌∙◌, arith, suc}
use Rattle.std.specs.Prelude.{slice_get, unwrap_or}
use Rattle.std.specs.List.{AllByRecursion, filter, count_by}
use Rattle.std.specs.Map.{lookup, remove_entry}
use Rattle.std.specs.HashMap.{HashMap}
use Rattle.std.proofs.lemmas.Bool.{false≢true}
use Rattle.std.proofs.lemmas.List.Filters.{length-filter_both}
use Rattle.std.proofs.lemmas.List.Sums.{length-filter}
use Rattle.txc_stamp.specs.Interval.{Interval}
use Rattle.txc_tags.specs.declared.tag.Rows.{Rows}
use Rattle.txc_tags.specs.Keys.{Call, same_call}
use Rattle.txc_tags.proofs.Offered.{same_call_is, same_call_itself}
use Rattle.txc_tags.proofs.All.{all-filter, all_find}
use Rattle.txc_node.specs.declared.entry.Entry.{Entry}
use Rattle.txc_node.specs.declared.place.Place.{Place}
use Rattle.txc_node.specs.declared.stored.Stored.{Stored}
use Rattle.txc_node.specs.Places.{place_of, place_at, equal_places, equal_places_is, equal_places_itself}
use Rattle.txc_node.specs.Entries.{AreApart}
use Rattle.txc_node.specs.Cache.{has_ended}
use Rattle.txc_node.specs.IndexedEntries.{entry_of, entries_of, entry_at, ArePlaced, AreTied, IndexesKeys, IndexesTags, KeepsListed, entries_under, reaches_under, listed}
use Rattle.txc_node.specs.Sweep.{AreStored, AreGoneAt, HasReach, IsGone, Sheds, elsewhere, ends_by, lasting}
use Rattle.txc_node.proofs.Apart.{filter_apart}
use Rattle.txc_node.proofs.Fronts.{found_self}
use Rattle.txc_node.proofs.KeyLists.{all_under}
use Rattle.txc_node.proofs.Listed.{kept_tags}
use Rattle.txc_node.proofs.Pairs.{removed_keeps, without_is_others}
use Rattle.txc_node.proofs.Swept.{find_filter}

-- ---- an entry at a place is taken out

-- some entry that stands there
abbrev at_place : Place → Entry
at_place q = record { key = q.key; value = []; reach = record { lo = q.lo; known = q.lo; still = false }; tags = [] }

pub removed_elsewhere : (ps : List (Place × Stored)) (q : Place) → ArePlaced ps → AreApart (entries_of ps) → entries_of (remove_entry (equal_places q) ps) ≡ elsewhere q (entries_of ps)
removed_elsewhere ps q placed apart = without_is_others ps (at_place q) placed apart

places_sym : (a b : Place) → equal_places a b ≡ false → equal_places b a ≡ false
places_sym a b h = (elim (equal_places b a) as (λ v. equal_places b a ≡ v → v ≡ false) [
  | true ↦ λ t. absurd (false≢true (sym h ∙ ap (equal_places a) (equal_places_is b a t) ∙ equal_places_itself a))
  | false ↦ λ t. refl
]) refl

module _ {S : Type 0} (tables new : List (HashMap Rows (List Place) S)) where
  unlisted_elsewhere : (q : Place) (es : List Entry) → KeepsListed (λ t p. equal_places q p ≡ false) tables new → IndexesTags tables es → IndexesTags new (elsewhere q es)
  unlisted_elsewhere q [] keeps h = tt
  unlisted_elsewhere q (e ∷ es) keeps h =
      let rest = unlisted_elsewhere q es keeps h.1 in
      (elim (equal_places (place_of e) q) as (λ v. equal_places (place_of e) q ≡ v → IndexesTags new (cond (not v) (e ∷ elsewhere q es) (elsewhere q es))) [
        | true ↦ λ t. rest
        | false ↦ λ t. ((λ still. kept_tags tables new (place_of e) e.tags (λ x. keeps x (place_of e) (places_sym (place_of e) q t)) (h.0 still)), rest)
      ]) refl

  pub taken_stored : (ps : List (Place × Stored)) (q : Place) → AreStored tables ps → KeepsListed (λ t p. equal_places q p ≡ false) tables new → AreStored new (remove_entry (equal_places q) ps)
  taken_stored ps q h keeps =
      let is = removed_elsewhere ps q h.placed h.apart in
      record {
        placed = removed_keeps (λ p. p.0 ≡ place_of (entry_of p)) (equal_places q) ps h.placed;
        apart = subst AreApart (sym is) (filter_apart (λ e. not (equal_places (place_of e) q)) (entries_of ps) h.apart);
        listed = subst (λ (es : List Entry). IndexesTags new es) (sym is) (unlisted_elsewhere q (entries_of ps) keeps h.listed);
      }

-- ---- what that leaves

pub none_elsewhere : (q : Place) (es : List Entry) → entry_at (elsewhere q es) q ≡ None
none_elsewhere q [] = refl
none_elsewhere q (e ∷ es) =
    let rest = none_elsewhere q es in
    (elim (equal_places (place_of e) q) as (λ v. equal_places (place_of e) q ≡ v → entry_at (cond (not v) (e ∷ elsewhere q es) (elsewhere q es)) q ≡ None) [
      | true ↦ λ t. rest
      | false ↦ λ t. ap (λ b. cond b (Some e) (entry_at (elsewhere q es) q)) (places_sym (place_of e) q t) ∙ rest
    ]) refl

not_true : (b : Bool) → not b ≡ false → b ≡ true
not_true true h = refl
not_true false h = absurd (false≢true (sym h))

stood_elsewhere : (q : Place) (es : List Entry) (r : Place) (e : Entry) → entry_at (elsewhere q es) r ≡ Some e → entry_at es r ≡ Some e
stood_elsewhere q es r e h = (elim (equal_places r q) as (λ v. equal_places r q ≡ v → entry_at es r ≡ Some e) [
  | true ↦ λ t. let none : None ≡ Some e = sym (ap (entry_at (elsewhere q es)) (equal_places_is r q t) ∙ none_elsewhere q es) ∙ h in cc
  | false ↦ λ t. sym (find_filter (λ o. not (equal_places (place_of o) q)) (λ o. equal_places r (place_of o)) (λ o there. ap (equal_places r) (equal_places_is (place_of o) q (not_true (equal_places (place_of o) q) there)) ∙ t) es) ∙ h
]) refl

module _ (p horizon : ℕ) where
  abbrev stays : Entry → Bool
  stays e = not (has_ended p horizon e)

  -- where what is dropped does not stay, the same stay
  same_stay : (q : Place) (es : List Entry) → AllByRecursion (λ o. equal_places (place_of o) q ≡ true → has_ended p horizon o ≡ true) es → filter stays (elsewhere q es) ≡ filter stays es
  same_stay q [] h = refl
  same_stay q (e ∷ es) h =
      let rest = same_stay q es h.1 in
      (elim (equal_places (place_of e) q) as (λ v. equal_places (place_of e) q ≡ v → filter stays (cond (not v) (e ∷ elsewhere q es) (elsewhere q es)) ≡ filter stays (e ∷ es)) [
        | true ↦ λ t. rest ∙ sym (ap (λ b. cond (not b) (e ∷ filter stays es) (filter stays es)) (h.0 t))
        | false ↦ λ t. ap (λ ys. cond (stays e) (e ∷ ys) ys) rest
      ]) refl

  ended_there : (all es : List Entry) (q : Place) → ((e : Entry) → entry_at all q ≡ Some e → has_ended p horizon e ≡ true) → AllByRecursion (λ o. entry_at all (place_of o) ≡ Some o) es
      → AllByRecursion (λ o. equal_places (place_of o) q ≡ true → has_ended p horizon o ≡ true) es
  ended_there all [] q h stands = tt
  ended_there all (e ∷ es) q h stands = ((λ t. h e (ap (entry_at all) (sym (equal_places_is (place_of e) q t)) ∙ stands.0)), ended_there all es q h stands.1)

  pub shed_at : (es : List Entry) (key : Call) (r : Interval) → AreApart es → HasReach es key r → ends_by p horizon r ≡ true → Sheds p horizon es (elsewhere (place_at key r.lo) es)
  shed_at es key r apart has ended =
      let q = place_at key r.lo in
      record {
        left = same_stay q es (ended_there es es q (λ e at. ap (ends_by p horizon) (has e at) ∙ ended) (found_self es apart));
        stood = stood_elsewhere q es;
      }

  pub shed_none : (es : List Entry) → Sheds p horizon es es
  shed_none es = record { left = refl; stood = λ q e h. h }

  pub shed_more : (a b c : List Entry) → Sheds p horizon a b → Sheds p horizon b c → Sheds p horizon a c
  shed_more a b c h k = record { left = k.left ∙ h.left; stood = λ q e at. h.stood q e (k.stood q e at) }

  pub still_gone : (a b : List Entry) (key : Call) (r : Interval) → Sheds p horizon a b → IsGone p horizon a key r → IsGone p horizon b key r
  still_gone a b key r h gone ended =
      let q = place_at key r.lo in
      (elim (entry_at b q) as (λ f. entry_at b q ≡ f → f ≡ None) [
        | None ↦ λ t. refl
        | Some e ↦ λ t. let none : None ≡ Some e = sym (gone ended) ∙ h.stood q e t in cc
      ]) refl

  pub still_has : (a b : List Entry) (key : Call) (r : Interval) → Sheds p horizon a b → HasReach a key r → HasReach b key r
  still_has a b key r h has e at = has e (h.stood (place_at key r.lo) e at)

  pub all_have : (a b : List Entry) (key : Call) (rs : List Interval) → Sheds p horizon a b → AllByRecursion (HasReach a key) rs → AllByRecursion (HasReach b key) rs
  all_have a b key [] h has = tt
  all_have a b key (r ∷ rs) h has = (still_has a b key r h has.0, all_have a b key rs h has.1)

  pub all_gone : (a b : List Entry) (key : Call) (rs : List Interval) → Sheds p horizon a b → AllByRecursion (IsGone p horizon a key) rs → AllByRecursion (IsGone p horizon b key) rs
  all_gone a b key [] h gone = tt
  all_gone a b key (r ∷ rs) h gone = (still_gone a b key r h gone.0, all_gone a b key rs h gone.1)

  -- ---- all keys

  -- where a key is found, it stands
  pub key_at : (key : Call) (xs : List (Call × List Interval)) (v : List Interval) → lookup (same_call key) xs ≡ Some v → (k : ℕ) × (k < length xs) × (x : Call × List Interval) × (slice_get xs k ≡ Some x) × (x.0 ≡ key) × (x.1 ≡ v)
  key_at key [] v h = let none : None ≡ Some v = h in cc
  key_at key (x ∷ xs) v h = (elim (same_call key x.0) as (λ b. same_call key x.0 ≡ b → cond b (Some x.1) (lookup (same_call key) xs) ≡ Some v → (k : ℕ) × (k < length (x ∷ xs)) × (y : Call × List Interval) × (slice_get (x ∷ xs) k ≡ Some y) × (y.0 ≡ key) × (y.1 ≡ v)) [
    | true ↦ λ t h. let is : Some x.1 ≡ Some v = h in let same : x.1 ≡ v = cc in (0, omega arith, x, refl, sym (same_call_is key x.0 t), same)
    | false ↦ λ t h. let k = key_at key xs v h in (suc k.0, omega (arith, k.1), k.2, k.3, k.4, k.5)
  ]) refl h

  pub gone_by_key : (es : List Entry) (xs : List (Call × List Interval)) → ((k : ℕ) → k < length xs → AreGoneAt p horizon es xs k) → (key : Call) → AllByRecursion (IsGone p horizon es key) (listed xs key)
  gone_by_key es xs h key = (elim (lookup (same_call key) xs) as (λ f. lookup (same_call key) xs ≡ f → AllByRecursion (IsGone p horizon es key) (unwrap_or f [])) [
    | None ↦ λ t. tt
    | Some v ↦ λ t.
        let k = key_at key xs v t in
        subst (λ (rs : List Interval). AllByRecursion (IsGone p horizon es key) rs) k.5 (subst (λ (c : Call). AllByRecursion (IsGone p horizon es c) k.2.1) k.4 (h k.0 k.1 k.2 k.3))
  ]) refl

  -- ---- by the index of the keys

  own_reaches : (key : Call) (all es : List Entry) → AllByRecursion (λ o. same_call o.key key ≡ true) es → AllByRecursion (λ o. entry_at all (place_of o) ≡ Some o) es → AllByRecursion (HasReach all key) (map (λ o. o.reach) es)
  own_reaches key all [] own stands = tt
  own_reaches key all (x ∷ xs) own stands = (
    (λ e at.
        let both : Some x ≡ Some e = sym stands.0 ∙ ap (λ (k : Call). entry_at all (place_at k x.reach.lo)) (same_call_is x.key key own.0) ∙ at in
        let same : x ≡ e = cc in
        ap (λ (o : Entry). o.reach) (sym same)),
    own_reaches key all xs own.1 stands.1,
  )

  -- an entry at the place of a key and a reach that is listed of it has that reach
  pub listed_have : (index : List (Call × List Interval)) (es : List Entry) → AreApart es → IndexesKeys index es → (key : Call) → AllByRecursion (HasReach es key) (listed index key)
  listed_have index es apart indexed key =
      subst (AllByRecursion (HasReach es key)) (sym (indexed key)) (own_reaches key es (entries_under key es) (all_under key es) (all-filter (λ o. entry_at es (place_of o) ≡ Some o) (λ o. same_call o.key key) es (found_self es apart)))

  under_reach : (P : Interval → Type 0) (key : Call) (es : List Entry) → AllByRecursion P (reaches_under key es) → AllByRecursion (λ o. same_call o.key key ≡ true → P o.reach) es
  under_reach P key [] h = tt
  under_reach P key (x ∷ es) h = (elim (same_call x.key key) as (λ b. same_call x.key key ≡ b → AllByRecursion P (map (λ o. o.reach) (cond b (x ∷ entries_under key es) (entries_under key es))) → AllByRecursion (λ o. same_call o.key key ≡ true → P o.reach) (x ∷ es)) [
    | true ↦ λ t h. ((λ own. h.0), under_reach P key es h.1)
    | false ↦ λ t h. ((λ own. absurd (false≢true (sym t ∙ own))), under_reach P key es h)
  ]) refl h

  -- none is left that has ended
  each_stays : (index : List (Call × List Interval)) (es new xs : List Entry) → IndexesKeys index es → Sheds p horizon es new → ((key : Call) → AllByRecursion (IsGone p horizon new key) (listed index key))
      → AllByRecursion (λ o. entry_at new (place_of o) ≡ Some o) xs → AllByRecursion (λ o. has_ended p horizon o ≡ false) xs
  each_stays index es new [] indexed sheds gone stands = tt
  each_stays index es new (x ∷ xs) indexed sheds gone stands = (
    (elim (has_ended p horizon x) as (λ b. has_ended p horizon x ≡ b → b ≡ false) [
      | true ↦ λ t.
          let P : Interval → Type 0 = IsGone p horizon new x.key in
          let all = under_reach P x.key es (subst (AllByRecursion P) (indexed x.key) (gone x.key)) in
          let there = all_find (λ o. same_call o.key x.key ≡ true → P o.reach) (λ o. equal_places (place_of x) (place_of o)) es x all (sheds.stood (place_of x) x stands.0) in
          let none : None ≡ Some x = sym (there (same_call_itself x.key) t) ∙ stands.0 in
          cc
      | false ↦ λ t. refl
    ]) refl,
    each_stays index es new xs indexed sheds gone stands.1,
  )

  all_stay : (es : List Entry) → AllByRecursion (λ o. has_ended p horizon o ≡ false) es → filter stays es ≡ es
  all_stay [] h = refl
  all_stay (e ∷ es) h = ap (λ b. cond (not b) (e ∷ filter stays es) (filter stays es)) h.0 ∙ ap (λ xs. e ∷ xs) (all_stay es h.1)

  pub all_left : (index : List (Call × List Interval)) (es new : List Entry) → IndexesKeys index es → AreApart new → Sheds p horizon es new → ((key : Call) → AllByRecursion (IsGone p horizon new key) (listed index key)) → new ≡ filter stays es
  all_left index es new indexed apart sheds gone = sym (all_stay new (each_stays index es new new indexed sheds gone (found_self new apart))) ∙ sheds.left

  lasting_one : (key : Call) (e : Entry) (es : List Entry) (a b : Bool) → same_call e.key key ≡ a → has_ended p horizon e ≡ b → lasting p horizon (reaches_under key es) ≡ reaches_under key (filter stays es)
      → lasting p horizon (map (λ o. o.reach) (cond a (e ∷ entries_under key es) (entries_under key es))) ≡ reaches_under key (cond (not b) (e ∷ filter stays es) (filter stays es))
  lasting_one key e es true true h k r = ap (λ v. cond (not v) (e.reach ∷ lasting p horizon (reaches_under key es)) (lasting p horizon (reaches_under key es))) k ∙ r
  lasting_one key e es true false h k r =
      ap (λ v. cond (not v) (e.reach ∷ lasting p horizon (reaches_under key es)) (lasting p horizon (reaches_under key es))) k ∙ ap (λ rs. e.reach ∷ rs) r
      ∙ sym (ap (λ v. map (λ (o : Entry). o.reach) (cond v (e ∷ entries_under key (filter stays es)) (entries_under key (filter stays es)))) h)
  lasting_one key e es false true h k r = r
  lasting_one key e es false false h k r = r ∙ sym (ap (λ v. map (λ (o : Entry). o.reach) (cond v (e ∷ entries_under key (filter stays es)) (entries_under key (filter stays es)))) h)

  lasting_under : (key : Call) (es : List Entry) → lasting p horizon (reaches_under key es) ≡ reaches_under key (filter stays es)
  lasting_under key [] = refl
  lasting_under key (e ∷ es) = lasting_one key e es (same_call e.key key) (has_ended p horizon e) refl refl (lasting_under key es)

  pub swept_tied : {S : Type 0} (tables : List (HashMap Rows (List Place) S)) (ps qs : List (Place × Stored)) (index new : List (Call × List Interval)) → AreTied ps index → AreStored tables qs → entries_of qs ≡ filter stays (entries_of ps)
      → ((key : Call) → listed new key ≡ lasting p horizon (listed index key)) → AreTied qs new
  swept_tied tables ps qs index new tied stored left lists = record {
    placed = stored.placed;
    apart = stored.apart;
    keys = λ key. lists key ∙ ap (lasting p horizon) (tied.keys key) ∙ lasting_under key (entries_of ps) ∙ ap (reaches_under key) (sym left);
  }

-- ---- how many stay

pub kept_count : (ended : Entry → Bool) (es : List Entry) → length (filter (λ e. not (ended e)) es) + count_by ended es ≡ length es
kept_count ended es = omega (arith, length-filter ended es, length-filter_both ended (λ e. not (ended e)) (λ _. refl) es)
