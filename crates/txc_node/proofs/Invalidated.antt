-- What an event leaves, when it has reached all places that its tags list.
use Rattle.std.proofs.Common.{◌≡◌, ℕ, ◌-◌, Bool, true, false, ◌&&◌, ◌||◌, cond, List, [], ◌∷◌, map, Some, None, refl, sym, ap, subst, ◌∙◌, arith}
use Rattle.std.specs.Prelude.{unwrap_or, nat_lt}
use Rattle.std.specs.List.{count_by, find, AllByRecursion, list_any}
use Rattle.std.specs.HashMap.{HashMap}
use Rattle.std.specs.Option.{option_map}
use Rattle.std.proofs.lemmas.Bool.{false≢true}
use Rattle.std.proofs.lemmas.List.Sums.{sum_by-cons}
use Rattle.txc_stamp.specs.Interval.{closed_at}
use Rattle.txc_tags.specs.declared.tag.Rows.{Rows}
use Rattle.txc_tags.specs.declared.tag.Tag.{Tag}
use Rattle.txc_tags.specs.Tags.{tags_match, sets_match}
use Rattle.txc_tags.proofs.Offered.{both_true}
use Rattle.txc_node.specs.declared.entry.Entry.{Entry}
use Rattle.txc_node.specs.declared.place.Place.{Place}
use Rattle.txc_node.specs.Places.{place_of, equal_places, equal_places_is}
use Rattle.txc_node.specs.Entries.{AreApart}
use Rattle.txc_node.specs.Cache.{is_invalidated, entry_after}
use Rattle.txc_node.specs.IndexedEntries.{HeldEntries, stored_of, entry_at, is_live, lists, IndexesTags, IsListed, KeepsListed, AreSparedBy, Closes, IsSpared}
use Rattle.txc_node.proofs.Fronts.{found_self}
use Rattle.txc_node.proofs.Listed.{kept_tags}

-- ---- nothing is left to invalidate

any_of : {X : Type 0} (P : X → Type 0) (p : X → Bool) (xs : List X) → AllByRecursion P xs → list_any p xs ≡ true → (x : X) × P x × (p x ≡ true)
any_of P p [] h is = absurd (false≢true is)
any_of P p (x ∷ xs) h is = (elim (p x) as (λ b. p x ≡ b → (b || list_any p xs) ≡ true → (y : _) × P y × (p y ≡ true)) [
  | true ↦ λ t is. (x, h.0, t)
  | false ↦ λ t is. any_of P p xs h.1 is
]) refl is

-- what is found at a place
found_there : (P : Entry → Type 0) (p : Entry → Bool) (es : List Entry) (e : Entry) → AllByRecursion P es → find p es ≡ Some e → (p e ≡ true) × P e
found_there P p [] e h is = let none : None ≡ Some e = is in cc
found_there P p (x ∷ es) e h is = (elim (p x) as (λ b. p x ≡ b → cond b (Some x) (find p es) ≡ Some e → (p e ≡ true) × P e) [
  | true ↦ λ t is. let here : Some x ≡ Some e = is in let same : x ≡ e = cc in subst (λ (o : Entry). (p o ≡ true) × P o) same (t, h.0)
  | false ↦ λ t is. found_there P p es e h.1 is
]) refl is

module _ {S : Type 0} (stamp : ℕ) (tags : List Tag) (tables : List (HashMap Rows (List Place) S)) where
  spared_there : (old new : List Entry) (q : Place) (e : Entry) → IndexesTags tables old → AllByRecursion (AreSparedBy stamp tags new tables) tags → entry_at old q ≡ Some e → is_invalidated stamp tags e ≡ true → IsSpared stamp tags new q
  spared_there old new q e indexed spared at hit =
      let own = found_there (λ o. IsListed tables (place_of o) (stored_of o)) (λ o. equal_places q (place_of o)) old e indexed at in
      let here : place_of e ≡ q = sym (equal_places_is q (place_of e) own.0) in
      let parts = both_true e.reach.still (nat_lt e.reach.known stamp && sets_match tags e.tags) hit in
      let match_ = (both_true (nat_lt e.reach.known stamp) (sets_match tags e.tags) parts.1).1 in
      let a = any_of (AreSparedBy stamp tags new tables) (λ y. list_any (tags_match y) e.tags) tags spared match_ in
      let b = any_of (λ t. lists tables t (place_of e) ≡ true) (tags_match a.0) e.tags (own.1 parts.0) a.2 in
      subst (IsSpared stamp tags new) here (a.1 b.0 (place_of e) b.2 b.1)

  pub none_left : (old new : HeldEntries) (n : ℕ) → IndexesTags tables old.entries → AllByRecursion (AreSparedBy stamp tags new.entries tables) tags → Closes stamp tags old new n → (q : Place) → IsSpared stamp tags new.entries q
  none_left old new n indexed spared closes q = (elim (entry_at old.entries q) as (λ f. entry_at old.entries q ≡ f → IsSpared stamp tags new.entries q) [
    | None ↦ λ t. closes.spared q (λ e h. let none : None ≡ Some e = sym t ∙ h in cc)
    | Some e ↦ λ t. (elim (is_invalidated stamp tags e) as (λ v. is_invalidated stamp tags e ≡ v → IsSpared stamp tags new.entries q) [
      | true ↦ λ u. spared_there old.entries new.entries q e indexed spared t u
      | false ↦ λ u. closes.spared q (λ o h. let both : Some e ≡ Some o = sym t ∙ h in let same : e ≡ o = cc in ap (is_invalidated stamp tags) (sym same) ∙ u)
    ]) refl
  ]) refl

live_at : (es : List Entry) (q : Place) (e : Entry) → entry_at es q ≡ Some e → e.reach.still ≡ true → is_live es q ≡ true
unfolding is_live
live_at es q e at still = ap (λ f. unwrap_or (option_map (λ o. o.reach.still) f) false) at ∙ still

live_entry : (es : List Entry) (q : Place) → is_live es q ≡ true → (e : Entry) × (entry_at es q ≡ Some e) × (e.reach.still ≡ true)
unfolding is_live
live_entry es q h = (elim (entry_at es q) as (λ f. entry_at es q ≡ f → unwrap_or (option_map (λ e. e.reach.still) f) false ≡ true → (e : Entry) × (entry_at es q ≡ Some e) × (e.reach.still ≡ true)) [
  | None ↦ λ t h. absurd (false≢true h)
  | Some e ↦ λ t h. (e, t, h)
]) refl h

-- ---- what an event leaves at a place

module _ (stamp : ℕ) (tags : List Tag) where
  after_place : (e : Entry) → place_of (entry_after stamp tags e) ≡ place_of e
  after_place e = elim (is_invalidated stamp tags e) as (λ b. place_of (cond b (record e { reach = closed_at (stamp - 1) e.reach }) e) ≡ place_of e) [ true ↦ refl | false ↦ refl ]

  at_after : (es : List Entry) (q : Place) → entry_at (map (entry_after stamp tags) es) q ≡ option_map (entry_after stamp tags) (entry_at es q)
  at_after [] q = refl
  at_after (e ∷ es) q =
      ap (λ (p : Place). cond (equal_places q p) (Some (entry_after stamp tags e)) (entry_at (map (entry_after stamp tags) es) q)) (after_place e)
      ∙ (elim (equal_places q (place_of e)) as (λ b. cond b (Some (entry_after stamp tags e)) (entry_at (map (entry_after stamp tags) es) q) ≡ option_map (entry_after stamp tags) (cond b (Some e) (entry_at es q))) [ true ↦ refl | false ↦ at_after es q ])

  unclosed : (e : Entry) → is_invalidated stamp tags e ≡ false → entry_after stamp tags e ≡ e
  unclosed e h = ap (λ v. cond v (record e { reach = closed_at (stamp - 1) e.reach }) e) h

  -- an event closes no entry that is closed
  dead_spared : (es : List Entry) (q : Place) → is_live es q ≡ false → IsSpared stamp tags es q
  dead_spared es q dead e at = (elim e.reach.still as (λ b. e.reach.still ≡ b → (b && (nat_lt e.reach.known stamp && sets_match tags e.tags)) ≡ false) [
    | true ↦ λ t. absurd (false≢true (sym dead ∙ live_at es q e at t))
    | false ↦ λ t. refl
  ]) refl

  -- what is still valid was so before
  still_before : (old new : HeldEntries) (n : ℕ) (q : Place) (o e : Entry) → Closes stamp tags old new n → entry_at old.entries q ≡ Some o → entry_at new.entries q ≡ Some e
      → entry_after stamp tags o ≡ entry_after stamp tags e → e.reach.still ≡ true → o.reach.still ≡ true
  still_before old new n q o e closes at there same still = (elim (is_invalidated stamp tags o) as (λ v. is_invalidated stamp tags o ≡ v → o.reach.still ≡ true) [
    | true ↦ λ u. (both_true o.reach.still (nat_lt o.reach.known stamp && sets_match tags o.tags) u).0
    | false ↦ λ u.
        let own : IsSpared stamp tags old.entries q = λ d k. let both : Some o ≡ Some d = sym at ∙ k in let is : o ≡ d = cc in ap (is_invalidated stamp tags) (sym is) ∙ u in
        let unhurt : is_invalidated stamp tags e ≡ false = closes.spared q own e there in
        ap (λ (x : Entry). x.reach.still) (sym (unclosed o u) ∙ same ∙ unclosed e unhurt) ∙ still
  ]) refl

  pub was_live : (old new : HeldEntries) (n : ℕ) (q : Place) → Closes stamp tags old new n → is_live new.entries q ≡ true → is_live old.entries q ≡ true
  was_live old new n q closes live =
      let e = live_entry new.entries q live in
      let same : option_map (entry_after stamp tags) (entry_at old.entries q) ≡ Some (entry_after stamp tags e.0) =
      sym (at_after old.entries q) ∙ ap (λ (es : List Entry). entry_at es q) (sym closes.after) ∙ at_after new.entries q ∙ ap (option_map (entry_after stamp tags)) e.1 in
      (elim (entry_at old.entries q) as (λ f. entry_at old.entries q ≡ f → option_map (entry_after stamp tags) f ≡ Some (entry_after stamp tags e.0) → is_live old.entries q ≡ true) [
        | None ↦ λ t s. let none : None ≡ Some (entry_after stamp tags e.0) = s in cc
        | Some o ↦ λ t s.
            let both : Some (entry_after stamp tags o) ≡ Some (entry_after stamp tags e.0) = s in
            let is : entry_after stamp tags o ≡ entry_after stamp tags e.0 = cc in
            live_at old.entries q o t (still_before old new n q o e.0 closes t e.1 is e.2)
      ]) refl same

  -- an event that has reached each place at which a still valid entry stood has reached all
  pub spared_still : (old new : HeldEntries) (n : ℕ) (q : Place) → Closes stamp tags old new n → (is_live old.entries q ≡ true → IsSpared stamp tags new.entries q) → IsSpared stamp tags new.entries q
  spared_still old new n q closes h = (elim (is_live old.entries q) as (λ b. is_live old.entries q ≡ b → IsSpared stamp tags new.entries q) [
    | true ↦ λ t. h t
    | false ↦ λ t. closes.spared q (dead_spared old.entries q t)
  ]) refl

module _ (stamp : ℕ) (tags : List Tag) where
  all_spared : (ps es : List Entry) → ((q : Place) → IsSpared stamp tags ps q) → AllByRecursion (λ o. entry_at ps (place_of o) ≡ Some o) es → AllByRecursion (λ o. is_invalidated stamp tags o ≡ false) es
  all_spared ps [] h stands = tt
  all_spared ps (e ∷ es) h stands = (h (place_of e) e stands.0, all_spared ps es h stands.1)

  after_none : (es : List Entry) → AllByRecursion (λ o. is_invalidated stamp tags o ≡ false) es → map (entry_after stamp tags) es ≡ es
  after_none [] h = refl
  after_none (x ∷ xs) h = ap (λ v. cond v (record x { reach = closed_at (stamp - 1) x.reach }) x ∷ map (entry_after stamp tags) xs) h.0 ∙ ap (λ ys. x ∷ ys) (after_none xs h.1)

  count_none : (xs : List Entry) → AllByRecursion (λ o. is_invalidated stamp tags o ≡ false) xs → count_by (is_invalidated stamp tags) xs ≡ 0
  count_none [] h = refl
  count_none (x ∷ xs) h =
      let here : ◌≡◌ {A = ℕ} (cond (is_invalidated stamp tags x) 1 0) 0 = ap (λ v. cond {A = ℕ} v 1 0) h.0 in
      let all = sum_by-cons (λ y. cond (is_invalidated stamp tags y) 1 0) x xs in
      let rest = count_none xs h.1 in
      omega (arith, here, all, rest)

  pub all_closed : (old new : HeldEntries) (n : ℕ) → AreApart new.entries → Closes stamp tags old new n → ((q : Place) → IsSpared stamp tags new.entries q)
      → (new.entries ≡ map (entry_after stamp tags) old.entries) × (n ≡ count_by (is_invalidated stamp tags) old.entries)
  all_closed old new n apart closes spared =
      let none = all_spared new.entries new.entries spared (found_self new.entries apart) in
      (sym (after_none new.entries none) ∙ closes.after, (let zero_left = count_none new.entries none in omega (arith, closes.count, zero_left)))

  -- ---- the index of the tags

  tags_after : {S : Type 0} (tables : List (HashMap Rows (List Place) S)) (es : List Entry) → IndexesTags tables es → IndexesTags tables (map (entry_after stamp tags) es)
  tags_after tables [] h = tt
  tags_after tables (e ∷ es) h =
      let T : Entry → Type 0 = λ o. o.reach.still ≡ true → AllByRecursion (λ t. lists tables t (place_of o) ≡ true) o.tags in
      (elim (is_invalidated stamp tags e) as (λ b. T (cond b (record e { reach = closed_at (stamp - 1) e.reach }) e)) [ true ↦ (λ still. absurd (false≢true still)) | false ↦ h.0 ], tags_after tables es h.1)

cleaned : {S : Type 0} (all es : List Entry) (tables new : List (HashMap Rows (List Place) S)) → AllByRecursion (λ o. entry_at all (place_of o) ≡ Some o) es → IndexesTags tables es
    → KeepsListed (λ t q. is_live all q ≡ true) tables new → IndexesTags new es
cleaned all [] tables new stands h keeps = tt
cleaned all (e ∷ es) tables new stands h keeps =
    (λ still. kept_tags tables new (place_of e) e.tags (λ t. keeps t (place_of e) (live_at all (place_of e) e stands.0 still)) (h.0 still), cleaned all es tables new stands.1 h.1 keeps)

pub indexed_after : {S : Type 0} (stamp : ℕ) (tags : List Tag) (old new : List Entry) (tables left : List (HashMap Rows (List Place) S)) → AreApart new → new ≡ map (entry_after stamp tags) old
    → IndexesTags tables old → KeepsListed (λ t q. is_live new q ≡ true) tables left → IndexesTags left new
indexed_after stamp tags old new tables left apart after indexed keeps =
    cleaned new new tables left (found_self new apart) (subst (λ es. IndexesTags tables es) (sym after) (tags_after stamp tags tables old indexed)) keeps
