-- What an event closes at one place.
use Rattle.std.proofs.Common.{◌≡◌, ℕ, ◌+◌, ◌-◌, Bool, true, false, ◌&&◌, ◌||◌, ◌<◌, eqb, get_or, length, suc, cond, List, [], ◌∷◌, map, Option, Some, None, refl, sym, ap, subst, ◌∙◌, arith, ◌⊎◌, inl, inr}
use Rattle.std.specs.List.{count_by, AllByRecursion}
use Rattle.std.specs.Map.{lookup, lookup_entry, set_value}
use Rattle.std.specs.Prelude.{unwrap_or, slice_get}
use Rattle.txc_tags.specs.declared.tag.Rows.{Rows}
use Rattle.std.specs.Option.{option_map, option_map_or}
use Rattle.std.proofs.lemmas.List.Sums.{sum_by-cons}
use Rattle.std.proofs.lemmas.Bool.{false≢true}
use Rattle.txc_stamp.specs.Interval.{Interval, closed_at}
use Rattle.txc_tags.specs.declared.tag.Tag.{Tag}
use Rattle.txc_tags.specs.Keys.{Call, same_call}
use Rattle.txc_tags.proofs.Offered.{same_call_is, same_call_itself}
use borrow.Author.Tests.{eq-eqb}
use Rattle.txc_node.specs.declared.entry.Entry.{Entry}
use Rattle.txc_node.specs.declared.place.Place.{Place}
use Rattle.txc_node.specs.declared.stored.Stored.{Stored}
use Rattle.txc_node.specs.Places.{place_of, equal_places, equal_places_is}
use Rattle.txc_node.specs.Entries.{same_place, AreApart}
use Rattle.txc_node.specs.Cache.{is_invalidated, entry_after}
use Rattle.txc_node.specs.IndexedEntries.{HeldEntries, entry_of, entries_of, ArePlaced, entries_under, reaches_under, in_stead, has_place, equal_rows, lists_rows, AreSparedAt, listed, Relists, is_live, is_stale, stored_after, closed_reach, stays_live, after_at, AreTied, Closes, IsSpared}
use Rattle.txc_node.proofs.Apart.{eqb_sym, after_both, after_apart}
use Rattle.txc_node.proofs.Pairs.{found_pair, stored_at}
use Rattle.txc_node.proofs.Buckets.{live_stored}
use Rattle.txc_node.proofs.KeyLists.{indexes_by, under_yes, under_no}

-- the entry of the pair at a place
abbrev of_pair : List (Place × Stored) → Place → Option Entry
of_pair ps q = option_map entry_of (lookup_entry (equal_places q) ps)

module _ (stamp : ℕ) (tags : List Tag) where
  -- an entry that was closed is closed no more
  closed_once : (e : Entry) → is_invalidated stamp tags (entry_after stamp tags e) ≡ false
  closed_once e = (elim (is_invalidated stamp tags e) as (λ v. is_invalidated stamp tags e ≡ v → is_invalidated stamp tags (cond v (record e { reach = closed_at (stamp - 1) e.reach }) e) ≡ false) [
    | true ↦ λ t. refl
    | false ↦ λ t. t
  ]) refl

  closed_twice : (e : Entry) → entry_after stamp tags (entry_after stamp tags e) ≡ entry_after stamp tags e
  closed_twice e = ap (λ v. cond v (record (entry_after stamp tags e) { reach = closed_at (stamp - 1) (entry_after stamp tags e).reach }) (entry_after stamp tags e)) (closed_once e)

  at_place : (q : Place) (s : Stored) → entry_of (q, stored_after stamp tags s) ≡ entry_after stamp tags (entry_of (q, s))
  at_place q s = elim (is_stale stamp tags s) as (λ b. entry_of (q, cond b (record s { reach = closed_at (stamp - 1) s.reach }) s) ≡ cond b (record (entry_of (q, s)) { reach = closed_at (stamp - 1) s.reach }) (entry_of (q, s))) [ true ↦ refl | false ↦ refl ]

  -- what was closed begins where it began
  begins_alike : (s : Stored) → (stored_after stamp tags s).reach.lo ≡ s.reach.lo
  begins_alike s = elim (is_stale stamp tags s) as (λ b. (cond b (record s { reach = closed_at (stamp - 1) s.reach }) s).reach.lo ≡ s.reach.lo) [ true ↦ refl | false ↦ refl ]

  -- ---- the change of what is stored at a place

  found_first : (test : Place → Bool) (x : Place × Stored) (ps : List (Place × Stored)) (s : Stored) → test x.0 ≡ true → lookup test (x ∷ ps) ≡ Some s → x.1 ≡ s
  found_first test x ps s t h = let is : Some x.1 ≡ Some s = sym (ap (λ v. cond v (Some x.1) (lookup test ps)) t) ∙ h in cc

  found_later : (test : Place → Bool) (x : Place × Stored) (ps : List (Place × Stored)) (s : Stored) → test x.0 ≡ false → lookup test (x ∷ ps) ≡ Some s → lookup test ps ≡ Some s
  found_later test x ps s t h = sym (ap (λ v. cond v (Some x.1) (lookup test ps)) t) ∙ h

  set_kept : (test : Place → Bool) (ps : List (Place × Stored)) (s : Stored) → lookup test ps ≡ Some s
      → map (entry_after stamp tags) (entries_of (set_value test ps (stored_after stamp tags s))) ≡ map (entry_after stamp tags) (entries_of ps)
  set_kept test [] s h = refl
  set_kept test (x ∷ ps) s h =
      let w = stored_after stamp tags s in
      (elim (test x.0) as (λ v. test x.0 ≡ v → map (entry_after stamp tags) (entries_of (cond v ((x.0, w) ∷ ps) (x ∷ set_value test ps w))) ≡ map (entry_after stamp tags) (entries_of (x ∷ ps))) [
        | true ↦ λ t. ap (λ y. y ∷ map (entry_after stamp tags) (entries_of ps)) (ap (entry_after stamp tags) (at_place x.0 s) ∙ closed_twice (entry_of (x.0, s)) ∙ ap (λ (u : Stored). entry_after stamp tags (entry_of (x.0, u))) (sym (found_first test x ps s t h)))
        | false ↦ λ t. ap (λ ys. entry_after stamp tags (entry_of x) ∷ ys) (set_kept test ps s (found_later test x ps s t h))
      ]) refl

  set_placed : (test : Place → Bool) (ps : List (Place × Stored)) (s : Stored) → lookup test ps ≡ Some s → ArePlaced ps → ArePlaced (set_value test ps (stored_after stamp tags s))
  set_placed test [] s h placed = tt
  set_placed test (x ∷ ps) s h placed =
      let w = stored_after stamp tags s in
      (elim (test x.0) as (λ v. test x.0 ≡ v → ArePlaced (cond v ((x.0, w) ∷ ps) (x ∷ set_value test ps w))) [
        | true ↦ λ t. (placed.0 ∙ ap (λ (u : Stored). place_of (entry_of (x.0, u))) (found_first test x ps s t h) ∙ ap (λ n. record { key = x.0.key; lo = n }) (sym (begins_alike s)), placed.1)
        | false ↦ λ t. (placed.0, set_placed test ps s (found_later test x ps s t h) placed.1)
      ]) refl

  count_first : (x : Entry) (xs : List Entry) → count_by (is_invalidated stamp tags) (x ∷ xs) ≡ cond (is_invalidated stamp tags x) 1 0 + count_by (is_invalidated stamp tags) xs
  count_first x xs = sum_by-cons (λ y. cond (is_invalidated stamp tags y) 1 0) x xs

  count_closed : (e : Entry) (n m k : ℕ) → m ≡ cond (is_invalidated stamp tags (entry_after stamp tags e)) 1 0 + n → k ≡ cond (is_invalidated stamp tags e) 1 0 + n → cond (is_invalidated stamp tags e) 1 0 + m ≡ k
  count_closed e n m k h j =
      let h' : m ≡ 0 + n = h ∙ ap (λ v. cond v 1 0 + n) (closed_once e) in
      omega (arith, h', j)

  set_count : (test : Place → Bool) (ps : List (Place × Stored)) (s : Stored) → lookup test ps ≡ Some s
      → cond (is_stale stamp tags s) 1 0 + count_by (is_invalidated stamp tags) (entries_of (set_value test ps (stored_after stamp tags s))) ≡ count_by (is_invalidated stamp tags) (entries_of ps)
  set_count test [] s h = let none : None ≡ Some s = h in cc
  set_count test (x ∷ ps) s h =
      let w = stored_after stamp tags s in
      (elim (test x.0) as (λ v. test x.0 ≡ v → cond (is_stale stamp tags s) 1 0 + count_by (is_invalidated stamp tags) (entries_of (cond v ((x.0, w) ∷ ps) (x ∷ set_value test ps w))) ≡ count_by (is_invalidated stamp tags) (entries_of (x ∷ ps))) [
        | true ↦ λ t.
            count_closed (entry_of (x.0, s)) (count_by (is_invalidated stamp tags) (entries_of ps)) _ _
            (ap (λ (o : Entry). count_by (is_invalidated stamp tags) (o ∷ entries_of ps)) (at_place x.0 s) ∙ count_first (entry_after stamp tags (entry_of (x.0, s))) (entries_of ps))
            (ap (λ (u : Stored). count_by (is_invalidated stamp tags) (entry_of (x.0, u) ∷ entries_of ps)) (found_first test x ps s t h) ∙ count_first (entry_of (x.0, s)) (entries_of ps))
        | false ↦ λ t.
            let on = set_count test ps s (found_later test x ps s t h) in
            let here = count_first (entry_of x) (entries_of (set_value test ps w)) in
            let there = count_first (entry_of x) (entries_of ps) in
            omega (arith, on, here, there)
      ]) refl

  -- what is stored after the change, at the place and elsewhere
  set_at : (q r : Place) (ps : List (Place × Stored)) (s : Stored) (o : Entry) → lookup (equal_places q) ps ≡ Some s → of_pair (set_value (equal_places q) ps (stored_after stamp tags s)) r ≡ Some o
      → (is_invalidated stamp tags o ≡ false) ⊎ (of_pair ps r ≡ Some o)
  set_at q r [] s o h k = let none : None ≡ Some o = k in cc
  set_at q r (x ∷ ps) s o h k =
      let w = stored_after stamp tags s in
      let rest = set_value (equal_places q) ps w in
      (elim (equal_places q x.0) as (λ v. equal_places q x.0 ≡ v → of_pair (cond v ((x.0, w) ∷ ps) (x ∷ rest)) r ≡ Some o → (is_invalidated stamp tags o ≡ false) ⊎ (of_pair (x ∷ ps) r ≡ Some o)) [
        | true ↦ λ t k.
            (elim (equal_places r x.0) as (λ u. option_map entry_of (cond u (Some (x.0, w)) (lookup_entry (equal_places r) ps)) ≡ Some o → (is_invalidated stamp tags o ≡ false) ⊎ (option_map entry_of (cond u (Some x) (lookup_entry (equal_places r) ps)) ≡ Some o)) [
              | true ↦ λ is. let is' : Some (entry_of (x.0, w)) ≡ Some o = is in let same : entry_of (x.0, w) ≡ o = cc in inl (ap (is_invalidated stamp tags) (sym same ∙ at_place x.0 s) ∙ closed_once (entry_of (x.0, s)))
              | false ↦ λ is. inr is
            ]) k
        | false ↦ λ t k.
            (elim (equal_places r x.0) as (λ u. option_map entry_of (cond u (Some x) (lookup_entry (equal_places r) rest)) ≡ Some o → (is_invalidated stamp tags o ≡ false) ⊎ (option_map entry_of (cond u (Some x) (lookup_entry (equal_places r) ps)) ≡ Some o)) [
              | true ↦ λ is. inr is
              | false ↦ λ is. set_at q r ps s o (found_later (equal_places q) x ps s t h) is
            ]) k
      ]) refl k

  set_spared : (q : Place) (ps : List (Place × Stored)) (s : Stored) → lookup (equal_places q) ps ≡ Some s → ArePlaced ps → (r : Place) → IsSpared stamp tags (entries_of ps) r → IsSpared stamp tags (entries_of (set_value (equal_places q) ps (stored_after stamp tags s))) r
  set_spared q ps s h placed r was o k =
      elim (set_at q r ps s o h (sym (found_pair r (set_value (equal_places q) ps (stored_after stamp tags s)) (set_placed (equal_places q) ps s h placed)) ∙ k)) [ inl no' ↦ no' | inr there ↦ was o (found_pair r ps placed ∙ there) ]

  set_here : (q : Place) (ps : List (Place × Stored)) (s : Stored) (o : Entry) → lookup (equal_places q) ps ≡ Some s → of_pair (set_value (equal_places q) ps (stored_after stamp tags s)) q ≡ Some o → is_invalidated stamp tags o ≡ false
  set_here q [] s o h k = let none : None ≡ Some o = k in cc
  set_here q (x ∷ ps) s o h k =
      let w = stored_after stamp tags s in
      let rest = set_value (equal_places q) ps w in
      (elim (equal_places q x.0) as (λ v. equal_places q x.0 ≡ v → of_pair (cond v ((x.0, w) ∷ ps) (x ∷ rest)) q ≡ Some o → is_invalidated stamp tags o ≡ false) [
        | true ↦ λ t k.
            let is : Some (entry_of (x.0, w)) ≡ Some o = sym (ap (λ u. option_map entry_of (cond u (Some (x.0, w)) (lookup_entry (equal_places q) ps))) t) ∙ k in
            let same : entry_of (x.0, w) ≡ o = cc in
            ap (is_invalidated stamp tags) (sym same ∙ at_place x.0 s) ∙ closed_once (entry_of (x.0, s))
        | false ↦ λ t k.
            set_here q ps s o (found_later (equal_places q) x ps s t h) (sym (ap (λ u. option_map entry_of (cond u (Some x) (lookup_entry (equal_places q) rest))) t) ∙ k)
      ]) refl k

  -- ---- the entries still stand apart

  elsewhere_back : (e : Entry) (xs : List Entry) → AllByRecursion (λ o. same_place o (entry_after stamp tags e) ≡ false) (map (entry_after stamp tags) xs) → AllByRecursion (λ o. same_place o e ≡ false) xs
  elsewhere_back e [] h = tt
  elsewhere_back e (x ∷ xs) h = (sym (after_both stamp tags x e) ∙ h.0, elsewhere_back e xs h.1)

  apart_back : (xs : List Entry) → AreApart (map (entry_after stamp tags) xs) → AreApart xs
  apart_back [] h = tt
  apart_back (x ∷ xs) h = (elsewhere_back x xs h.0, apart_back xs h.1)

  pub still_apart : (es fs : List Entry) → map (entry_after stamp tags) fs ≡ map (entry_after stamp tags) es → AreApart es → AreApart fs
  still_apart es fs same apart = apart_back fs (subst AreApart (sym same) (after_apart stamp tags es apart))

-- ---- what the index lists of the key

itself : (n : ℕ) → eqb n n ≡ true
itself n = eq-eqb n n refl

unequal : (b : Bool) (m n : ℕ) → b ≡ true → (b && eqb m n) ≡ false → eqb n m ≡ false
unequal b m n own other = eqb_sym n m ∙ sym (ap (λ v. v && eqb m n) own) ∙ other

-- the reach of an entry at another place stays
other_reach : (x : Entry) (o : Entry) (i : Interval) → same_call o.key x.key ≡ true → same_place o x ≡ false → i.lo ≡ x.reach.lo → in_stead i o.reach ≡ o.reach
other_reach x o i own other begins =
    let apart : eqb o.reach.lo x.reach.lo ≡ false = sym (ap (λ b. b && eqb o.reach.lo x.reach.lo) own) ∙ other in
    let apart' : eqb o.reach.lo i.lo ≡ false = ap (eqb o.reach.lo) begins ∙ apart in
    ap (λ b. cond b i o.reach) apart'

other_reaches : (key : Call) (x : Entry) (i : Interval) (es : List Entry) → x.key ≡ key → i.lo ≡ x.reach.lo → AllByRecursion (λ o. same_place o x ≡ false) es → map (in_stead i) (reaches_under key es) ≡ reaches_under key es
other_reaches key x i [] is begins other = refl
other_reaches key x i (o ∷ es) is begins other =
    let rest = other_reaches key x i es is begins other.1 in
    (elim (same_call o.key key) as (λ b. same_call o.key key ≡ b → map (in_stead i) (map (λ (e : Entry). e.reach) (cond b (o ∷ entries_under key es) (entries_under key es))) ≡ map (λ (e : Entry). e.reach) (cond b (o ∷ entries_under key es) (entries_under key es))) [
      | true ↦ λ t. ap (λ y. y ∷ map (in_stead i) (reaches_under key es)) (other_reach x o i (ap (same_call o.key) is ∙ t) other.0 begins) ∙ ap (λ ys. o.reach ∷ ys) rest
      | false ↦ λ t. rest
    ]) refl

module _ (q : Place) (s w : Stored) where
  -- the entries of the other keys stay
  set_other_key : (k : Call) (ps : List (Place × Stored)) → same_call q.key k ≡ false → entries_under k (entries_of (set_value (equal_places q) ps w)) ≡ entries_under k (entries_of ps)
  set_other_key k [] other = refl
  set_other_key k (x ∷ ps) other =
      let rest = set_other_key k ps other in
      (elim (equal_places q x.0) as (λ v. equal_places q x.0 ≡ v → entries_under k (entries_of (cond v ((x.0, w) ∷ ps) (x ∷ set_value (equal_places q) ps w))) ≡ entries_under k (entries_of (x ∷ ps))) [
        | true ↦ λ t.
            let away : same_call x.0.key k ≡ false = ap (λ (p : Place). same_call p.key k) (sym (equal_places_is q x.0 t)) ∙ other in
            under_no k (entry_of (x.0, w)) (entries_of ps) away ∙ sym (under_no k (entry_of x) (entries_of ps) away)
        | false ↦ λ t. ap (λ ys. cond (same_call x.0.key k) (entry_of x ∷ ys) ys) rest
      ]) refl

  set_reaches : (ps : List (Place × Stored)) → ArePlaced ps → AreApart (entries_of ps) → lookup (equal_places q) ps ≡ Some s → w.reach.lo ≡ q.lo
      → reaches_under q.key (entries_of (set_value (equal_places q) ps w)) ≡ map (in_stead w.reach) (reaches_under q.key (entries_of ps))
  set_reaches [] placed apart h begins = refl
  set_reaches (x ∷ ps) placed apart h begins =
      let key = q.key in
      let e = entry_of x in
      (elim (equal_places q x.0) as (λ v. equal_places q x.0 ≡ v → reaches_under key (entries_of (cond v ((x.0, w) ∷ ps) (x ∷ set_value (equal_places q) ps w))) ≡ map (in_stead w.reach) (reaches_under key (entries_of (x ∷ ps)))) [
        | true ↦ λ t.
            let is : q ≡ x.0 = equal_places_is q x.0 t in
            let own : same_call x.0.key key ≡ true = ap (λ (p : Place). same_call p.key key) (sym is) ∙ same_call_itself key in
            let lo : w.reach.lo ≡ x.1.reach.lo = begins ∙ ap (λ (p : Place). p.lo) (is ∙ placed.0) in
            let same : eqb x.1.reach.lo w.reach.lo ≡ true = ap (eqb x.1.reach.lo) lo ∙ itself x.1.reach.lo in
            ap (map (λ (o : Entry). o.reach)) (under_yes key (entry_of (x.0, w)) (entries_of ps) own)
            ∙ ap (λ ys. w.reach ∷ ys) (sym (other_reaches key e w.reach (entries_of ps) (ap (λ (p : Place). p.key) (sym is)) lo apart.0))
            ∙ ap (λ y. y ∷ map (in_stead w.reach) (reaches_under key (entries_of ps))) (sym (ap (λ b. cond b w.reach x.1.reach) same))
            ∙ ap (λ ys. map (in_stead w.reach) (map (λ (o : Entry). o.reach) ys)) (sym (under_yes key e (entries_of ps) own))
        | false ↦ λ t.
            let later : lookup (equal_places q) ps ≡ Some s = sym (ap (λ v. cond v (Some x.1) (lookup (equal_places q) ps)) t) ∙ h in
            let rest = set_reaches ps placed.1 apart.1 later begins in
            (elim (same_call x.0.key key) as (λ b. same_call x.0.key key ≡ b → map (λ (o : Entry). o.reach) (cond b (e ∷ entries_under key (entries_of (set_value (equal_places q) ps w))) (entries_under key (entries_of (set_value (equal_places q) ps w)))) ≡ map (in_stead w.reach) (map (λ (o : Entry). o.reach) (cond b (e ∷ entries_under key (entries_of ps)) (entries_under key (entries_of ps))))) [
              | true ↦ λ own.
                  let is : x.0.key ≡ key = same_call_is x.0.key key own in
                  let apart' : eqb x.0.lo q.lo ≡ false = unequal (same_call q.key x.0.key) q.lo x.0.lo (ap (same_call q.key) is ∙ same_call_itself key) t in
                  let apart'' : eqb x.1.reach.lo w.reach.lo ≡ false = ap (λ n. eqb n w.reach.lo) (sym (ap (λ (p : Place). p.lo) placed.0)) ∙ ap (eqb x.0.lo) begins ∙ apart' in
                  ap (λ ys. x.1.reach ∷ ys) rest ∙ ap (λ y. y ∷ map (in_stead w.reach) (reaches_under key (entries_of ps))) (sym (ap (λ b. cond b w.reach x.1.reach) apart''))
              | false ↦ λ no'. rest
            ]) refl
      ]) refl

-- ---- the event at a place

-- what is stored there begins as the place says
stored_lo : (q : Place) (ps : List (Place × Stored)) (s : Stored) → ArePlaced ps → lookup (equal_places q) ps ≡ Some s → s.reach.lo ≡ q.lo
stored_lo q [] s placed h = let none : None ≡ Some s = h in cc
stored_lo q (x ∷ ps) s placed h = (elim (equal_places q x.0) as (λ v. equal_places q x.0 ≡ v → cond v (Some x.1) (lookup (equal_places q) ps) ≡ Some s → s.reach.lo ≡ q.lo) [
  | true ↦ λ t h.
      let is : Some x.1 ≡ Some s = h in
      let same : x.1 ≡ s = cc in
      ap (λ (u : Stored). u.reach.lo) (sym same) ∙ ap (λ (p : Place). p.lo) (sym (equal_places_is q x.0 t ∙ placed.0))
  | false ↦ λ t h. stored_lo q ps s placed.1 h
]) refl h

set_same : (test : Place → Bool) (ps : List (Place × Stored)) (s : Stored) → lookup test ps ≡ Some s → set_value test ps s ≡ ps
set_same test [] s h = refl
set_same test (x ∷ ps) s h = (elim (test x.0) as (λ v. cond v (Some x.1) (lookup test ps) ≡ Some s → cond v ((x.0, s) ∷ ps) (x ∷ set_value test ps s) ≡ x ∷ ps) [
  | true ↦ λ h. let is : Some x.1 ≡ Some s = h in let same : x.1 ≡ s = cc in ap (λ (u : Stored). (x.0, u) ∷ ps) (sym same)
  | false ↦ λ h. ap (λ ys. x ∷ ys) (set_same test ps s h)
]) h

-- what is found where it was set
set_found : (test : Place → Bool) (ps : List (Place × Stored)) (s w : Stored) → lookup test ps ≡ Some s → lookup test (set_value test ps w) ≡ Some w
set_found test [] s w h = let none : None ≡ Some s = h in cc
set_found test (x ∷ ps) s w h = (elim (test x.0) as (λ v. test x.0 ≡ v → cond v (Some x.1) (lookup test ps) ≡ Some s → lookup test (cond v ((x.0, w) ∷ ps) (x ∷ set_value test ps w)) ≡ Some w) [
  | true ↦ λ t h. ap (λ v. cond v (Some w) (lookup test ps)) t
  | false ↦ λ t h. ap (λ v. cond v (Some x.1) (lookup test (set_value test ps w))) t ∙ set_found test ps s w h
]) refl h

no_entry : (test : Place → Bool) (ps : List (Place × Stored)) (o : Entry) → lookup test ps ≡ None → option_map entry_of (lookup_entry test ps) ≡ Some o → true ≡ false
no_entry test [] o h k = let none : None ≡ Some o = k in cc
no_entry test (x ∷ ps) o h k = (elim (test x.0) as (λ v. cond v (Some x.1) (lookup test ps) ≡ None → option_map entry_of (cond v (Some x) (lookup_entry test ps)) ≡ Some o → true ≡ false) [
  | true ↦ λ h k. let some : Some x.1 ≡ None = h in cc
  | false ↦ λ h k. no_entry test ps o h k
]) h k

abbrev held : List (Place × Stored) → ℕ → HeldEntries
held ps n = record { entries = entries_of ps; capacity = n }

module _ (stamp : ℕ) (tags : List Tag) where
  tied_after : (q : Place) (ps : List (Place × Stored)) (index new : List (Call × List Interval)) (s : Stored) → AreTied ps index → lookup (equal_places q) ps ≡ Some s
      → Relists q.key (map (in_stead (stored_after stamp tags s).reach) (listed index q.key)) index new → AreTied (set_value (equal_places q) ps (stored_after stamp tags s)) new
  tied_after q ps index new s tied h relists =
      let w = stored_after stamp tags s in
      let reaches : reaches_under q.key (entries_of (set_value (equal_places q) ps w)) ≡ map (in_stead w.reach) (listed index q.key) =
      set_reaches q s w ps tied.placed tied.apart h (begins_alike stamp tags s ∙ stored_lo q ps s tied.placed h) ∙ ap (map (in_stead w.reach)) (sym (tied.keys q.key)) in
      record {
        placed = set_placed stamp tags (equal_places q) ps s h tied.placed;
        apart = still_apart stamp tags (entries_of ps) (entries_of (set_value (equal_places q) ps w)) (set_kept stamp tags (equal_places q) ps s h) tied.apart;
        keys = indexes_by q.key index new (entries_of ps) (entries_of (set_value (equal_places q) ps w)) tied.keys (subst (λ (rs : List Interval). Relists q.key rs index new) (sym reaches) relists) (λ k other. set_other_key q s w k ps other);
      }

  closes_here : (q : Place) (ps : List (Place × Stored)) (n : ℕ) (s : Stored) → ArePlaced ps → lookup (equal_places q) ps ≡ Some s
      → Closes stamp tags (held ps n) (held (set_value (equal_places q) ps (stored_after stamp tags s)) n) (cond (is_stale stamp tags s) 1 0)
  closes_here q ps n s placed h = record {
    after = set_kept stamp tags (equal_places q) ps s h;
    capacity = refl;
    count = set_count stamp tags (equal_places q) ps s h;
    spared = set_spared stamp tags q ps s h placed;
  }

  pub closes_none : (h : HeldEntries) → Closes stamp tags h h 0
  closes_none h = record { after = refl; capacity = refl; count = omega arith; spared = λ q k. k }

  -- where nothing is closed, nothing changes
  pub untouched : (q : Place) (ps : List (Place × Stored)) → closed_reach stamp tags (lookup (equal_places q) ps) ≡ None → after_at stamp tags q ps ≡ ps
  untouched q ps h = (elim (lookup (equal_places q) ps) as (λ f. lookup (equal_places q) ps ≡ f → closed_reach stamp tags f ≡ None → option_map_or (λ s. set_value (equal_places q) ps (stored_after stamp tags s)) f ps ≡ ps) [
    | None ↦ λ t h. refl
    | Some s ↦ λ t h.
        (elim (is_stale stamp tags s) as (λ b. cond b (Some (closed_at (stamp - 1) s.reach)) None ≡ None → set_value (equal_places q) ps (cond b (record s { reach = closed_at (stamp - 1) s.reach }) s) ≡ ps) [
          | true ↦ λ h. let some : Some (closed_at (stamp - 1) s.reach) ≡ None = h in cc
          | false ↦ λ h. set_same (equal_places q) ps s t
        ]) h
  ]) refl h

  -- what was closed stood there
  closed_there : (f : Option Stored) (r : Interval) → closed_reach stamp tags f ≡ Some r → (s : Stored) × (f ≡ Some s) × (is_stale stamp tags s ≡ true) × ((stored_after stamp tags s).reach ≡ r)
  closed_there None r h = let none : None ≡ Some r = h in cc
  closed_there (Some s) r h = (elim (is_stale stamp tags s) as (λ b. is_stale stamp tags s ≡ b → cond b (Some (closed_at (stamp - 1) s.reach)) None ≡ Some r → (u : Stored) × (Some s ≡ Some u) × (is_stale stamp tags u ≡ true) × ((stored_after stamp tags u).reach ≡ r)) [
    | true ↦ λ t h.
        let is : Some (closed_at (stamp - 1) s.reach) ≡ Some r = h in
        let same : closed_at (stamp - 1) s.reach ≡ r = cc in
        (s, refl, t, ap (λ b. (cond b (record s { reach = closed_at (stamp - 1) s.reach }) s).reach) t ∙ same)
    | false ↦ λ t h. let none : None ≡ Some r = h in cc
  ]) refl h

  pub tied_at : (q : Place) (ps : List (Place × Stored)) (index new : List (Call × List Interval)) (r : Interval) → AreTied ps index → closed_reach stamp tags (lookup (equal_places q) ps) ≡ Some r
      → Relists q.key (map (in_stead r) (listed index q.key)) index new → AreTied (after_at stamp tags q ps) new
  tied_at q ps index new r tied h relists =
      let s = closed_there (lookup (equal_places q) ps) r h in
      subst (λ f. AreTied (option_map_or (λ u. set_value (equal_places q) ps (stored_after stamp tags u)) f ps) new) (sym s.1)
      (tied_after q ps index new s.0 tied s.1 (subst (λ (i : Interval). Relists q.key (map (in_stead i) (listed index q.key)) index new) (sym s.3) relists))

  pub closes_at : (q : Place) (ps : List (Place × Stored)) (n : ℕ) (r : Interval) → ArePlaced ps → closed_reach stamp tags (lookup (equal_places q) ps) ≡ Some r → Closes stamp tags (held ps n) (held (after_at stamp tags q ps) n) 1
  closes_at q ps n r placed h =
      let s = closed_there (lookup (equal_places q) ps) r h in
      subst (λ f. Closes stamp tags (held ps n) (held (option_map_or (λ u. set_value (equal_places q) ps (stored_after stamp tags u)) f ps) n) 1) (sym s.1)
      (subst (λ b. Closes stamp tags (held ps n) (held (set_value (equal_places q) ps (stored_after stamp tags s.0)) n) (cond b 1 0)) s.2 (closes_here q ps n s.0 placed s.1))

  -- it invalidates nothing there any more
  pub spared_at : (q : Place) (ps : List (Place × Stored)) → ArePlaced ps → IsSpared stamp tags (entries_of (after_at stamp tags q ps)) q
  spared_at q ps placed = (elim (lookup (equal_places q) ps) as (λ f. lookup (equal_places q) ps ≡ f → IsSpared stamp tags (entries_of (option_map_or (λ s. set_value (equal_places q) ps (stored_after stamp tags s)) f ps)) q) [
    | None ↦ λ t o k. absurd (false≢true (sym (no_entry (equal_places q) ps o t (sym (found_pair q ps placed) ∙ k))))
    | Some s ↦ λ t o k. set_here stamp tags q ps s o t (sym (found_pair q (set_value (equal_places q) ps (stored_after stamp tags s)) (set_placed stamp tags (equal_places q) ps s t placed)) ∙ k)
  ]) refl

  -- what is still valid there
  pub live_after : (q : Place) (ps : List (Place × Stored)) → ArePlaced ps → stays_live stamp tags (lookup (equal_places q) ps) ≡ is_live (entries_of (after_at stamp tags q ps)) q
  live_after q ps placed = (elim (lookup (equal_places q) ps) as (λ f. lookup (equal_places q) ps ≡ f → stays_live stamp tags f ≡ is_live (entries_of (option_map_or (λ s. set_value (equal_places q) ps (stored_after stamp tags s)) f ps)) q) [
    | None ↦ λ t. live_stored (entries_of ps) q None (sym t ∙ stored_at q ps placed)
    | Some s ↦ λ t.
        let w = stored_after stamp tags s in
        let new = set_value (equal_places q) ps w in
        live_stored (entries_of new) q (Some w) (sym (set_found (equal_places q) ps s w t) ∙ stored_at q new (set_placed stamp tags (equal_places q) ps s t placed))
  ]) refl

  pub closes_more : (a b c : HeldEntries) (m n : ℕ) → Closes stamp tags a b m → Closes stamp tags b c n → Closes stamp tags a c (m + n)
  closes_more a b c m n h k = record {
    after = k.after ∙ h.after;
    capacity = k.capacity ∙ h.capacity;
    count = omega (arith, h.count, k.count);
    spared = λ q s. k.spared q (h.spared q s);
  }

pub all_from_places : {X : Type 0} (P : X → Type 0) (xs : List X) → ((k : ℕ) → k < length xs → (d : X) → P (get_or xs k d)) → AllByRecursion P xs
all_from_places P [] h = tt
all_from_places P (x ∷ xs) h = (h 0 (omega arith) x, all_from_places P xs (λ k l d. h (suc k) (omega arith) d))

-- what holds of all places holds of one that is among them
pub among : (P : Place → Type 0) (places : List Place) (q : Place) → AllByRecursion P places → has_place places q ≡ true → P q
among P [] q h is = absurd (false≢true is)
among P (x ∷ xs) q h is = (elim (equal_places q x) as (λ b. equal_places q x ≡ b → (b || has_place xs q) ≡ true → P q) [
  | true ↦ λ t is. subst P (sym (equal_places_is q x t)) h.0
  | false ↦ λ t is. among P xs q h.1 is
]) refl is

pub all_stay : (stamp : ℕ) (tags : List Tag) (old new : List Entry) (places : List Place) → ((q : Place) → IsSpared stamp tags old q → IsSpared stamp tags new q) → AllByRecursion (IsSpared stamp tags old) places → AllByRecursion (IsSpared stamp tags new) places
all_stay stamp tags old new [] stay h = tt
all_stay stamp tags old new (q ∷ places) stay h = (stay q h.0, all_stay stamp tags old new places stay h.1)

-- where a table lists what it finds
lookup_index : (test : Rows → Bool) (bs : List (Rows × List Place)) (b : List Place) → lookup test bs ≡ Some b → (k : ℕ) × (k < length bs) × (r : Rows) × (slice_get bs k ≡ Some (r, b))
lookup_index test [] b h = let none : None ≡ Some b = h in cc
lookup_index test (x ∷ bs) b h = (elim (test x.0) as (λ v. cond v (Some x.1) (lookup test bs) ≡ Some b → (k : ℕ) × (k < length (x ∷ bs)) × (r : Rows) × (slice_get (x ∷ bs) k ≡ Some (r, b))) [
  | true ↦ λ h. let is : Some x.1 ≡ Some b = h in let same : x.1 ≡ b = cc in (0, omega arith, x.0, ap (λ (y : List Place). Some (x.0, y)) same)
  | false ↦ λ h. let k = lookup_index test bs b h in (suc k.0, omega (arith, k.1), k.2, k.3)
]) h

pub table_spared : (stamp : ℕ) (tags : List Tag) (ps : List Entry) (bs : List (Rows × List Place)) (r : Rows) (q : Place) → ((k : ℕ) → k < length bs → AreSparedAt stamp tags ps bs k) → lists_rows bs r q ≡ true → IsSpared stamp tags ps q
table_spared stamp tags ps bs r q h l = (elim (lookup (equal_rows r) bs) as (λ f. lookup (equal_rows r) bs ≡ f → has_place (unwrap_or f []) q ≡ true → IsSpared stamp tags ps q) [
  | None ↦ λ t l. absurd (false≢true l)
  | Some b ↦ λ t l. let k = lookup_index (equal_rows r) bs b t in among (IsSpared stamp tags ps) b q (h k.0 k.1 (k.2, b) k.3) l
]) refl l
