-- The steps of the cache in the words of their rules.
use Rattle.std.proofs.Common.{◌≡◌, ℕ, ◌+◌, ◌-◌, ◌<◌, ◌≤◌, Bool, true, false, not, ◌&&◌, leb, cond, max, suc, zero, List, [], ◌∷◌, ◌++◌, length, get_or, take, map, Option, Some, None, refl, subst, sym, ap, ◌∙◌, arith, Decides, All, Contains, length-append, length-drop, min}
use Rattle.std.specs.List.{find, list_all, remove}
use Rattle.std.proofs.lemmas.Bool.{false≢true}
use Rattle.std.proofs.lemmas.Bool.Decides.{nat_tests, Decides-eqb, Decides-ltb, Decides-like, Decides-not, Decides-and, Decides-or, Decides-by_and}
use Rattle.std.proofs.lemmas.List.{get_or_default, length-map}
use Rattle.std.proofs.lemmas.List.Edits.{length-remove}
use Rattle.txc_stamp.specs.Interval.{Interval, end_at, closed_at}
use Rattle.txc_tags.specs.declared.tag.Tag.{Tag}
use Rattle.txc_tags.specs.Tags.{sets_match}
use Rattle.txc_tags.specs.Keys.{Call}
use Rattle.txc_tags.proofs.Offered.{same_call_iff}
use Rattle.txc_node.specs.declared.entry.Entry.{Entry}
use Rattle.txc_node.specs.Entries.{same_place, meets_range, outlasts, is_best, others, AreApart}
use Rattle.txc_node.specs.Best.{BestSoFar}
use Rattle.txc_node.specs.Cache.{Cache, IsBounded, IsCache, found, after_use, after_lookup, is_kept, replayed_reach, entries_with, after_insert, is_invalidated, entry_after, after_event}
use Rattle.txc_node.specs.Laws.{MeetsRange, LastsLonger, FindsTheLongest, MissesOnlyWhereNone, MeetsAtAStamp, ShowsNothingBeyond, IsHitBy, ClosesOnlyIfHit, EachPlace, ClosesExactlyTheHit, HasOneForEach, InsertsWithinBounds, StepsKeepCaches}
use Rattle.txc_node.proofs.Best.{best_none, best_skips, best_begins, best_keeps, best_takes, best_end, read_test, read_tests}
use Rattle.txc_node.proofs.Apart.{recursion_at, remove_is_others, first_apart, after_apart}
use Rattle.txc_node.proofs.Inserts.{cut_apart, replay_lo}
use Rattle.txc_node.proofs.Swept.{bounded_of, cache_of, sweep_keeps}
use Rattle.txc_node.proofs.Trims.{trim_keeps}

-- ---- tests and what they mean

pub Decides-leb : (a b : ℕ) → Decides (leb a b) (a ≤ b)
Decides-leb a b = (λ h. grind (arith, nat_tests), λ h. grind (arith, nat_tests))

pub Decides-meets_range : (p : ℕ) (key : Call) (lo hi : ℕ) (e : Entry) → Decides (meets_range p key lo hi e) (MeetsRange p key lo hi e)
Decides-meets_range p key lo hi e =
    Decides-like (meets_range p key lo hi e) (λ (h : (e.key ≡ key) × ((e.reach.lo ≤ hi) × (lo < end_at p e.reach))). record { of_key = h.0; begins = h.1.0; ends = h.1.1 })
    (λ (h : MeetsRange p key lo hi e). (h.of_key, (h.begins, h.ends)))
    (Decides-and _ _ (same_call_iff e.key key) (Decides-and _ _ (Decides-leb e.reach.lo hi) (Decides-ltb lo (end_at p e.reach))))

pub Decides-outlasts : (p : ℕ) (a b : Entry) → Decides (outlasts p a b) (LastsLonger p a b)
Decides-outlasts p a b =
    Decides-or _ _ (Decides-ltb (end_at p b.reach) (end_at p a.reach)) (Decides-and _ _ (Decides-eqb (end_at p b.reach) (end_at p a.reach)) (Decides-ltb b.reach.lo a.reach.lo))

abbrev OutlastedByNone : ℕ → Call → ℕ → ℕ → List Entry → Entry → Type 0
OutlastedByNone p key lo hi es e = All (λ o. ¬ (MeetsRange p key lo hi o × LastsLonger p o e)) es

pub Decides-is_best : (p : ℕ) (key : Call) (lo hi : ℕ) (es : List Entry) (e : Entry) → Decides (is_best p key lo hi es e) (MeetsRange p key lo hi e × OutlastedByNone p key lo hi es e)
Decides-is_best p key lo hi es e =
    let test : Entry → Bool = λ o. not (meets_range p key lo hi o && outlasts p o e) in
    let each : (o : Entry) → Decides (test o) (¬ (MeetsRange p key lo hi o × LastsLonger p o e)) = λ o. Decides-not _ (Decides-and _ _ (Decides-meets_range p key lo hi o) (Decides-outlasts p o e)) in
    Decides-and _ _ (Decides-meets_range p key lo hi e) (Decides-by_and test (λ o. ¬ (MeetsRange p key lo hi o × LastsLonger p o e)) (list_all test) each refl (λ _ _. refl) es)

-- ---- lookup

pub find_passes : (p : Entry → Bool) (es : List Entry) (e : Entry) → find p es ≡ Some e → (p e ≡ true) × Contains es e
find_passes p [] e h = cc
find_passes p (x ∷ xs) e h =
    let go : (b : Bool) → p x ≡ b → cond b (Some x) (find p xs) ≡ Some e → (p e ≡ true) × Contains (x ∷ xs) e = λ b. elim b as (λ v. p x ≡ v → cond v (Some x) (find p xs) ≡ Some e → (p e ≡ true) × Contains (x ∷ xs) e) [
      | true ↦ (λ t k. let same : x ≡ e = cc in (subst (λ (y : Entry). p y ≡ true) same t, (0, omega arith, same)))
      | false ↦ (λ _ k. let r = find_passes p xs e k in (r.0, (suc r.1.0, omega (arith, r.1.1), r.1.2)))
    ] in
    go (p x) refl h

pub finds_the_longest : FindsTheLongest
finds_the_longest c key lo hi e h =
    let k = find_passes (is_best c.processed key lo hi c.entries) c.entries e h in
    let m = (Decides-is_best c.processed key lo hi c.entries e).0 k.0 in
    record { stands = k.1; meets = m.0; longest = m.1 }

some_entry : (es : List Entry) (i : ℕ) → i < length es → Entry
some_entry [] i l = absurd (omega arith)
some_entry (e ∷ es) i l = e

-- the walk of a lookup ends somewhere
walk_ends : (p : ℕ) (key : Call) (lo hi : ℕ) (es : List Entry) (n : ℕ) → n ≤ length es → (o : Option ℕ) × BestSoFar p key lo hi es n o
walk_ends p key lo hi es zero l = (None, best_none p key lo hi es)
walk_ends p key lo hi es (suc n) l =
    let below : n < length es = omega arith in
    let e = some_entry es n below in
    let x = get_or es n e in
    let at : x ≡ get_or es n x = get_or_default es n e x below in
    let so_far = walk_ends p key lo hi es n (omega arith) in
    let Ends : ℕ → Type 0 = λ m. (o : Option ℕ) × BestSoFar p key lo hi es m o in
    let turn : (o : Option ℕ) → BestSoFar p key lo hi es n o → (b : Bool) → meets_range p key lo hi x ≡ b → Ends (n + 1) = λ o. elim o as (λ v. BestSoFar p key lo hi es n v → (b : Bool) → meets_range p key lo hi x ≡ b → Ends (n + 1)) [
      | None ↦ (λ h b. elim b as (λ v. meets_range p key lo hi x ≡ v → Ends (n + 1)) [
        | true ↦ (λ t. (Some n, best_begins p key lo hi es n h (read_test (meets_range p key lo hi) es n x true below at t)))
        | false ↦ (λ t. (None, best_skips p key lo hi es n None h (read_test (meets_range p key lo hi) es n x false below at t)))
      ])
      | Some i ↦ (λ h b. elim b as (λ v. meets_range p key lo hi x ≡ v → Ends (n + 1)) [
        | true ↦ (λ t.
            let y = get_or es i e in
            let by : y ≡ get_or es i y = get_or_default es i e y (omega (arith, h.below)) in
            let fits = read_test (meets_range p key lo hi) es n x true below at t in
            let over : (b : Bool) → outlasts p x y ≡ b → Ends (n + 1) = λ b. elim b as (λ v. outlasts p x y ≡ v → Ends (n + 1)) [
              | true ↦ (λ u. (Some n, best_takes p key lo hi es n i h fits (read_tests (outlasts p) es n i x y true below (omega (arith, h.below)) at by u)))
              | false ↦ (λ u. (Some i, best_keeps p key lo hi es n i h (read_tests (outlasts p) es n i x y false below (omega (arith, h.below)) at by u)))
            ] in
            over (outlasts p x y) refl)
        | false ↦ (λ t. (Some i, best_skips p key lo hi es n (Some i) h (read_test (meets_range p key lo hi) es n x false below at t)))
      ])
    ] in
    subst Ends (omega arith) (turn so_far.0 so_far.1 (meets_range p key lo hi x) refl)

pub misses_only_where_none : MissesOnlyWhereNone
misses_only_where_none c key lo hi h =
    let es = c.entries in
    let p = c.processed in
    let w = walk_ends p key lo hi es (length es) (omega arith) in
    let None_meets : Type 0 = All (λ o. ¬ (MeetsRange p key lo hi o)) es in
    let go : (o : Option ℕ) → BestSoFar p key lo hi es (length es) o → None_meets = λ o. elim o as (λ v. BestSoFar p key lo hi es (length es) v → None_meets) [
      | None ↦ (λ k i d l m. absurd (false≢true (sym (k i l d) ∙ (Decides-meets_range p key lo hi (get_or es i d)).1 m)))
      | Some b ↦ (λ k.
          let e = some_entry es b k.below in
          let f : found c key lo hi ≡ Some (get_or es b e) = (best_end p key lo hi es (length es) (Some b) refl k).1 e in
          let no : None ≡ Some (get_or es b e) = sym h ∙ f in
          cc)
    ] in
    go w.0 w.1

known_in_span : (p : ℕ) (i : Interval) → i.known < end_at p i
known_in_span p i =
    let go : (b : Bool) → i.known < cond b (max i.known p) i.known + 1 = λ b. elim b as (λ v. i.known < cond v (max i.known p) i.known + 1) [ true ↦ omega arith | false ↦ omega arith ] in
    go i.still

pub meets_at_a_stamp : MeetsAtAStamp
meets_at_a_stamp p lo hi e l k =
    let in_span = known_in_span p e.reach in (
      (λ m. let begins = m.begins in let ends = m.ends in (max lo e.reach.lo, omega arith, omega arith, (omega arith, omega arith))),
      (λ w. let spans = w.3 in record { of_key = refl; begins = omega (arith, w.2, spans.0); ends = omega (arith, w.1, spans.1) }),
    )

pub shows_nothing_beyond : ShowsNothingBeyond
shows_nothing_beyond p e =
    let go : (b : Bool) → cond b (max e.reach.known p) e.reach.known + 1 - 1 ≤ max e.reach.known p = λ b. elim b as (λ v. cond v (max e.reach.known p) e.reach.known + 1 - 1 ≤ max e.reach.known p) [ true ↦ omega arith | false ↦ omega arith ] in
    go e.reach.still

-- ---- event

Decides-is_invalidated : (stamp : ℕ) (tags : List Tag) (e : Entry) → Decides (is_invalidated stamp tags e) (IsHitBy stamp tags e)
Decides-is_invalidated stamp tags e =
    Decides-like (is_invalidated stamp tags e) (λ (h : (e.reach.still ≡ true) × ((e.reach.known < stamp) × (sets_match tags e.tags ≡ true))). record { still = h.0; below = h.1.0; matching = h.1.1 })
    (λ (h : IsHitBy stamp tags e). (h.still, (h.below, h.matching)))
    (Decides-and _ _ (λ h. h, λ h. h) (Decides-and _ _ (Decides-ltb e.reach.known stamp) (λ h. h, λ h. h)))

closes_one : (stamp : ℕ) (tags : List Tag) (e : Entry) → ClosesOnlyIfHit stamp tags e (entry_after stamp tags e)
closes_one stamp tags e =
    let hit = Decides-is_invalidated stamp tags e in
    let closed : Entry = record e { reach = closed_at (stamp - 1) e.reach } in
    let go : (b : Bool) → is_invalidated stamp tags e ≡ b → ClosesOnlyIfHit stamp tags e (cond b closed e) = λ b. elim b as (λ v. is_invalidated stamp tags e ≡ v → ClosesOnlyIfHit stamp tags e (cond v closed e)) [
      | true ↦ (λ t. record { closed = λ _. refl; same = λ no. absurd (no (hit.0 t)) })
      | false ↦ (λ t. record { closed = λ h. absurd (false≢true (sym t ∙ hit.1 h)); same = λ _. refl })
    ] in
    go (is_invalidated stamp tags e) refl

closes_each : (stamp : ℕ) (tags : List Tag) (es : List Entry) → EachPlace (ClosesOnlyIfHit stamp tags) es (map (entry_after stamp tags) es)
closes_each stamp tags [] = tt
closes_each stamp tags (e ∷ es) = (closes_one stamp tags e, closes_each stamp tags es)

pub closes_exactly_the_hit : ClosesExactlyTheHit
closes_exactly_the_hit c stamp tags = closes_each stamp tags c.entries

-- ---- insertion, and all steps

take_within : (n : ℕ) (es : List Entry) → length (take n es) ≤ n
take_within zero es = omega arith
take_within (suc n) [] = omega arith
take_within (suc n) (e ∷ es) = omega (arith, take_within n es)

-- an insertion leaves the capacity as it is
within_same : (c : Cache) (e : Entry) → length (after_insert c e).entries ≤ (after_insert c e).capacity → length (after_insert c e).entries ≤ c.capacity
within_same c e =
    let new : Cache = record c { entries = take c.capacity (entries_with c e) } in
    let go : (b : Bool) → length (cond b c new).entries ≤ (cond b c new).capacity → length (cond b c new).entries ≤ c.capacity = λ b. elim b as (λ v. length (cond v c new).entries ≤ (cond v c new).capacity → length (cond v c new).entries ≤ c.capacity) [ true ↦ (λ h. h) | false ↦ (λ h. h) ] in
    go (is_kept c e)

others_fewer : (es : List Entry) (e : Entry) → AreApart es → Contains es e → length (others e es) + 1 ≡ length es
others_fewer es e h at =
    let same : remove es at.0 ≡ others e es = remove_is_others es at.0 e at.1 h ∙ ap (λ x. others x es) at.2 in
    omega (arith, ap length same, length-remove es at.0 at.1)

use_bounded : (c : Cache) (o : Option Entry) → ((e : Entry) → o ≡ Some e → Contains c.entries e) → IsBounded c → IsBounded (after_use c o)
use_bounded c None at h = h
use_bounded c (Some e) at h = record {
  apart = first_apart e c.entries h.apart;
  within = omega (arith, others_fewer c.entries e h.apart (at e refl), h.within);
  deep = h.deep;
  some = h.some;
  any = h.any;
}

use_recent : (c : Cache) (o : Option Entry) → length c.recent ≡ min c.depth c.processed → length (after_use c o).recent ≡ min (after_use c o).depth (after_use c o).processed
use_recent c None kept = kept
use_recent c (Some e) kept = kept

pub lookup_bounded : (c : Cache) (key : Call) (lo hi : ℕ) → IsBounded c → IsBounded (after_lookup c key lo hi)
lookup_bounded c key lo hi h = use_bounded c (found c key lo hi) (λ e k. (finds_the_longest c key lo hi e k).stands) h

pub lookup_keeps : (c : Cache) (key : Call) (lo hi : ℕ) → IsCache c → IsCache (after_lookup c key lo hi)
lookup_keeps c key lo hi h = cache_of (after_lookup c key lo hi) (lookup_bounded c key lo hi (bounded_of c h)) (use_recent c (found c key lo hi) h.kept)

pub insert_bounded : (c : Cache) (e : Entry) → IsBounded c → IsBounded (after_insert c e)
insert_bounded c e h =
    let new : Cache = record c { entries = take c.capacity (entries_with c e) } in
    let stored : IsBounded new = record {
      apart = cut_apart c.capacity e (replayed_reach c e) c.entries (replay_lo e.reach e.tags c.processed c.recent) h.apart;
      within = take_within c.capacity (entries_with c e);
      deep = h.deep;
      some = h.some;
      any = h.any;
    } in
    let go : (b : Bool) → IsBounded (cond b c new) = λ b. elim b as (λ v. IsBounded (cond v c new)) [ true ↦ h | false ↦ stored ] in
    go (is_kept c e)

pub insert_keeps : (c : Cache) (e : Entry) → IsCache c → IsCache (after_insert c e)
insert_keeps c e h =
    let new : Cache = record c { entries = take c.capacity (entries_with c e) } in
    let go : (b : Bool) → length (cond b c new).recent ≡ min (cond b c new).depth (cond b c new).processed = λ b. elim b as (λ v. length (cond v c new).recent ≡ min (cond v c new).depth (cond v c new).processed) [ true ↦ h.kept | false ↦ h.kept ] in
    cache_of (after_insert c e) (insert_bounded c e (bounded_of c h)) (go (is_kept c e))

pub event_bounded : (c : Cache) (tags : List Tag) (stamp : ℕ) → IsBounded c → IsBounded (after_event c stamp tags)
event_bounded c tags stamp h =
    let all = c.recent ++ tags ∷ [] in
    record {
      apart = after_apart stamp tags c.entries h.apart;
      within = omega (arith, length-map c.entries (entry_after stamp tags), h.within);
      deep = omega (arith, length-drop (length all - c.depth) all);
      some = h.some;
      any = h.any;
    }

pub event_keeps : (c : Cache) (tags : List Tag) → IsCache c → IsCache (after_event c (c.processed + 1) tags)
event_keeps c tags h =
    let all = c.recent ++ tags ∷ [] in
    let kept : length (after_event c (c.processed + 1) tags).recent ≡ min c.depth (c.processed + 1) = omega (arith, length-drop (length all - c.depth) all, length-append c.recent (tags ∷ []), h.kept) in
    cache_of (after_event c (c.processed + 1) tags) (event_bounded c tags (c.processed + 1) (bounded_of c h)) kept

pub steps_keep_caches : StepsKeepCaches
steps_keep_caches = record {
  empty = λ capacity depth some any. record { apart = tt; within = omega arith; kept = omega arith; some = some; any = any };
  lookup = lookup_keeps;
  insert = insert_keeps;
  event = event_keeps;
  sweep = sweep_keeps;
  trim = trim_keeps;
}

one_for_each : (es : List Entry) → AreApart es → HasOneForEach es
one_for_each [] h i j d l k = absurd (omega arith)
one_for_each (e ∷ es) h zero zero d l k = absurd (omega arith)
one_for_each (e ∷ es) h zero (suc j) d l k = λ same.
    let o = get_or es j d in
    let no : same_place o e ≡ false = recursion_at (λ o. same_place o e ≡ false) es j d (omega arith) h.0 in
    let yes : same_place o e ≡ true = (Decides-and _ _ (same_call_iff o.key e.key) (Decides-eqb o.reach.lo e.reach.lo)).1 (sym same.0, sym same.1) in
    false≢true (sym no ∙ yes)
one_for_each (e ∷ es) h (suc i) zero d l k = absurd (omega arith)
one_for_each (e ∷ es) h (suc i) (suc j) d l k = one_for_each es h.1 i j d (omega arith) (omega arith)

pub inserts_within_bounds : InsertsWithinBounds
inserts_within_bounds c e h =
    let after = insert_keeps c e h in
    record { one_for_each = one_for_each (after_insert c e).entries after.apart; within = within_same c e after.within }
