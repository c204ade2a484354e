-- What a node shows of its entries stays true.
use Rattle.std.proofs.Common.{◌≡◌, inl, inr, ℕ, zero, suc, ◌+◌, ◌-◌, ◌<◌, ◌≤◌, List, [], ◌∷◌, length, drop, Bool, true, false, true≢false, cond, nat_lt, max, ◌&&◌, refl, sym, ap, subst, ◌∙◌, arith}
use Rattle.std.proofs.lemmas.Bool.Decides.{nat_tests}
use Rattle.std.proofs.lemmas.Bool.{ltb-true, ltb-false, cases_lt}
use Rattle.txc_stamp.specs.Interval.{Interval, closed_at}
use Rattle.txc_tags.specs.declared.tag.Tag.{Tag}
use Rattle.txc_tags.specs.Tags.{sets_match}
use Rattle.txc_db.specs.History.{History, state_at, tags_at}
use Rattle.txc_node.specs.declared.entry.Entry.{Entry}
use Rattle.txc_node.specs.Cache.{is_invalidated, entry_after, last_of, reach_after_replay, replayed_entry}
use Rattle.txc_node.specs.Laws.{after_events, ReplaysAsIfItHadBeenThere, TrustsNoLostEvent}
use Rattle.txc_app.specs.Eval.{Next, Evaluation, evaluation}
use Rattle.txc_app.specs.Claims.{covers_all, IsTrueIn}
use Rattle.txc_app.specs.Laws.{EventLeaves}
use Rattle.txc_shared.specs.Runs.{shown_entry, IsShownTrue, AreTagsAfter}
use Rattle.txc_shared.specs.Laws.{TrueAfterEvent, TrueAfterReplay}

-- ---- reaches

-- the entry with another end
abbrev pub ending : Entry → ℕ → Bool → Entry
ending e known still = record e { reach = record { lo = e.reach.lo; known = known; still = still } }

by_parts : (e : Entry) (k m : ℕ) (s u : Bool) → k ≡ m → s ≡ u → ending e k s ≡ ending e m u
by_parts e k m s u a b = λ i. ending e (a i) (b i)

shown_still : (p : ℕ) (e : Entry) → e.reach.still ≡ true → shown_entry p e ≡ ending e (max e.reach.known p) true
shown_still p e is =
    by_parts e (cond e.reach.still (max e.reach.known p) e.reach.known + 1 - 1) (max e.reach.known p) e.reach.still true (rw is (omega arith)) is

shown_closed : (p : ℕ) (e : Entry) → e.reach.still ≡ false → shown_entry p e ≡ e
shown_closed p e is =
    by_parts e (cond e.reach.still (max e.reach.known p) e.reach.known + 1 - 1) e.reach.known e.reach.still e.reach.still (rw is (omega arith)) refl

-- a still valid entry that the next event does not match is true up to that event
true_with_event : EventLeaves → (next : Next) (L : History) (e : Entry) (k : ℕ) → IsTrueIn next L (ending e k true) → e.reach.lo ≤ k
    → suc k ≤ length L → sets_match (tags_at L (suc k)) e.tags ≡ false
    → IsTrueIn next L (ending e (suc k) true)
true_with_event law next L e k h some short apart =
    let same : evaluation next e.key (state_at L k) ≡ evaluation next e.key (state_at L (suc k)) =
    law next e.key L k e.tags (h.covered refl k (some, omega arith)) apart in
    let last : (t : ℕ) → k < t → t ≤ suc k → t ≡ suc k = λ t past upto. omega arith in
    record {
      within = short;
      holds = λ t inside. elim (cases_lt k t) [
        | inl past ↦ rw (last t past inside.1) (ap (λ (o : Evaluation). o.value) (sym same) ∙ h.holds k (some, omega arith))
        | inr before ↦ h.holds t (inside.0, before)
      ];
      covered = λ s t inside. elim (cases_lt k t) [
        | inl past ↦ rw (last t past inside.1) (ap (λ (o : Evaluation). covers_all e.tags o.met) (sym same) ∙ h.covered s k (some, omega arith))
        | inr before ↦ h.covered s t (inside.0, before)
      ];
    }

-- what is true while still valid is true closed
true_closed : (next : Next) (L : History) (e : Entry) (k : ℕ) (s : Bool) → IsTrueIn next L (ending e k s) → IsTrueIn next L (ending e k false)
true_closed next L e k s h = record { within = h.within; holds = h.holds; covered = λ no. absurd (true≢false (sym no)) }

-- ---- an event

max_left : (a b : ℕ) → b ≤ a → max a b ≡ a
max_left a b h = omega arith

max_right : (a b : ℕ) → a ≤ b → max a b ≡ b
max_right a b h = omega arith

lt_is : (a b : ℕ) → nat_lt a (suc b) ≡ true → a ≤ b
lt_is a b h = grind (arith, nat_tests)

lt_off : (a b : ℕ) → nat_lt a (suc b) ≡ false → suc b ≤ a
lt_off a b h = grind (arith, nat_tests)

-- an event that does not hit an entry leaves it
no_hit : (stamp : ℕ) (tags : List Tag) (e : Entry) → is_invalidated stamp tags e ≡ false → entry_after stamp tags e ≡ e
no_hit stamp tags e h = ap (λ (b : Bool). cond b (record e { reach = closed_at (stamp - 1) e.reach }) e) h

hit_is : (stamp : ℕ) (tags : List Tag) (e : Entry) (s l m : Bool)
    → e.reach.still ≡ s → nat_lt e.reach.known stamp ≡ l → sets_match tags e.tags ≡ m → is_invalidated stamp tags e ≡ s && (l && m)
hit_is stamp tags e s l m a b d = λ i. a i && (b i && d i)

-- an event that hits an entry closes it just below
one_hit : (stamp p : ℕ) (tags : List Tag) (e : Entry) → stamp - 1 ≡ p → is_invalidated stamp tags e ≡ true → entry_after stamp tags e ≡ ending e p false
one_hit stamp p tags e is h =
    ap (λ (b : Bool). cond b (record e { reach = closed_at (stamp - 1) e.reach }) e) h ∙ ap (λ (k : ℕ). ending e k false) is

-- by what a hit shows of it
still_shown : (next : Next) (L : History) (p : ℕ) (e : Entry) → e.reach.still ≡ true → e.reach.lo ≤ e.reach.known
    → IsTrueIn next L (ending e (max e.reach.known p) true) → IsShownTrue next L p e
still_shown next L p e is some h = record { some = some; true_as_shown = subst (IsTrueIn next L) (sym (shown_still p e is)) h }

closed_shown : (next : Next) (L : History) (p : ℕ) (e : Entry) (k : ℕ) → e.reach.lo ≤ k → IsTrueIn next L (ending e k false) → IsShownTrue next L p (ending e k false)
closed_shown next L p e k some h = record { some = some; true_as_shown = subst (IsTrueIn next L) (sym (shown_closed p (ending e k false) refl)) h }

pub true_after_event : EventLeaves → TrueAfterEvent
true_after_event law next L p e h long = go e.reach.still refl (nat_lt e.reach.known (suc p)) refl (sets_match (tags_at L (suc p)) e.tags) refl
  where
    go : (s : Bool) → e.reach.still ≡ s → (l : Bool) → nat_lt e.reach.known (suc p) ≡ l → (m : Bool) → sets_match (tags_at L (suc p)) e.tags ≡ m
        → IsShownTrue next L (suc p) (entry_after (suc p) (tags_at L (suc p)) e)
    go false is l low m hit =
        subst (IsShownTrue next L (suc p)) (sym (no_hit (suc p) (tags_at L (suc p)) e (hit_is (suc p) (tags_at L (suc p)) e false l m is low hit)))
        (record { some = h.some; true_as_shown = subst (IsTrueIn next L) (shown_closed p e is ∙ sym (shown_closed (suc p) e is)) h.true_as_shown })
    go true is false low m hit =
        let above = lt_off e.reach.known p low in
        let it : IsTrueIn next L (ending e (max e.reach.known p) true) = subst (IsTrueIn next L) (shown_still p e is) h.true_as_shown in
        subst (IsShownTrue next L (suc p)) (sym (no_hit (suc p) (tags_at L (suc p)) e (hit_is (suc p) (tags_at L (suc p)) e true false m is low hit)))
        (still_shown next L (suc p) e is h.some (subst (λ (k : ℕ). IsTrueIn next L (ending e k true)) (max_left e.reach.known p (omega arith) ∙ sym (max_left e.reach.known (suc p) above)) it))
    go true is true low true hit =
        let within = lt_is e.reach.known p low in
        let it : IsTrueIn next L (ending e (max e.reach.known p) true) = subst (IsTrueIn next L) (shown_still p e is) h.true_as_shown in
        let at : IsTrueIn next L (ending e p true) = subst (λ (k : ℕ). IsTrueIn next L (ending e k true)) (max_right e.reach.known p within) it in
        subst (IsShownTrue next L (suc p)) (sym (one_hit (suc p) p (tags_at L (suc p)) e (omega arith) (hit_is (suc p) (tags_at L (suc p)) e true true true is low hit)))
        (closed_shown next L (suc p) e p (let s = h.some in omega (arith, s, within)) (true_closed next L e p true at))
    go true is true low false hit =
        let within = lt_is e.reach.known p low in
        let it : IsTrueIn next L (ending e (max e.reach.known p) true) = subst (IsTrueIn next L) (shown_still p e is) h.true_as_shown in
        let at : IsTrueIn next L (ending e p true) = subst (λ (k : ℕ). IsTrueIn next L (ending e k true)) (max_right e.reach.known p within) it in
        let on = true_with_event law next L e p at (let s = h.some in omega (arith, s, within)) long hit in
        subst (IsShownTrue next L (suc p)) (sym (no_hit (suc p) (tags_at L (suc p)) e (hit_is (suc p) (tags_at L (suc p)) e true true false is low hit)))
        (still_shown next L (suc p) e is h.some (subst (λ (k : ℕ). IsTrueIn next L (ending e k true)) (sym (max_right e.reach.known (suc p) (omega arith))) on))

-- ---- the replay at an insertion

pub drop_tags : (L : History) (n s : ℕ) (Ts : List (List Tag)) → n ≤ length Ts → AreTagsAfter L s Ts → AreTagsAfter L (s + n) (drop n Ts)
drop_tags L zero s Ts few h = subst (λ (k : ℕ). AreTagsAfter L k Ts) (let e : s ≡ s + 0 = omega arith in e) h
drop_tags L (suc n) s [] few h = absurd (omega arith)
drop_tags L (suc n) s (T ∷ Ts) few h =
    subst (λ (k : ℕ). AreTagsAfter L k (drop n Ts)) (let e : suc s + n ≡ s + suc n = omega arith in e) (drop_tags L n (suc s) Ts (omega arith) h.1)

pub drop_length : (n : ℕ) (Ts : List (List Tag)) → n ≤ length Ts → length (drop n Ts) ≡ length Ts - n
drop_length zero Ts few = let e : length Ts ≡ length Ts - 0 = omega arith in e
drop_length (suc n) [] few = absurd (omega arith)
drop_length (suc n) (T ∷ Ts) few = drop_length n Ts (omega arith) ∙ (let e : length Ts - n ≡ length (T ∷ Ts) - suc n = omega arith in e)

replayed : EventLeaves → (next : Next) (L : History) (q stamp : ℕ) (Ts : List (List Tag)) (e : Entry)
    → stamp ≡ suc q → IsShownTrue next L q e → AreTagsAfter L q Ts → q + length Ts ≤ length L
    → IsShownTrue next L (q + length Ts) (after_events stamp Ts e)
replayed law next L q stamp [] e is h tags long = subst (λ (k : ℕ). IsShownTrue next L k e) (let e : q ≡ q + 0 = omega arith in e) h
replayed law next L q stamp (T ∷ Ts) e is h tags long =
    let step : IsShownTrue next L (suc q) (entry_after stamp T e) =
    subst (λ (k : ℕ). IsShownTrue next L (suc q) (entry_after k T e)) (sym is)
    (subst (λ (t : List Tag). IsShownTrue next L (suc q) (entry_after (suc q) t e)) (sym tags.0) (true_after_event law next L q e h (omega arith))) in
    subst (λ (k : ℕ). IsShownTrue next L k (after_events (stamp + 1) Ts (entry_after stamp T e))) (let e : suc q + length Ts ≡ q + length (T ∷ Ts) = omega arith in e)
    (replayed law next L (suc q) (stamp + 1) Ts (entry_after stamp T e) (omega (arith, is)) step tags.1 (omega arith))

none_left : (Ts : List (List Tag)) → length Ts ≡ 0 → Ts ≡ []
none_left [] e = refl
none_left (T ∷ Ts) e = absurd (omega (arith, e))

closed_stays : (i : Interval) (tags : List Tag) (p : ℕ) (recent : List (List Tag)) → i.still ≡ false → reach_after_replay i tags p recent ≡ i
closed_stays i tags p recent is = rw is refl

pub true_after_replay : EventLeaves → ReplaysAsIfItHadBeenThere → TrustsNoLostEvent → TrueAfterReplay
true_after_replay law replays lost next L c e h some keeps within = go e.reach.still refl (nat_lt (length c.recent) (c.processed - e.reach.known)) refl
  where
    go : (s : Bool) → e.reach.still ≡ s → (l : Bool) → nat_lt (length c.recent) (c.processed - e.reach.known) ≡ l → IsShownTrue next L c.processed (replayed_entry c e)
    go false is l low =
        let same : replayed_entry c e ≡ e = ap (λ (i : Interval). record e { reach = i }) (closed_stays e.reach e.tags c.processed c.recent is) in
        subst (IsShownTrue next L c.processed) (sym same) (record { some = some; true_as_shown = subst (IsTrueIn next L) (sym (shown_closed c.processed e is)) h })
    go true is true low =
        let r = lost c e is (ltb-true (length c.recent) (c.processed - e.reach.known) low) in
        let same : replayed_entry c e ≡ ending e e.reach.known false = ap (λ (i : Interval). record e { reach = i }) r in
        subst (IsShownTrue next L c.processed) (sym same) (closed_shown next L c.processed e e.reach.known some (true_closed next L e e.reach.known e.reach.still h))
    go true is false low =
        let few = ltb-false (length c.recent) (c.processed - e.reach.known) low in
        let same = replays c e is few in
        let m = c.processed - e.reach.known in
        let here : IsTrueIn next L (ending e e.reach.known true) = subst (λ (b : Bool). IsTrueIn next L (ending e e.reach.known b)) is h in
        let count : length (last_of m c.recent) ≡ m = drop_length (length c.recent - m) c.recent (omega arith) ∙ omega (arith, few) in
        subst (IsShownTrue next L c.processed) (sym same) (elim (cases_lt c.processed e.reach.known) [
          | inl above ↦
              let none : last_of m c.recent ≡ [] = none_left (last_of m c.recent) (count ∙ omega (arith, above)) in
              subst (λ (Ts : List (List Tag)). IsShownTrue next L c.processed (after_events (e.reach.known + 1) Ts e)) (sym none)
              (still_shown next L c.processed e is some (subst (λ (k : ℕ). IsTrueIn next L (ending e k true)) (sym (max_left e.reach.known c.processed (omega arith))) here))
          | inr below ↦
              let shown : IsShownTrue next L e.reach.known e =
              still_shown next L e.reach.known e is some (subst (λ (k : ℕ). IsTrueIn next L (ending e k true)) (sym (max_left e.reach.known e.reach.known (omega arith))) here) in
              let upto = keeps.upto in
              let tags : AreTagsAfter L e.reach.known (last_of m c.recent) =
              subst (λ (k : ℕ). AreTagsAfter L k (last_of m c.recent)) (let e : keeps.before + (length c.recent - m) ≡ e.reach.known = omega (arith, upto, few, below) in e)
              (drop_tags L (length c.recent - m) keeps.before c.recent (omega arith) keeps.tags) in
              subst (λ (k : ℕ). IsShownTrue next L k (after_events (e.reach.known + 1) (last_of m c.recent) e)) (omega (arith, count, below))
              (replayed law next L e.reach.known (e.reach.known + 1) (last_of m c.recent) e (omega arith) shown tags (omega (arith, count, below, within)))
        ])
