-- Net changes lead where the changes lead, and change what differs.
use Rattle.std.proofs.Common.{◌≡◌, inl, inr, ℕ, List, [], ◌∷◌, filter, Bool, true, false, true≢false, cond, nat_lt, ◌&&◌, ◌||◌, ◌==◌, Option, Some, None, refl, sym, ap, subst, ◌∙◌, arith}
use Rattle.std.proofs.lemmas.Bool.Decides.{nat_tests}
use borrow.Author.Tests.{eqb-true, eq-eqb, not-false}
use Rattle.std.specs.List.{AllByRecursion, list_any, list_all}
use Rattle.sqlite_trees.proofs.ListLemmas.{all_weaker, all-filter}
use Rattle.txc_rows.specs.declared.query.Change.{Change}
use Rattle.txc_rows.specs.declared.query.Change.TheVariants.{Put, Remove}
use Rattle.txc_rows.specs.States.{RowValue, State, IsState, is_at, row_at, after_change, after_changes}
use Rattle.txc_rows.specs.Net.{change_table, change_id, same_key, key_before, changes_state, placed, settled, net_changes, KeysAscend, IsNet}
use Rattle.txc_rows.specs.Laws.{NetTransition, NetIsDifference, is_change_of}
use Rattle.txc_rows.proofs.Members.{IsIn, bool_cases, both_true, and_true, not_true_is, any_there, any_found}
use Rattle.txc_rows.proofs.ChangeLemmas.{is_of, Makes, made_there, other_there, from_change, made_of}
use Rattle.txc_rows.proofs.Rising.{lt_trans, changes_state as changed_state, same_rows}
use Rattle.txc_rows.proofs.RowTests.{has_row_in, has_there}
use Rattle.txc_rows.proofs.Lookups.{is_change_at, apart_from, one_key, found_is, found_from, same_found}

-- ---- what all changes leave: what the last change of the row's key makes, or what was there

abbrev pub or_else : Option Change → Bool → Change → Option Change
or_else (Some d) b c = Some d
or_else None true c = Some c
or_else None false c = None

-- the last change of the row's key
abbrev pub last_of : List Change → RowValue → Option Change
last_of [] r = None
last_of (c ∷ cs) r = or_else (last_of cs r) (is_of c r) c

abbrev pub Meets : Option Change → RowValue → State → Type 0
Meets None r s = IsIn r s
Meets (Some c) r s = Makes c r

pub from_changes : (cs : List Change) (r : RowValue) (s : State) → IsIn r (after_changes cs s) → Meets (last_of cs r) r s
from_changes [] r s h = h
from_changes (c ∷ cs) r s h = go (last_of cs r) (from_changes cs r (after_change c s) h)
  where
    go : (o : Option Change) → Meets o r (after_change c s) → Meets (or_else o (is_of c r) c) r s
    go (Some d) m = m
    go None m = elim (from_change c r s m) [
      | inl makes ↦ rw (made_of c r makes) makes
      | inr old ↦ rw old.1 old.0
    ]

pub to_changes : (cs : List Change) (r : RowValue) (s : State) → Meets (last_of cs r) r s → IsIn r (after_changes cs s)
to_changes [] r s h = h
to_changes (c ∷ cs) r s h = to_changes cs r (after_change c s) (go (last_of cs r) h)
  where
    go : (o : Option Change) → Meets (or_else o (is_of c r) c) r s → Meets o r (after_change c s)
    go (Some d) m = m
    go None m = at (is_of c r) refl m
      where
        at : (b : Bool) → is_of c r ≡ b → Meets (or_else None b c) r s → IsIn r (after_change c s)
        at true e m = made_there c r s m
        at false e m = other_there c r s m e

-- ---- settling keeps the last change of each key

same_of : (t i u j v k : ℕ) → (t == u) && (i == j) ≡ true → (v == t) && (k == i) ≡ (v == u) && (k == j)
same_of t i u j v k e = let two = both_true (t == u) (i == j) e in let a = eqb-true t u two.0 in let b = eqb-true i j two.1 in rw (a, b) refl

both_of : (t i u j v k : ℕ) → (v == t) && (k == i) ≡ true → (v == u) && (k == j) ≡ true → (t == u) && (i == j) ≡ true
both_of t i u j v k e f =
    let a = both_true (v == t) (k == i) e in let b = both_true (v == u) (k == j) f in
    and_true (t == u) (i == j) (eq-eqb t u (sym (eqb-true v t a.0) ∙ eqb-true v u b.0)) (eq-eqb i j (sym (eqb-true k i a.1) ∙ eqb-true k j b.1))

hidden : (o : Option Change) (a b : Bool) (c d : Change) → a ≡ b → or_else o b d ≡ or_else (or_else o b d) a c
hidden (Some x) a b c d e = refl
hidden None a true c d e = refl
hidden None a false c d e = rw e refl

swapped : (o : Option Change) (a b : Bool) (c d : Change) → (a ≡ true → b ≡ true → ⊥) → or_else (or_else o a c) b d ≡ or_else (or_else o b d) a c
swapped (Some x) a b c d apart = refl
swapped None true true c d apart = absurd (apart refl refl)
swapped None true false c d apart = refl
swapped None false true c d apart = refl
swapped None false false c d apart = refl

last_placed : (c : Change) (ds : List Change) (r : RowValue) → last_of (placed c ds) r ≡ last_of (c ∷ ds) r
last_placed c [] r = refl
last_placed c (d ∷ ds) r = go (same_key c d) refl (key_before c d) (last_placed c ds r)
  where
    go : (a : Bool) → same_key c d ≡ a → (b : Bool) → last_of (placed c ds) r ≡ last_of (c ∷ ds) r
        → last_of (cond a (d ∷ ds) (cond b (c ∷ (d ∷ ds)) (d ∷ placed c ds))) r ≡ last_of (c ∷ (d ∷ ds)) r
    go true e b on = hidden (last_of ds r) (is_of c r) (is_of d r) c d (same_of (change_table c) (change_id c) (change_table d) (change_id d) r.table r.id e)
    go false e true on = refl
    go false e false on =
        ap (λ (o : Option Change). or_else o (is_of d r) d) on
        ∙ swapped (last_of ds r) (is_of c r) (is_of d r) c d (λ x y. true≢false (sym (both_of (change_table c) (change_id c) (change_table d) (change_id d) r.table r.id x y) ∙ e))

last_settled : (cs : List Change) (r : RowValue) → last_of (settled cs) r ≡ last_of cs r
last_settled [] r = refl
last_settled (c ∷ cs) r = last_placed c (settled cs) r ∙ ap (λ (o : Option Change). or_else o (is_of c r) c) (last_settled cs r)

-- ---- settled changes stand by key

key_cases : (t i u j : ℕ) → (t == u) && (i == j) ≡ false → (nat_lt t u || ((t == u) && nat_lt i j)) ≡ false → (nat_lt u t || ((u == t) && nat_lt j i)) ≡ true
key_cases t i u j off late = grind (arith, nat_tests)

abbrev pub Over : Change → List Change → Type 0
Over c = AllByRecursion (λ d. key_before c d ≡ true)

over_trans : (c d : Change) (ds : List Change) → key_before c d ≡ true → Over d ds → Over c ds
over_trans c d ds e h = all_weaker (λ x. key_before d x ≡ true) (λ x. key_before c x ≡ true) (λ x after. lt_trans (change_table c) (change_id c) (change_table d) (change_id d) (change_table x) (change_id x) e after) ds h

over_placed : (d c : Change) (ds : List Change) → key_before d c ≡ true → Over d ds → Over d (placed c ds)
over_placed d c [] e h = (e, tt)
over_placed d c (x ∷ xs) e h = go (same_key c x) (key_before c x) (over_placed d c xs e h.1)
  where
    go : (a b : Bool) → Over d (placed c xs) → Over d (cond a (x ∷ xs) (cond b (c ∷ (x ∷ xs)) (x ∷ placed c xs)))
    go true b on = h
    go false true on = (e, h)
    go false false on = (h.0, on)

placed_rises : (c : Change) (ds : List Change) → KeysAscend ds → KeysAscend (placed c ds)
placed_rises c [] h = (tt, tt)
placed_rises c (d ∷ ds) h = go (same_key c d) refl (key_before c d) refl (placed_rises c ds h.1)
  where
    go : (a : Bool) → same_key c d ≡ a → (b : Bool) → key_before c d ≡ b → KeysAscend (placed c ds) → KeysAscend (cond a (d ∷ ds) (cond b (c ∷ (d ∷ ds)) (d ∷ placed c ds)))
    go true e b f on = h
    go false e true f on = ((f, over_trans c d ds f h.0), h)
    go false e false f on = (over_placed d c ds (key_cases (change_table c) (change_id c) (change_table d) (change_id d) e f) h.0, on)

settled_rises : (cs : List Change) → KeysAscend (settled cs)
settled_rises [] = tt
settled_rises (c ∷ cs) = placed_rises c (settled cs) (settled_rises cs)

module _ (p : Change → Bool) where
  kept_rises : (ds : List Change) → KeysAscend ds → KeysAscend (filter p ds)
  kept_rises [] h = tt
  kept_rises (d ∷ ds) h = let rest = kept_rises ds h.1 in elim (p d) as (λ b. KeysAscend (cond b (d ∷ filter p ds) (filter p ds))) [ true ↦ (all-filter (λ x. key_before d x ≡ true) p ds h.0, rest) | false ↦ rest ]

  each_kept : (ds : List Change) → list_all p (filter p ds) ≡ true
  each_kept [] = refl
  each_kept (d ∷ ds) = elim (bool_cases (p d)) [ inl e ↦ rw e (and_true (p d) _ e (each_kept ds)) | inr e ↦ rw e (each_kept ds) ]

-- ---- leaving out what changes nothing

idle_from : (c : Change) (r : RowValue) (s : State) → IsState s → is_of c r ≡ true → changes_state s c ≡ false → Makes c r → IsIn r s
idle_from (Put row) r s h at idle m = subst (λ (x : RowValue). IsIn x s) (sym m) (has_row_in s row (not-false _ idle))
idle_from (Remove t i) r s h at idle m = absurd m

idle_to : (c : Change) (r : RowValue) (s : State) → IsState s → is_of c r ≡ true → changes_state s c ≡ false → IsIn r s → Makes c r
idle_to (Put row) r s h at idle m =
    let two = both_true (r.table == row.table) (r.id == row.id) at in
    let here : IsIn row s = idle_from (Put row) row s h (made_of (Put row) row refl) idle refl in
    one_key s h r row m here (eqb-true _ _ two.0) (eqb-true _ _ two.1)
idle_to (Remove t i) r s h at idle m = absurd (true≢false (sym (any_there (is_at t i) r s m at) ∙ idle))

none_of : (c : Change) (ds : List Change) (r : RowValue) → Over c ds → is_of c r ≡ true → last_of ds r ≡ None
none_of c [] r h at = refl
none_of c (d ∷ ds) r h at = rw (none_of c ds r h.1 at, off (change_table c) (change_id c) (change_table d) (change_id d) r.table r.id h.0 at) refl
  where
    off : (t i u j v k : ℕ) → nat_lt t u || ((t == u) && nat_lt i j) ≡ true → (v == t) && (k == i) ≡ true → (v == u) && (k == j) ≡ false
    off t i u j v k a b = grind (arith, nat_tests)

-- what the kept changes and all of them make of a row
pub record Alike (a b : Option Change) (r : RowValue) (s : State) : Type 0 where
  to : Meets a r s → Meets b r s
  back : Meets b r s → Meets a r s

plain : (c : Change) (o : Option Change) → or_else o false c ≡ o
plain c None = refl
plain c (Some d) = refl

kept_alike : (s : State) → IsState s → (ds : List Change) (r : RowValue) → KeysAscend ds → Alike (last_of (filter (changes_state s) ds) r) (last_of ds r) r s
kept_alike s h [] r rise = record { to = λ m. m; back = λ m. m }
kept_alike s h (c ∷ cs) r rise = go (is_of c r) refl (changes_state s c) refl (kept_alike s h cs r rise.1)
  where
    go : (a : Bool) → is_of c r ≡ a → (b : Bool) → changes_state s c ≡ b → Alike (last_of (filter (changes_state s) cs) r) (last_of cs r) r s
        → Alike (last_of (cond b (c ∷ filter (changes_state s) cs) (filter (changes_state s) cs)) r) (or_else (last_of cs r) (is_of c r) c) r s
    go true at true e on = rw (at, none_of c cs r rise.0 at, none_of c (filter (changes_state s) cs) r (all-filter (λ d. key_before c d ≡ true) (changes_state s) cs rise.0) at) (record { to = λ m. m; back = λ m. m })
    go true at false e on = rw (at, none_of c cs r rise.0 at, none_of c (filter (changes_state s) cs) r (all-filter (λ d. key_before c d ≡ true) (changes_state s) cs rise.0) at) (record { to = idle_to c r s h at e; back = idle_from c r s h at e })
    go false at true e on = rw (at, plain c (last_of cs r), plain c (last_of (filter (changes_state s) cs) r)) on
    go false at false e on = rw (at, plain c (last_of cs r)) on

pub net_leads : NetTransition
net_leads s cs h = record {
  rising = kept_rises (changes_state s) (settled cs) (settled_rises cs);
  each = each_kept (changes_state s) (settled cs);
  transition = same_rows (after_changes (net_changes s cs) s) (after_changes cs s) (changed_state (net_changes s cs) s h) (changed_state cs s h) to back;
}
  where
    alike : (r : RowValue) → Alike (last_of (net_changes s cs) r) (last_of (settled cs) r) r s
    alike r = kept_alike s h (settled cs) r (settled_rises cs)

    to : (r : RowValue) → IsIn r (after_changes (net_changes s cs) s) → IsIn r (after_changes cs s)
    to r k = to_changes cs r s (subst (λ (o : Option Change). Meets o r s) (last_settled cs r) ((alike r).to (from_changes (net_changes s cs) r s k)))

    back : (r : RowValue) → IsIn r (after_changes cs s) → IsIn r (after_changes (net_changes s cs) s)
    back r k = to_changes (net_changes s cs) r s ((alike r).back (subst (λ (o : Option Change). Meets o r s) (sym (last_settled cs r)) (from_changes cs r s k)))

-- ---- what net changes change is what differs

pub each_in : (p : Change → Bool) (net : List Change) (c : Change) → list_all p net ≡ true → IsIn c net → p c ≡ true
each_in p [] c all h = absurd h
each_in p (d ∷ ds) c all (inl same) = ap p same ∙ (both_true (p d) (list_all p ds) all).0
each_in p (d ∷ ds) c all (inr later) = each_in p ds c (both_true (p d) (list_all p ds) all).1 later

-- the last change of a net's key is the one
pub last_is : (net : List Change) (c : Change) (r : RowValue) → KeysAscend net → IsIn c net → is_of c r ≡ true → last_of net r ≡ Some c
last_is [] c r rise h at = absurd h
last_is (d ∷ ds) c r rise (inl same) at = let here : is_of d r ≡ true = ap (λ (x : Change). is_of x r) (sym same) ∙ at in rw (none_of d ds r rise.0 here, here) (ap (λ (x : Change). Some x) (sym same))
last_is (d ∷ ds) c r rise (inr later) at = ap (λ (o : Option Change). or_else o (is_of d r) d) (last_is ds c r rise.1 later at)

-- a net with no change of the table and id has none of a row there
none_about : (t i : ℕ) (net : List Change) (r : RowValue) → list_any (is_change_of t i) net ≡ false → is_at t i r ≡ true → last_of net r ≡ None
none_about t i [] r e at = refl
none_about t i (c ∷ cs) r e at = go (is_change_of t i c) refl e (λ off. none_about t i cs r off at)
  where
    go : (b : Bool) → is_change_of t i c ≡ b → b || list_any (is_change_of t i) cs ≡ false → (list_any (is_change_of t i) cs ≡ false → last_of cs r ≡ None) → or_else (last_of cs r) (is_of c r) c ≡ None
    go true f off on = absurd (true≢false off)
    go false f off on = rw (on off, apart_from t i c r at f) refl

pub net_is_difference : NetIsDifference
net_is_difference s cs t i h = (differs, changed)
  where
    net : List Change
    net = net_changes s cs

    is : IsNet s (net_changes s cs) (after_changes cs s)
    is = net_leads s cs h

    into : (r : RowValue) → Meets (last_of (net_changes s cs) r) r s → IsIn r (after_changes cs s)
    into r m = subst (IsIn r) is.transition (to_changes (net_changes s cs) r s m)

    out : (r : RowValue) → IsIn r (after_changes cs s) → Meets (last_of (net_changes s cs) r) r s
    out r k = from_changes (net_changes s cs) r s (subst (IsIn r) (sym is.transition) k)

    state : IsState (after_changes cs s)
    state = changed_state cs s h

    by_change : (c : Change) → IsIn c (net_changes s cs) → is_change_of t i c ≡ true → changes_state s c ≡ true → row_at t i s ≡ row_at t i (after_changes cs s) → ⊥
    by_change (Put row) stands at changes e =
        let there : IsIn row (after_changes cs s) = into row (subst (λ (o : Option Change). Meets o row s) (sym (last_is (net_changes s cs) (Put row) row is.rising stands (made_of (Put row) row refl))) refl) in
        let found : row_at t i s ≡ Some row = e ∙ found_is t i (after_changes cs s) row state there at in
        true≢false (sym (has_there s row (found_from t i s row found).0) ∙ not_true_is _ changes)
    by_change (Remove u j) stands at changes e =
        let it = any_found (is_at u j) s changes in
        let here : is_at t i it.0 ≡ true = is_change_at t i u j it.0 at it.2 in
        let found : row_at t i (after_changes cs s) ≡ Some it.0 = sym e ∙ found_is t i s it.0 h it.1 here in
        subst (λ (o : Option Change). Meets o it.0 s) (last_is (net_changes s cs) (Remove u j) it.0 is.rising stands it.2) (out it.0 (found_from t i (after_changes cs s) it.0 found).0)

    differs : list_any (is_change_of t i) (net_changes s cs) ≡ true → row_at t i s ≡ row_at t i (after_changes cs s) → ⊥
    differs some = let it = any_found (is_change_of t i) (net_changes s cs) some in by_change it.0 it.1 it.2 (each_in (changes_state s) (net_changes s cs) it.0 is.each it.1)

    changed : (row_at t i s ≡ row_at t i (after_changes cs s) → ⊥) → list_any (is_change_of t i) (net_changes s cs) ≡ true
    changed off = elim (bool_cases (list_any (is_change_of t i) (net_changes s cs))) [
      | inl hit ↦ hit
      | inr none ↦ absurd (off (same_found t i s (after_changes cs s) h state
          (λ r at k. into r (subst (λ (o : Option Change). Meets o r s) (sym (none_about t i (net_changes s cs) r none at)) k))
          (λ r at k. subst (λ (o : Option Change). Meets o r s) (none_about t i (net_changes s cs) r none at) (out r k))))
    ]
