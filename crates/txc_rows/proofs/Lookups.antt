-- The row of a table and id.
use Rattle.std.proofs.Common.{◌≡◌, inl, inr, ℕ, [], ◌∷◌, Bool, true, false, true≢false, cond, not, nat_lt, ◌&&◌, ◌||◌, ◌==◌, Option, Some, None, refl, sym, ap, ◌∙◌, arith}
use Rattle.std.proofs.lemmas.Bool.Decides.{nat_tests}
use borrow.Author.Tests.{eqb-true}
use Rattle.std.specs.List.{AllByRecursion}
use Rattle.txc_rows.specs.declared.query.Change.{Change}
use Rattle.txc_rows.specs.declared.query.Change.TheVariants.{Put, Remove}
use Rattle.txc_rows.specs.States.{RowValue, State, row_before, IsState, is_at, row_at, after_change}
use Rattle.txc_rows.specs.Net.{change_table, change_id}
use Rattle.txc_rows.specs.Laws.{is_change_of, made_by, ChangeUpdates}
use Rattle.txc_rows.proofs.Members.{IsIn, bool_cases, both_true, not_true_is, from_filter, all_in}
use Rattle.txc_rows.proofs.ChangeLemmas.{is_of, made_there, other_there, from_change, made_of}
use Rattle.txc_rows.proofs.Rising.{change_state}

-- ---- one row of a key

level : (x q : RowValue) (xs : State) → AllByRecursion (λ y. row_before x y ≡ true) xs → IsIn q xs → x.table ≡ q.table → x.id ≡ q.id → ⊥
level x q xs all b t i = off x.table x.id q.table q.id (all_in (λ y. row_before x y ≡ true) xs q all b) t i
  where
    off : (a b c d : ℕ) → nat_lt a c || ((a == c) && nat_lt b d) ≡ true → a ≡ c → b ≡ d → ⊥
    off a b c d e f g = grind (arith, nat_tests)

table_is : (a b : RowValue) → a ≡ b → a.table ≡ b.table
table_is a b e = ap (λ (y : RowValue). y.table) e

id_is : (a b : RowValue) → a ≡ b → a.id ≡ b.id
id_is a b e = ap (λ (y : RowValue). y.id) e

pub one_key : (s : State) → IsState s → (r q : RowValue) → IsIn r s → IsIn q s → r.table ≡ q.table → r.id ≡ q.id → r ≡ q
one_key [] h r q a b t i = absurd a
one_key (x ∷ xs) h r q (inl a) (inl b) t i = a ∙ sym b
one_key (x ∷ xs) h r q (inl a) (inr b) t i = absurd (level x q xs h.0 b (sym (table_is r x a) ∙ t) (sym (id_is r x a) ∙ i))
one_key (x ∷ xs) h r q (inr a) (inl b) t i = absurd (level x r xs h.0 a (sym (table_is q x b) ∙ sym t) (sym (id_is q x b) ∙ sym i))
one_key (x ∷ xs) h r q (inr a) (inr b) t i = one_key xs h.1 r q a b t i

-- ---- looking it up

pub found_from : (t i : ℕ) (s : State) (r : RowValue) → row_at t i s ≡ Some r → IsIn r s × (is_at t i r ≡ true)
found_from t i [] r e = absurd (let f = e in cc)
found_from t i (x ∷ xs) r e = go (is_at t i x) refl e (found_from t i xs r)
  where
    go : (b : Bool) → is_at t i x ≡ b → cond b (Some x) (row_at t i xs) ≡ Some r → (row_at t i xs ≡ Some r → IsIn r xs × (is_at t i r ≡ true)) → IsIn r (x ∷ xs) × (is_at t i r ≡ true)
    go true at f on = let same : r ≡ x = cc in (inl same, ap (is_at t i) same ∙ at)
    go false at f on = let it = on f in (inr it.0, it.1)

found_none : (t i : ℕ) (s : State) → ((r : RowValue) → IsIn r s → is_at t i r ≡ false) → row_at t i s ≡ None
found_none t i [] off = refl
found_none t i (x ∷ xs) off = rw (off x (inl refl)) (found_none t i xs (λ r k. off r (inr k)))

none_found : (t i : ℕ) (s : State) (r : RowValue) → row_at t i s ≡ None → IsIn r s → is_at t i r ≡ false
none_found t i [] r e h = absurd h
none_found t i (x ∷ xs) r e h = go (is_at t i x) refl e h (none_found t i xs r)
  where
    go : (b : Bool) → is_at t i x ≡ b → cond b (Some x) (row_at t i xs) ≡ None → IsIn r (x ∷ xs) → (row_at t i xs ≡ None → IsIn r xs → is_at t i r ≡ false) → is_at t i r ≡ false
    go true at f k on = absurd (let g = f in cc)
    go false at f (inl same) on = ap (is_at t i) same ∙ at
    go false at f (inr later) on = on f later

pub found_is : (t i : ℕ) (s : State) (r : RowValue) → IsState s → IsIn r s → is_at t i r ≡ true → row_at t i s ≡ Some r
found_is t i s r h k at = go (row_at t i s) refl
  where
    go : (o : Option RowValue) → row_at t i s ≡ o → row_at t i s ≡ Some r
    go None e = absurd (true≢false (sym at ∙ none_found t i s r e k))
    go (Some q) e =
        let it = found_from t i s q e in
        let a = both_true (q.table == t) (q.id == i) it.1 in
        let b = both_true (r.table == t) (r.id == i) at in
        e ∙ ap (λ (x : RowValue). Some x) (one_key s h q r it.0 k (eqb-true _ _ a.0 ∙ sym (eqb-true _ _ b.0)) (eqb-true _ _ a.1 ∙ sym (eqb-true _ _ b.1)))

pub same_found : (t i : ℕ) (s u : State) → IsState s → IsState u → ((r : RowValue) → is_at t i r ≡ true → IsIn r s → IsIn r u)
    → ((r : RowValue) → is_at t i r ≡ true → IsIn r u → IsIn r s) → row_at t i s ≡ row_at t i u
same_found t i s u hs hu to back = go (row_at t i s) refl (row_at t i u) refl
  where
    go : (a : Option RowValue) → row_at t i s ≡ a → (b : Option RowValue) → row_at t i u ≡ b → row_at t i s ≡ row_at t i u
    go (Some r) e b f = let it = found_from t i s r e in e ∙ sym (found_is t i u r hu (to r it.1 it.0) it.1)
    go None e (Some r) f = let it = found_from t i u r f in found_is t i s r hs (back r it.1 it.0) it.1 ∙ sym f
    go None e None f = e ∙ sym f

-- ---- the keys of rows and changes

pub is_change_at : (t i u j : ℕ) (r : RowValue) → (u == t) && (j == i) ≡ true → is_at u j r ≡ true → is_at t i r ≡ true
is_change_at t i u j r e at = chained t i u j r.table r.id e at
  where
    chained : (a b c d v k : ℕ) → (c == a) && (d == b) ≡ true → (v == c) && (k == d) ≡ true → (v == a) && (k == b) ≡ true
    chained a b c d v k h g = grind (arith, nat_tests)

-- a change of another key is not of a row at this one
pub apart_from : (t i : ℕ) (c : Change) (r : RowValue) → is_at t i r ≡ true → is_change_of t i c ≡ false → is_of c r ≡ false
apart_from t i c r at off = apart t i (change_table c) (change_id c) r.table r.id at off
  where
    apart : (a b c d v k : ℕ) → (v == a) && (k == b) ≡ true → (c == a) && (d == b) ≡ false → (v == c) && (k == d) ≡ false
    apart a b c d v k h g = grind (arith, nat_tests)

-- ---- a change updates the map

updated_here : (c : Change) (s : State) (t i : ℕ) → IsState s → is_change_of t i c ≡ true → row_at t i (after_change c s) ≡ made_by c
updated_here (Put row) s t i h e = found_is t i (after_change (Put row) s) row (change_state (Put row) s h) (made_there (Put row) row s refl) e
updated_here (Remove u j) s t i h e = found_none t i (after_change (Remove u j) s) (λ r k. away r (not_true_is _ (from_filter (λ (x : RowValue). not (is_at u j x)) r s k).1))
  where
    turned : (a b c d v k : ℕ) → (c == a) && (d == b) ≡ true → (v == c) && (k == d) ≡ false → (v == a) && (k == b) ≡ false
    turned a b c d v k f g = grind (arith, nat_tests)

    away : (r : RowValue) → is_at u j r ≡ false → is_at t i r ≡ false
    away r off = turned t i u j r.table r.id e off

updated_other : (c : Change) (s : State) (t i : ℕ) → IsState s → is_change_of t i c ≡ false → row_at t i (after_change c s) ≡ row_at t i s
updated_other c s t i h off = same_found t i (after_change c s) s (change_state c s h) h
    (λ r at k. elim (from_change c r s k) [
      | inl makes ↦ absurd (true≢false (sym (made_of c r makes) ∙ apart_from t i c r at off))
      | inr old ↦ old.0
    ])
    (λ r at k. other_there c r s k (apart_from t i c r at off))

pub change_updates : ChangeUpdates
change_updates c s t i h = elim (bool_cases (is_change_of t i c)) [ inl e ↦ rw e (updated_here c s t i h e) | inr e ↦ rw e (updated_other c s t i h e) ]
