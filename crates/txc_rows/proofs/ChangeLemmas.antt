-- What one change leaves.
use Rattle.std.proofs.Common.{◌≡◌, ◌⊎◌, inl, inr, ℕ, List, [], ◌∷◌, ◌++◌, filter, Bool, true, false, not, nat_lt, ◌&&◌, ◌||◌, ◌==◌, refl, ap, arith}
use Rattle.std.proofs.lemmas.Bool.Decides.{nat_tests}
use borrow.Author.Tests.{eq-eqb}
use Rattle.txc_rows.specs.declared.query.Change.{Change}
use Rattle.txc_rows.specs.declared.query.Change.TheVariants.{Put, Remove}
use Rattle.txc_rows.specs.States.{RowValue, State, row_before, is_at, after_change, after_changes}
use Rattle.txc_rows.specs.Net.{change_table, change_id}
use Rattle.txc_rows.proofs.Members.{IsIn, and_true, not_true_is, in_filter, from_filter, in_left, in_right, in_either}

-- the change is of the row's key
abbrev pub is_of : Change → RowValue → Bool
is_of c r = is_at (change_table c) (change_id c) r

-- the change makes the row
abbrev pub Makes : Change → RowValue → Type 0
Makes (Put row) r = r ≡ row
Makes (Remove table id) r = ⊥

pub order_cases : (t i u j : ℕ) → (t == u) && (i == j) ≡ false → ((nat_lt t u || ((t == u) && nat_lt i j)) ≡ true) ⊎ ((nat_lt u t || ((u == t) && nat_lt j i)) ≡ true)
order_cases t i u j off = grind (arith, nat_tests)

pub order_apart : (t i u j : ℕ) → (nat_lt t u || ((t == u) && nat_lt i j)) ≡ true → (t == u) && (i == j) ≡ false
order_apart t i u j h = grind (arith, nat_tests)

pub order_apart_back : (t i u j : ℕ) → (nat_lt u t || ((u == t) && nat_lt j i)) ≡ true → (t == u) && (i == j) ≡ false
order_apart_back t i u j h = grind (arith, nat_tests)

pub made_there : (c : Change) (r : RowValue) (s : State) → Makes c r → IsIn r (after_change c s)
made_there (Put row) r s h = in_right r (filter (λ x. row_before x row) s) _ (inl h)
made_there (Remove t i) r s h = absurd h

pub other_there : (c : Change) (r : RowValue) (s : State) → IsIn r s → is_of c r ≡ false → IsIn r (after_change c s)
other_there (Put row) r s h off = elim (order_cases r.table r.id row.table row.id off) [
  | inl before ↦ in_left r (filter (λ x. row_before x row) s) _ (in_filter (λ (x : RowValue). row_before x row) r s h before)
  | inr after ↦ in_right r (filter (λ x. row_before x row) s) _ (inr (in_filter (λ (x : RowValue). row_before row x) r s h after))
]
other_there (Remove t i) r s h off = in_filter (λ (x : RowValue). not (is_at t i x)) r s h (ap not off)

pub from_change : (c : Change) (r : RowValue) (s : State) → IsIn r (after_change c s) → (Makes c r) ⊎ (IsIn r s × (is_of c r ≡ false))
from_change (Put row) r s h = elim (in_either r (filter (λ x. row_before x row) s) (row ∷ filter (λ x. row_before row x) s) h) [
  | inl low ↦ let it = from_filter (λ (x : RowValue). row_before x row) r s low in inr (it.0, order_apart r.table r.id row.table row.id it.1)
  | inr more ↦ elim more [
    | inl same ↦ inl same
    | inr high ↦ let it = from_filter (λ (x : RowValue). row_before row x) r s high in inr (it.0, order_apart_back r.table r.id row.table row.id it.1)
  ]
]
from_change (Remove t i) r s h = let it = from_filter (λ (x : RowValue). not (is_at t i x)) r s h in inr (it.0, not_true_is _ it.1)

pub made_of : (c : Change) (r : RowValue) → Makes c r → is_of c r ≡ true
made_of (Put row) r h = and_true (r.table == row.table) (r.id == row.id) (eq-eqb _ _ (ap (λ (x : RowValue). x.table) h)) (eq-eqb _ _ (ap (λ (x : RowValue). x.id) h))
made_of (Remove t i) r h = absurd h

-- changes after others
pub changes_then : (xs ys : List Change) (s : State) → after_changes (xs ++ ys) s ≡ after_changes ys (after_changes xs s)
changes_then [] ys s = refl
changes_then (x ∷ xs) ys s = changes_then xs ys (after_change x s)
