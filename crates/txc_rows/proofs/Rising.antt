-- States stay states, and are known by their rows.
use Rattle.std.proofs.Common.{◌≡◌, inl, inr, ℕ, List, [], ◌∷◌, ◌++◌, filter, Bool, true, false, cond, not, nat_lt, ◌&&◌, ◌||◌, ◌==◌, refl, sym, subst, ◌∙◌, arith}
use Rattle.std.proofs.lemmas.Bool.Decides.{nat_tests}
use Rattle.std.specs.List.{AllByRecursion}
use Rattle.txc_rows.specs.declared.query.Change.{Change}
use Rattle.txc_rows.specs.declared.query.Change.TheVariants.{Put, Remove}
use Rattle.txc_rows.specs.States.{RowValue, State, row_before, IsState, is_at, after_change, after_changes}
use Rattle.txc_rows.specs.Laws.{StatesAreRows}
use Rattle.txc_rows.proofs.Members.{IsIn, is_in, contains_it, from_filter, in_either, all_in}

pub lt_trans : (a b c d e f : ℕ) → nat_lt a c || ((a == c) && nat_lt b d) ≡ true → nat_lt c e || ((c == e) && nat_lt d f) ≡ true → nat_lt a e || ((a == e) && nat_lt b f) ≡ true
lt_trans a b c d e f h k = grind (arith, nat_tests)

before_trans : (r s t : RowValue) → row_before r s ≡ true → row_before s t ≡ true → row_before r t ≡ true
before_trans r s t h k = lt_trans r.table r.id s.table s.id t.table t.id h k

lt_itself : (a b : ℕ) → nat_lt a a || ((a == a) && nat_lt b b) ≡ true → ⊥
lt_itself a b h = grind (arith, nat_tests)

before_itself : (r : RowValue) → row_before r r ≡ true → ⊥
before_itself r h = lt_itself r.table r.id h

abbrev pub Above : RowValue → State → Type 0
Above r = AllByRecursion (λ s. row_before r s ≡ true)

above_in : (r x : RowValue) (s : State) → Above r s → IsIn x s → row_before r x ≡ true
above_in r x s a h = all_in (λ y. row_before r y ≡ true) s x a h

above_from : (r : RowValue) (s : State) → ((x : RowValue) → IsIn x s → row_before r x ≡ true) → Above r s
above_from r [] all = tt
above_from r (y ∷ ys) all = (all y (inl refl), above_from r ys (λ x h. all x (inr h)))

pub filter_state : (p : RowValue → Bool) (s : State) → IsState s → IsState (filter p s)
filter_state p [] h = tt
filter_state p (r ∷ rs) h =
    let rest = filter_state p rs h.1 in
    elim (p r) as (λ b. IsState (cond b (r ∷ filter p rs) (filter p rs))) [
      | true ↦ (above_from r (filter p rs) (λ x k. above_in r x rs h.0 (from_filter p x rs k).0), rest)
      | false ↦ rest
    ]

between : (row : RowValue) (xs ys : State) → IsState xs → IsState ys → ((x : RowValue) → IsIn x xs → row_before x row ≡ true) → Above row ys → IsState (xs ++ row ∷ ys)
between row [] ys hx hy low high = (high, hy)
between row (x ∷ xs) ys hx hy low high = (
  above_from x (xs ++ row ∷ ys) (λ z h. elim (in_either z xs (row ∷ ys) h) [
    | inl inside ↦ above_in x z xs hx.0 inside
    | inr it ↦ elim it [
      | inl same ↦ subst (λ (w : RowValue). row_before x w ≡ true) (sym same) (low x (inl refl))
      | inr later ↦ before_trans x row z (low x (inl refl)) (above_in row z ys high later)
    ]
  ]),
  between row xs ys hx.1 hy (λ z h. low z (inr h)) high,
)

pub change_state : (c : Change) (s : State) → IsState s → IsState (after_change c s)
change_state (Put row) s h =
    between row (filter (λ r. row_before r row) s) (filter (λ r. row_before row r) s) (filter_state (λ r. row_before r row) s h) (filter_state (λ r. row_before row r) s h)
    (λ x k. (from_filter (λ r. row_before r row) x s k).1) (above_from row (filter (λ r. row_before row r) s) (λ x k. (from_filter (λ r. row_before row r) x s k).1))
change_state (Remove table id) s h = filter_state (λ r. not (is_at table id r)) s h

pub changes_state : (cs : List Change) (s : State) → IsState s → IsState (after_changes cs s)
changes_state [] s h = h
changes_state (c ∷ cs) s h = changes_state cs (after_change c s) (change_state c s h)

-- ---- two states with the same rows are one

pub same_rows : (xs ys : State) → IsState xs → IsState ys → ((z : RowValue) → IsIn z xs → IsIn z ys) → ((z : RowValue) → IsIn z ys → IsIn z xs) → xs ≡ ys
same_rows [] [] hx hy to back = refl
same_rows [] (y ∷ ys) hx hy to back = absurd (back y (inl refl))
same_rows (x ∷ xs) [] hx hy to back = absurd (to x (inl refl))
same_rows (x ∷ xs) (y ∷ ys) hx hy to back =
    let heads : x ≡ y = first (to x (inl refl)) (back y (inl refl)) in
    let tails : xs ≡ ys = same_rows xs ys hx.1 hy.1 (λ z h. on z heads h (to z (inr h))) (λ z h. off z heads h (back z (inr h))) in
    cc
  where
    first : IsIn x (y ∷ ys) → IsIn y (x ∷ xs) → x ≡ y
    first (inl same) k = same
    first (inr later) (inl same) = sym same
    first (inr later) (inr other) = absurd (before_itself x (before_trans x y x (above_in x y xs hx.0 other) (above_in y x ys hy.0 later)))

    on : (z : RowValue) → x ≡ y → IsIn z xs → IsIn z (y ∷ ys) → IsIn z ys
    on z e h (inl same) = absurd (before_itself x (subst (λ (w : RowValue). row_before x w ≡ true) (same ∙ sym e) (above_in x z xs hx.0 h)))
    on z e h (inr later) = later

    off : (z : RowValue) → x ≡ y → IsIn z ys → IsIn z (x ∷ xs) → IsIn z xs
    off z e h (inl same) = absurd (before_itself y (subst (λ (w : RowValue). row_before y w ≡ true) (same ∙ e) (above_in y z ys hy.0 h)))
    off z e h (inr later) = later

pub states_are_rows : StatesAreRows
states_are_rows s u hs hu same = same_rows s u hs hu
    (λ r h. is_in u r ((same r).0 (contains_it s r h)))
    (λ r h. is_in s r ((same r).1 (contains_it u r h)))
