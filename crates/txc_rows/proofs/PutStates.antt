-- Puts of rows behind all others add them to a state, and so the puts of a state's rows make it.
use Rattle.std.proofs.Common.{◌≡◌, ℕ, List, [], ◌∷◌, ◌++◌, filter, map, true, false, ◌&&◌, ◌||◌, ◌==◌, nat_lt, sym, ap, subst, ◌∙◌, arith, append_assoc, append-nil}
use Rattle.std.proofs.lemmas.Bool.Decides.{nat_tests}
use Rattle.std.specs.List.{AllByRecursion}
use Rattle.sqlite_trees.proofs.ListLemmas.{filter_all, filter_none, all_weaker}
use Rattle.txc_rows.specs.declared.query.Change.TheVariants.{Put}
use Rattle.txc_rows.specs.States.{RowValue, State, IsState, row_before, after_change, after_changes}
use Rattle.txc_rows.specs.Laws.{PutsMakeState}

not_back : (a b c d : ℕ) → nat_lt a c || ((a == c) && nat_lt b d) ≡ true → nat_lt c a || ((c == a) && nat_lt d b) ≡ false
not_back a b c d h = grind (arith, nat_tests)

at_row : {X : Type 0} (P : X → Type 0) (xs : List X) (x : X) (ys : List X) → AllByRecursion P (xs ++ x ∷ ys) → P x
at_row P [] x ys a = a.0
at_row P (z ∷ zs) x ys a = at_row P zs x ys a.1

all_low : (s : State) (row : RowValue) (rows : List RowValue) → IsState (s ++ row ∷ rows) → AllByRecursion (λ x. row_before x row ≡ true) s
all_low [] row rows h = tt
all_low (x ∷ xs) row rows h = (at_row (λ y. row_before x y ≡ true) xs row rows h.0, all_low xs row rows h.1)

put_last : (s : State) (row : RowValue) (rows : List RowValue) → IsState (s ++ row ∷ rows) → after_change (Put row) s ≡ s ++ row ∷ []
put_last s row rows h =
    let low = all_low s row rows h in
    let every : filter (λ r. row_before r row) s ≡ s = filter_all (λ r. row_before r row) s low in
    let none : filter (λ r. row_before row r) s ≡ [] = filter_none (λ r. row_before row r) s (all_weaker (λ x. row_before x row ≡ true) (λ x. row_before row x ≡ false) (λ x k. not_back x.table x.id row.table row.id k) s low) in
    ap (λ xs. xs ++ row ∷ filter (λ r. row_before row r) s) every ∙ ap (λ ys. s ++ row ∷ ys) none

pub puts_append : (rows : List RowValue) (s : State) → IsState (s ++ rows) → after_changes (map Put rows) s ≡ s ++ rows
puts_append [] s h = sym (append-nil s)
puts_append (row ∷ rows) s h =
    let one = put_last s row rows h in
    let whole : IsState ((s ++ row ∷ []) ++ rows) = subst IsState (sym (append_assoc s (row ∷ []) rows)) h in
    ap (λ (x : State). after_changes (map Put rows) x) one ∙ (puts_append rows (s ++ row ∷ []) whole ∙ append_assoc s (row ∷ []) rows)

pub puts_make_state : PutsMakeState
puts_make_state s h = puts_append s [] h
