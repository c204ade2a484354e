-- The test of two rows, and of a row in a state.
use Rattle.std.proofs.Common.{◌≡◌, true, ◌&&◌, ◌==◌, refl, sym, subst}
use borrow.Author.Tests.{eqb-true, eq-eqb}
use Rattle.std.proofs.lemmas.Slice.Eq.{bytes_eq-Decides}
use Rattle.std.specs.Bool.{Decides}
use Rattle.std.specs.Str.{bytes_eq}
use Rattle.txc_rows.specs.Values.{same_row}
use Rattle.txc_rows.specs.States.{RowValue, State}
use Rattle.txc_rows.specs.RowTags.{has_row}
use Rattle.txc_rows.proofs.Members.{IsIn, both_true, and_true, any_there, any_found}

pub same_row_is : (r s : RowValue) → same_row r s ≡ true → r ≡ s
same_row_is r s e =
    let a = both_true (r.table == s.table) ((r.id == s.id) && ((r.group == s.group) && bytes_eq r.body s.body)) e in
    let b = both_true (r.id == s.id) ((r.group == s.group) && bytes_eq r.body s.body) a.1 in
    let c = both_true (r.group == s.group) (bytes_eq r.body s.body) b.1 in
    let table = eqb-true r.table s.table a.0 in
    let id = eqb-true r.id s.id b.0 in
    let group = eqb-true r.group s.group c.0 in
    let body = (bytes_eq-Decides r.body s.body).0 c.1 in
    one table id group body
  where
    one : r.table ≡ s.table → r.id ≡ s.id → r.group ≡ s.group → r.body ≡ s.body → r ≡ s
    one t i g b = λ k. record { table = t k; id = i k; group = g k; body = b k }

pub has_row_in : (s : State) (r : RowValue) → has_row s r ≡ true → IsIn r s
has_row_in s r e = let it = any_found (same_row r) s e in subst (λ (x : RowValue). IsIn x s) (sym (same_row_is r it.0 it.2)) it.1

pub row_itself : (r : RowValue) → same_row r r ≡ true
row_itself r = and_true _ _ (eq-eqb r.table r.table refl) (and_true _ _ (eq-eqb r.id r.id refl) (and_true _ _ (eq-eqb r.group r.group refl) ((bytes_eq-Decides r.body r.body).1 refl)))

pub has_there : (s : State) (r : RowValue) → IsIn r s → has_row s r ≡ true
has_there s r h = any_there (same_row r) r s h (row_itself r)

-- the test of two rows decides whether they are equal
pub same_row_decides : (r s : RowValue) → Decides (same_row r s) (r ≡ s)
same_row_decides r s = (same_row_is r s, λ e. subst (λ (x : RowValue). same_row r x ≡ true) e (row_itself r))
