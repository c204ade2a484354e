-- What the tests of the statements say of a stored row.
use Rattle.std.proofs.Common.{◌≡◌, ℕ, ℤ, pos, List, [], ◌∷◌, ◌++◌, map, filter, Bool, true, false, cond, ◌&&◌, ◌||◌, ◌==◌, nat_lt, nat_le, Some, None, Option, is_none, refl, sym, ap, subst, ◌∙◌, arith}
use Rattle.std.proofs.Math.Bool.{and_assoc, and-true}
use Rattle.std.proofs.lemmas.Bool.Decides.{nat_tests}
use Rattle.std.specs.Ordering.{int_cmp, nat_cmp, is_eq, is_ge, is_le, is_lt}
use Rattle.std.specs.List.{flat_map, list_all, AllByRecursion}
use Rattle.std.specs.List.Sorted.{IsPermutation}
use Rattle.sqlite.specs.declared.types.Value.TheVariants.{Null, Blob}
use Rattle.sqlite.specs.Order.{Row, value_cmp}
use Rattle.sqlite.specs.Collation.TheVariants.{Binary}
use Rattle.sqlite_sql.specs.declared.ops.BinaryOp.TheVariants.{Compare, Is, Or}
use Rattle.sqlite_sql.specs.declared.ops.CompareOp.TheVariants.{Eq, Ge, Le}
use Rattle.sqlite.specs.Tree.{rowid}
use Rattle.sqlite.specs.Edit.{id_in}
use Rattle.sqlite.specs.Query as query
use Rattle.sqlite.specs.Query.{IsAnswer, IsSureAnswer, Output, output, limited, as_count}
use Rattle.sqlite.specs.Tree.{Trees}
use Rattle.sqlite_trees.proofs.ListLemmas.{map-map}
use Rattle.sqlite.specs.Ops.{from_truth, is_true, binary, or3, truth}
use Rattle.sqlite.specs.Term.{Term, holds, eval}
use Rattle.sqlite_value.proofs.OrderLemmas.{value_cmp-Int, value_cmp-apart, value_cmp-Null}
use Rattle.txc_rows.specs.declared.version.Versioned.{Versioned}
use Rattle.txc_rows.specs.States.{is_at}
use Rattle.txc_rows.specs.Versions.{suits, is_current}
use Rattle.txc_rows.specs.declared.placed.Placed.{Placed}
use Rattle.txc_rows.specs.Placed.{lasts_to, is_left, is_row_left, is_touched, has_key}
use Rattle.txc_rows.specs.declared.query.Query.{Query}
use Rattle.txc_rows.specs.declared.query.Query.TheVariants.{ById, ByGroup, All, Range}
use Rattle.txc_rows.specs.StoredVersion.{stored, cells_of, number, death, IsStored, death_in, placed_in, placed_from, queried_columns, version_shown}
use Rattle.txc_rows.proofs.Commands.{close_filter, key_filter, left_filter, touched_filter, placed_filter, table_filter, row_filter, group_filter, range_filter, whole}

pub int_cmp-pos : (a b : ℕ) → int_cmp (pos a) (pos b) ≡ nat_cmp a b
int_cmp-pos a b = grind (arith, nat_tests)

pub is_eq-nat_cmp : (a b : ℕ) → is_eq (nat_cmp a b) ≡ (a == b)
is_eq-nat_cmp a b = grind (arith, nat_tests)

pub is_le-nat_cmp : (a b : ℕ) → is_le (nat_cmp a b) ≡ nat_le a b
is_le-nat_cmp a b = grind (arith, nat_tests)

pub is_ge-nat_cmp : (a b : ℕ) → is_ge (nat_cmp a b) ≡ nat_le b a
is_ge-nat_cmp a b = grind (arith, nat_tests)

pub is_lt-nat_cmp : (a b : ℕ) → is_lt (nat_cmp a b) ≡ nat_lt a b
is_lt-nat_cmp a b = grind (arith, nat_tests)

pub true_of : (b : Bool) → is_true (from_truth (Some b)) ≡ b
true_of true = refl
true_of false = refl

pub number_cmp : (a b : ℕ) → value_cmp (number a) (number b) ≡ nat_cmp a b
number_cmp a b = value_cmp-Int (pos a) (pos b) ∙ int_cmp-pos a b

eq_test : (a b : ℕ) → is_true (binary (Compare Eq Binary) (number a) (number b)) ≡ (a == b)
unfolding binary
eq_test a b = true_of _ ∙ ap is_eq (number_cmp a b) ∙ is_eq-nat_cmp a b

or_of : (b c : Bool) → is_true (from_truth (or3 (truth (from_truth (Some b))) (truth (from_truth (Some c))))) ≡ b || c
or_of true true = refl
or_of true false = refl
or_of false true = refl
or_of false false = refl

-- a version that has not died, or not before the stamp
left_is : (a : Option ℕ) (b : ℕ) → is_true (binary Or (binary (Is Binary) (death a) Null) (binary (Compare Ge Binary) (death a) (number b))) ≡ lasts_to b a
unfolding binary
left_is None b = rw (value_cmp-Null Null) refl
left_is (Some a) b = rw (value_cmp-apart (number a) Null (λ e. omega (arith, e)), number_cmp a b) (or_of false (is_ge (nat_cmp a b)) ∙ is_ge-nat_cmp a b)

null_test : (a : Option ℕ) → is_true (binary (Is Binary) (death a) Null) ≡ is_none a
unfolding binary
null_test None = true_of _ ∙ ap is_eq (value_cmp-Null Null)
null_test (Some a) = true_of _ ∙ ap is_eq (value_cmp-apart (number a) Null (λ e. omega (arith, e)))

all_three : (A B C a b c : Bool) → A ≡ a → B ≡ b → C ≡ c → (A && (B && (C && true))) ≡ ((a && b) && c)
all_three A B C a b c p q r = rw (p, q, r, and-true c) (sym (and_assoc a b c))

one : (A a : Bool) → A ≡ a → (A && true) ≡ a
one A a p = rw p (and-true a)

-- the tests of WHERE, at a stored row
pub close_test : (t i s : ℕ) (id : ℤ) (x : Placed) → list_all (holds ((number t ∷ number i ∷ number s ∷ []) ∷ stored id x ∷ [])) close_filter ≡ (is_at t i x.version.row && is_current x.version)
close_test t i s id x = all_three _ _ _ _ _ _ (eq_test x.version.row.table t) (eq_test x.version.row.id i) (null_test x.version.died)

pub renew_test : (t i g place s : ℕ) (body : List ℕ) (id : ℤ) (x : Placed)
    → list_all (holds ((number t ∷ number i ∷ number g ∷ number place ∷ number s ∷ Blob body ∷ []) ∷ stored id x ∷ [])) key_filter ≡ has_key t i g x
renew_test t i g place s body id x = all_three _ _ _ _ _ _ (eq_test x.version.row.table t) (eq_test x.version.row.id i) (eq_test x.version.row.group g)

touched_is : (a : Option ℕ) (g h : ℕ) → is_true (binary Or (binary (Is Binary) (death a) Null) (binary (Compare Eq Binary) (number g) (number h))) ≡ is_none a || (g == h)
unfolding binary
touched_is None g h = rw (value_cmp-Null Null) refl
touched_is (Some a) g h = rw (value_cmp-apart (number a) Null (λ e. omega (arith, e)), number_cmp g h) (or_of false (is_eq (nat_cmp g h)) ∙ ap (λ b. false || b) (is_eq-nat_cmp g h))

pub touched_test : (t i g : ℕ) (id : ℤ) (x : Placed) → list_all (holds ((number t ∷ number i ∷ number g ∷ []) ∷ stored id x ∷ [])) touched_filter ≡ is_touched t i g x
touched_test t i g id x = all_three _ _ _ _ _ _ (eq_test x.version.row.table t) (eq_test x.version.row.id i) (touched_is x.version.died x.version.row.group g)

pub placed_test : (t i from : ℕ) (id : ℤ) (x : Placed) → list_all (holds ((number t ∷ number i ∷ number from ∷ []) ∷ stored id x ∷ [])) placed_filter ≡ is_row_left t i from x
placed_test t i from id x = all_three _ _ _ _ _ _ (eq_test x.version.row.table t) (eq_test x.version.row.id i) (left_is x.version.died from)

pub left_test_is : (from : ℕ) (id : ℤ) (x : Placed) → list_all (holds ((number from ∷ []) ∷ stored id x ∷ [])) left_filter ≡ is_left from x.version
left_test_is from id x = one _ _ (left_is x.version.died from)

-- a version that a query asks for, of those that did not die before a stamp
abbrev pub is_asked : Query → ℕ → Versioned → Bool
is_asked q from v = suits q v && is_left from v

both : (A B a b : Bool) → A ≡ a → B ≡ b → (A && (B && true)) ≡ (a && b)
both A B a b p q = rw (p, q, and-true b) refl

within : (A B C D a b c d : Bool) → A ≡ a → B ≡ b → C ≡ c → D ≡ d → (A && (B && (C && (D && true)))) ≡ ((a && (b && c)) && d)
within A B C D a b c d p q r e = rw (p, q, r, e, and-true d) (ap (λ x. a && x) (sym (and_assoc b c d)) ∙ sym (and_assoc a (b && c) d))

from_test : (a b : ℕ) → is_true (binary (Compare Ge Binary) (number a) (number b)) ≡ nat_le b a
unfolding binary
from_test a b = true_of _ ∙ ap is_ge (number_cmp a b) ∙ is_ge-nat_cmp a b

to_test : (a b : ℕ) → is_true (binary (Compare Le Binary) (number a) (number b)) ≡ nat_le a b
unfolding binary
to_test a b = true_of _ ∙ ap is_le (number_cmp a b) ∙ is_le-nat_cmp a b

pub table_test : (t n from : ℕ) (id : ℤ) (x : Placed) → list_all (holds ((number t ∷ number n ∷ number from ∷ []) ∷ stored id x ∷ [])) table_filter ≡ is_asked (All t) from x.version
table_test t n from id x = both _ _ _ _ (eq_test x.version.row.table t) (left_is x.version.died from)

pub row_test : (t n from i : ℕ) (id : ℤ) (x : Placed) → list_all (holds ((number t ∷ number n ∷ number from ∷ number i ∷ []) ∷ stored id x ∷ [])) row_filter ≡ is_asked (ById t i) from x.version
row_test t n from i id x = all_three _ _ _ _ _ _ (eq_test x.version.row.table t) (eq_test x.version.row.id i) (left_is x.version.died from)

pub group_test : (t n from g : ℕ) (id : ℤ) (x : Placed) → list_all (holds ((number t ∷ number n ∷ number from ∷ number g ∷ []) ∷ stored id x ∷ [])) group_filter ≡ is_asked (ByGroup t g) from x.version
group_test t n from g id x = all_three _ _ _ _ _ _ (eq_test x.version.row.table t) (eq_test x.version.row.group g) (left_is x.version.died from)

pub range_test : (t n from a b : ℕ) (id : ℤ) (x : Placed)
    → list_all (holds ((number t ∷ number n ∷ number from ∷ number a ∷ number b ∷ []) ∷ stored id x ∷ [])) range_filter ≡ is_asked (Range t a b) from x.version
range_test t n from a b id x = within _ _ _ _ _ _ _ _ (eq_test x.version.row.table t) (from_test x.version.row.id a) (to_test x.version.row.id b) (left_is x.version.died from)

-- ---- rows that are stored versions

pub select_stored : (p : Row → Bool) (P : Placed → Bool) → ((id : ℤ) (x : Placed) → p (stored id x) ≡ P x) → (rows : List Row) → AllByRecursion IsStored rows
    → filter p rows ≡ filter (λ r. P (placed_in r)) rows
select_stored p P same [] all = refl
select_stored p P same (r ∷ rows) all =
    let here : p r ≡ P (placed_in r) = ap p all.0 ∙ same (id_in (rowid r)) (placed_in r) in
    rw here (ap (λ rest. cond (P (placed_in r)) (r ∷ rest) rest) (select_stored p P same rows all.1))

pub death_again : (d : Option ℕ) → death_in (death d) ≡ d
death_again None = refl
death_again (Some t) = refl

-- a version that is stored is read back
pub placed_again : (id : ℤ) (x : Placed) → placed_in (stored id x) ≡ x
placed_again id x = ap (λ d. record x { version = record x.version { died = d } }) (death_again x.version.died)

pub cells_again : (x : Placed) → placed_from (cells_of x) ≡ x
cells_again x = ap (λ d. record x { version = record x.version { died = d } }) (death_again x.version.died)

-- and so is what the query shows of it
pub shown_again : (v : Versioned) → version_shown v.row.table (queried_columns v) ≡ v
shown_again v = ap (λ d. record v { died = d }) (death_again v.died)

-- ---- the answer of a query on one table

one_by_one : {A B : Type 0} (p : A → Bool) (e : A → B) (xs : List A) → flat_map (λ x. cond (p x) (e x ∷ []) []) xs ≡ map e (filter p xs)
one_by_one p e [] = refl
one_by_one p e (x ∷ xs) = elim (p x) as (λ b. cond b (e x ∷ []) [] ++ flat_map (λ y. cond (p y) (e y ∷ []) []) xs ≡ map e (cond b (x ∷ filter p xs) (filter p xs)))
    [ true ↦ ap (λ ys. e x ∷ ys) (one_by_one p e xs) | false ↦ one_by_one p e xs ]

-- all rows of the table that pass, up to a limit
abbrev pub asked : List Term → List Term → Term → query.Query
asked filter project limit = record (whole filter project) { limit = limit }

abbrev pub passing : List Term → Row → List Row → List Row
passing fs params = filter (λ r. list_all (holds (params ∷ r ∷ [])) fs)

pub record IsPage (fs project : List Term) (limit : Term) (params : Row) (table found : List Row) : Type 0 where
  pub ordered : List Output
  pub same : IsPermutation (map (λ r. output (asked fs project limit) (params ∷ r ∷ [])) (passing fs params table)) ordered
  pub rows : found ≡ limited (as_count (eval limit (params ∷ []))) (map (λ (o : Output). o.1) ordered)

pub answered : (fs project : List Term) (limit : Term) (db : Trees) (params : Row) (found : List Row) → IsSureAnswer (asked fs project limit) db params found → IsPage fs project limit params (db 0) found
answered fs project limit db params found h =
    let q = asked fs project limit in
    let a : IsAnswer q db params found = h Null in
    let kept : a.kept ≡ map (λ r. output q (params ∷ r ∷ [])) (passing fs params (db 0))
    = a.distinct ∙ ap (map (output q)) (a.grouped ∙ one_by_one (λ r. list_all (holds (params ∷ r ∷ [])) fs) (λ r. params ∷ r ∷ []) (db 0)) ∙ map-map (output q) (λ r. params ∷ r ∷ []) _ in
    record { ordered = a.ordered; same = subst (λ k. IsPermutation k a.ordered) kept a.same; rows = a.shown }
