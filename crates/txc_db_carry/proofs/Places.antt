-- Rows by place: those before a place, those of a range of ids, and those before the place behind it.
use Rattle.std.proofs.Common.{◌≡◌, inl, inr, ℕ, ◌+◌, ◌≤◌, List, [], ◌∷◌, ◌++◌, filter, map, length, Bool, true, false, true≢false, ◌&&◌, ◌||◌, ◌==◌, nat_lt, nat_le, refl, sym, ap, subst, ◌∙◌, arith}
use Rattle.std.proofs.lemmas.Bool.Decides.{nat_tests}
use Rattle.std.specs.List.{AllByRecursion}
use Rattle.txc_tags.proofs.Lists.{bool_cases, both_ways, filter_alike, IsIn}
use Rattle.txc_rows.proofs.Offered.{is_in, contains_it}
use Rattle.txc_rows.specs.declared.query.Query.TheVariants.{ById, Range}
use Rattle.txc_rows.specs.declared.version.Versioned.{Versioned}
use Rattle.txc_rows.specs.Values.{IsRow}
use Rattle.txc_rows.specs.States.{RowValue, State, IsState, row_before, matches, answer}
use Rattle.txc_rows.specs.Versions.{row_of, suits, is_visible, visible_rows, IsVersion}
use Rattle.txc_rows.specs.VersionsAndStates.{VersionsSay}
use Rattle.txc_rows.proofs.Rising.{lt_trans}
use Rattle.txc_tags.specs.declared.tag.TheConstants.{LAST_TABLE}
use Rattle.txc_tags.specs.declared.text.number.TheConstants.{LAST_NUMBER}
use Rattle.txc_tags.proofs.All.{all-filter, all_weaker}
use Rattle.txc_db.specs.DatabaseValue.{DatabaseValue, IsSound, newest, newest_state}
use Rattle.txc_db.specs.Calls.{matching_of}
use Rattle.txc_db_carry.specs.Carry.{stands_before}

-- ---- one row

still : (a b t f l : ℕ) → f ≤ l → nat_lt a t || ((a == t) && nat_lt b f) ≡ true → nat_lt a t || ((a == t) && nat_lt b l) ≡ true
still a b t f l le h = grind (arith, nat_tests)

off_range : (a b t f l : ℕ) → nat_lt a t || ((a == t) && nat_lt b f) ≡ true → (a == t) && (nat_le f b && nat_le b l) ≡ false
off_range a b t f l h = grind (arith, nat_tests)

in_range : (a b t f l : ℕ) → nat_lt a t || ((a == t) && nat_lt b f) ≡ false → nat_lt a t || ((a == t) && nat_lt b (l + 1)) ≡ true → (a == t) && (nat_le f b && nat_le b l) ≡ true
in_range a b t f l h k = grind (arith, nat_tests)

from_range : (a b t f l : ℕ) → (a == t) && (nat_le f b && nat_le b l) ≡ true → nat_lt a t || ((a == t) && nat_lt b (l + 1)) ≡ true
from_range a b t f l h = grind (arith, nat_tests)

range_first : (a b t f l : ℕ) → (a == t) && (nat_le f b && nat_le b l) ≡ true → f ≤ b
range_first a b t f l h = grind (arith, nat_tests)

range_table : (a b t f l : ℕ) → (a == t) && (nat_le f b && nat_le b l) ≡ true → a ≡ t
range_table a b t f l h = grind (arith, nat_tests)

off_id : (a b t f i : ℕ) → f ≤ i → nat_lt a t || ((a == t) && nat_lt b f) ≡ true → (a == t) && (b == i) ≡ false
off_id a b t f i le h = grind (arith, nat_tests)

one_id : (a b t i : ℕ) → (a == t) && (nat_le i b && nat_le b i) ≡ true → (a == t) && (b == i) ≡ true
one_id a b t i h = grind (arith, nat_tests)

of_id : (a b t i : ℕ) → (a == t) && (b == i) ≡ true → (a == t) && (nat_le i b && nat_le b i) ≡ true
of_id a b t i h = grind (arith, nat_tests)

next_table : (a b t m : ℕ) → b ≤ m → nat_lt a t || ((a == t) && nat_lt b (m + 1)) ≡ true → nat_lt a (t + 1) || ((a == t + 1) && nat_lt b 0) ≡ true
next_table a b t m le h = grind (arith, nat_tests)

this_table : (a b t m : ℕ) → b ≤ m → nat_lt a (t + 1) || ((a == t + 1) && nat_lt b 0) ≡ true → nat_lt a t || ((a == t) && nat_lt b (m + 1)) ≡ true
this_table a b t m le h = grind (arith, nat_tests)

version_next : (a b t m : ℕ) → nat_lt a t || ((a == t) && nat_lt b m) ≡ true → nat_lt a (t + 1) || ((a == t + 1) && nat_lt b 0) ≡ true
version_next a b t m h = grind (arith, nat_tests)

last_table : (a b m : ℕ) → a ≤ m → nat_lt a (m + 1) || ((a == m + 1) && nat_lt b 0) ≡ true
last_table a b m le = grind (arith, nat_tests)

none_first : (a b : ℕ) → nat_lt a 0 || ((a == 0) && nat_lt b 0) ≡ false
none_first a b = grind (arith, nat_tests)

-- ---- lists

pub filter_none : {X : Type 0} (p : X → Bool) (xs : List X) → AllByRecursion (λ x. p x ≡ false) xs → filter p xs ≡ []
filter_none p [] h = refl
filter_none p (x ∷ xs) h = rw h.0 (filter_none p xs h.1)

every_in : {X : Type 0} (p : X → Bool) (xs : List X) → ((x : X) → IsIn x xs → p x ≡ true) → filter p xs ≡ xs
every_in p [] h = refl
every_in p (x ∷ xs) h = rw (h x (inl refl)) (ap (λ ys. x ∷ ys) (every_in p xs (λ y k. h y (inr k))))

none_at_all : {X : Type 0} (p : X → Bool) (xs : List X) → ((x : X) → p x ≡ false) → filter p xs ≡ []
none_at_all p [] h = refl
none_at_all p (x ∷ xs) h = rw (h x) (none_at_all p xs h)

-- ---- the rows before a place and those of the range behind it

module _ (p q n : RowValue → Bool) (low : (r : RowValue) → p r ≡ true → n r ≡ true) (off : (r : RowValue) → p r ≡ true → q r ≡ false)
    (high : (r : RowValue) → p r ≡ false → n r ≡ q r) (falls : (r x : RowValue) → row_before r x ≡ true → p x ≡ true → p r ≡ true) where
  none_after : (r : RowValue) (s : State) → p r ≡ false → AllByRecursion (λ x. row_before r x ≡ true) s → AllByRecursion (λ x. p x ≡ false) s
  none_after r [] away h = tt
  none_after r (x ∷ xs) away h = (
    elim (bool_cases (p x)) [
      | inl within ↦ absurd (true≢false (sym (falls r x h.0 within) ∙ away))
      | inr beyond ↦ beyond
    ],
    none_after r xs away h.1,
  )

  others : (s : State) → AllByRecursion (λ x. p x ≡ false) s → filter q s ≡ filter n s
  others [] h = refl
  others (x ∷ xs) h = rw (high x h.0, others xs h.1) refl

  joined : (s : State) → IsState s → filter p s ++ filter q s ≡ filter n s
  joined [] h = refl
  joined (r ∷ rs) h =
      let rest = joined rs h.1 in
      elim (bool_cases (p r)) [
        | inl within ↦ rw (within, low r within, off r within) (ap (λ xs. r ∷ xs) rest)
        | inr beyond ↦
            let none = none_after r rs beyond h.0 in
            rw (beyond, filter_none p rs none, high r beyond, others rs none) refl
      ]

pub range_joined : (t f l : ℕ) → f ≤ l → (s : State) → IsState s → filter (stands_before t f) s ++ answer (Range t f l) s ≡ filter (stands_before t (l + 1)) s
range_joined t f l le s h =
    joined (stands_before t f) (matches (Range t f l)) (stands_before t (l + 1))
    (λ r within. still r.table r.id t f (l + 1) (omega (arith, le)) within)
    (λ r within. off_range r.table r.id t f l within)
    (λ r beyond. both_ways _ _ (in_range r.table r.id t f l beyond) (from_range r.table r.id t f l))
    (λ r x before within. lt_trans r.table r.id x.table x.id t f before within)
    s h

pub before_more : (t f l : ℕ) → f ≤ l → (r : RowValue) → stands_before t f r ≡ true → stands_before t l r ≡ true
before_more t f l le r h = still r.table r.id t f l le h

pub range_before : (t f l : ℕ) (r : RowValue) → matches (Range t f l) r ≡ true → stands_before t (l + 1) r ≡ true
range_before t f l r h = from_range r.table r.id t f l h

-- ---- the first place, the next table, and the place behind all

pub none_before : (s : State) → filter (stands_before 0 0) s ≡ []
none_before s = none_at_all (stands_before 0 0) s (λ r. none_first r.table r.id)

visible_in : (r : RowValue) (vs : List Versioned) → IsIn r (map row_of vs) → AllByRecursion IsVersion vs → IsRow r
visible_in r [] h a = absurd h
visible_in r (v ∷ vs) (inl same) a = subst IsRow (sym same) a.0.row
visible_in r (v ∷ vs) (inr later) a = visible_in r vs later a.1

-- the rows of the newest state are rows
pub state_row : (d : DatabaseValue) → IsSound d → (r : RowValue) → IsIn r (newest_state d) → IsRow r
state_row d sound r h =
    let says : VersionsSay (newest d) d.versions (newest_state d) = sound.kept.says.kept (newest d) sound.kept.kept (omega arith) in
    let seen : IsIn r (visible_rows (newest d) d.versions) = is_in (visible_rows (newest d) d.versions) r (says.each r (contains_it (newest_state d) r h)) in
    visible_in r (filter (is_visible (newest d)) d.versions) seen (all-filter IsVersion (is_visible (newest d)) d.versions sound.kept.versions.each)

pub table_done : (d : DatabaseValue) → IsSound d → (t : ℕ) → filter (stands_before t (LAST_NUMBER + 1)) (newest_state d) ≡ filter (stands_before (t + 1) 0) (newest_state d)
table_done d sound t =
    filter_alike (stands_before t (LAST_NUMBER + 1)) (stands_before (t + 1) 0) (newest_state d)
    (λ r h. let fits : r.id ≤ LAST_NUMBER = (state_row d sound r h).id in
    both_ways _ _ (next_table r.table r.id t LAST_NUMBER fits) (this_table r.table r.id t LAST_NUMBER fits))

pub version_done : (t m : ℕ) (r : RowValue) → stands_before t m r ≡ true → stands_before (t + 1) 0 r ≡ true
version_done t m r h = version_next r.table r.id t m h

pub all_before : (d : DatabaseValue) → IsSound d → filter (stands_before (LAST_TABLE + 1) 0) (newest_state d) ≡ newest_state d
all_before d sound = every_in (stands_before (LAST_TABLE + 1) 0) (newest_state d) (λ r h. last_table r.table r.id LAST_TABLE (state_row d sound r h).table)

-- ---- versions

-- none of the versions before a place is of a row from there on
pub none_matching : (t f i : ℕ) → f ≤ i → (vs : List Versioned) → AllByRecursion (λ v. stands_before t f v.row ≡ true) vs → filter (suits (ById t i)) vs ≡ []
none_matching t f i le vs a = filter_none (suits (ById t i)) vs (all_weaker (λ v. stands_before t f v.row ≡ true) (λ v. suits (ById t i) v ≡ false) (λ v h. off_id v.row.table v.row.id t f i le h) vs a)

pub range_in : (t f l : ℕ) (r : RowValue) → matches (Range t f l) r ≡ true → (r.table ≡ t) × (f ≤ r.id)
range_in t f l r h = (range_table r.table r.id t f l h, range_first r.table r.id t f l h)

-- a range of one id asks for what the query of the id asks for
pub one_matching : (d : DatabaseValue) (t i : ℕ) → matching_of d (Range t i i) ≡ matching_of d (ById t i)
one_matching d t i = ap length (filter_alike (suits (Range t i i)) (suits (ById t i)) d.versions (λ v h. both_ways _ _ (one_id v.row.table v.row.id t i) (of_id v.row.table v.row.id t i)))
