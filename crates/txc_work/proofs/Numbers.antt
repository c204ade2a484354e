-- How often a number stands among numbers in ascending order.
use Rattle.std.proofs.Common.{Bool, ◌≡◌, ◌≢◌, ◌∙◌, ◌⊎◌, ⊎_elim, inl, inr, ℕ, zero, suc, ◌+◌, ◌-◌, ◌==◌, ◌<◌, ◌≤◌, min, true, false, cond, List, [], ◌∷◌, length, take, Some, None, All, Contains, refl, sym, ap, subst, arith}
use mathlib.Core.Bool.{true≢false}
use Rattle.std.specs.Prelude.{slice_index, IsPermutation, IsSorted}
use Rattle.std.specs.List.{count_by, filter, fold, reduce}
use Rattle.std.specs.List.Sorted.{IsStrictlyIncreasing}
use Rattle.std.specs.Ordering.{nat_cmp}
use Rattle.std.proofs.Math.Seq.{take-length}
use Rattle.std.specs.Prelude.{nat_le}
use Rattle.std.proofs.Math.Nat.{min_comm, min-eq_left, min-le_left, min-le_right}
use Rattle.std.proofs.lemmas.Bool.{cases_eq, cond_both}
use Rattle.std.proofs.lemmas.Bool.Decides.{eqb_tells, leb_tells}
use Rattle.std.proofs.lemmas.List.Elements.{All-cons, All-contains, All-contains_itself, All-filter, All-head, All-nil, All-tail, All-weaker, Contains-append_right, Contains-get_or, filter_passes}
use Rattle.std.proofs.lemmas.List.Sorted.{sum_by-IsPermutation, IsNonDecreasingBy-from_sort}
use Rattle.std.proofs.lemmas.List.Sums.{count_by_more_yes, count_by_more_no, sum_by-cons, sum_by-take-drop}
use Rattle.txc_work.specs.Batches.{twice_in, IsLeastTwice, StandsTwice}

abbrev count_of : ℕ → List ℕ → ℕ
count_of n s = count_by (λ m. m == n) s

-- up to this place each number is below the next
abbrev pub RisesTo : List ℕ → ℕ → Type 0
RisesTo s p = (k : ℕ) → k + 1 < p → slice_index s k < slice_index s (k + 1)

unequal : (a b : ℕ) → a ≢ b → (a == b) ≡ false
unequal a b other = ⊎_elim (λ h. absurd (other h.1)) (λ h. h.0) (eqb_tells a b)

-- and so below all those after it
all_below : (s : List ℕ) (p : ℕ) → RisesTo s (p + 1) → (k : ℕ) → k < p → slice_index s k < slice_index s p
all_below s zero up k lt = absurd (omega (arith, lt))
all_below s (suc p) up k lt =
    let on : p + 1 ≡ suc p = omega arith in
    let last : slice_index s p < slice_index s (suc p) = subst (λ n. slice_index s p < slice_index s n) on (up p (omega arith)) in
    ⊎_elim
    (λ e. subst (λ n. slice_index s n < slice_index s (suc p)) (sym e) last)
    (λ other. let before = all_below s p (λ j h. up j (omega arith)) k (omega arith) in omega arith)
    (cases_eq k p)

-- a number other than these stands nowhere among them
stands_nowhere : (s : List ℕ) (m p : ℕ) → p ≤ length s → ((k : ℕ) → k < p → slice_index s k ≢ m) → count_of m (take p s) ≡ 0
stands_nowhere s m zero le other = refl
stands_nowhere s m (suc p) le other =
    let on : p + 1 ≡ suc p = omega arith in
    let no = unequal (slice_index s p) m (other p (omega arith)) in
    let before = stands_nowhere s m p (omega arith) (λ k h. other k (omega arith)) in
    subst (λ n. count_of m (take n s) ≡ 0) on (count_by_more_no (λ x. x == m) s p 0 (omega arith) no ∙ before)

-- where the numbers rise, none stands twice
stands_once : (s : List ℕ) (m p : ℕ) → p ≤ length s → RisesTo s p → count_of m (take p s) ≤ 1
stands_once s m zero le up = let none : count_of m (take 0 s) ≡ 0 = refl in omega arith
stands_once s m (suc p) le up =
    let on : p + 1 ≡ suc p = omega arith in
    let rises : RisesTo s (p + 1) = λ k h. up k (omega arith) in
    subst (λ n. count_of m (take n s) ≤ 1) on
    (⊎_elim
    (λ h.
    let none = stands_nowhere s m p (omega arith) (λ k lt e. let less = all_below s p rises k lt in let same : slice_index s p ≡ m = h.1 in absurd (omega arith)) in
    let more = count_by_more_yes (λ x. x == m) s p 0 (omega arith) h.0 in
    omega arith)
    (λ h.
    let before = stands_once s m p (omega arith) (λ k lt. up k (omega arith)) in
    let more = count_by_more_no (λ x. x == m) s p 0 (omega arith) h.0 in
    omega arith)
    (eqb_tells (slice_index s p) m))

pub none_twice : (s : List ℕ) (n : ℕ) → IsStrictlyIncreasing s → StandsTwice s n → ⊥
none_twice s n rising twice =
    let once = stands_once s n (length s) (omega arith) rising in
    let whole = ap (count_of n) (take-length s) in
    absurd (omega arith)

-- numbers from a place on that are all above one add nothing to how often that one stands
none_later : (s : List ℕ) (m p j : ℕ) → p + j ≤ length s → ((k : ℕ) → p ≤ k → k < length s → slice_index s k ≢ m)
    → count_of m (take (p + j) s) ≡ count_of m (take p s)
none_later s m p zero le other = let on : p + 0 ≡ p = omega arith in ap (λ n. count_of m (take n s)) on
none_later s m p (suc j) le other =
    let on : p + j + 1 ≡ p + suc j = omega arith in
    let no = unequal (slice_index s (p + j)) m (other (p + j) (omega arith) (omega arith)) in
    let before = none_later s m p j (omega arith) other in
    subst (λ n. count_of m (take n s) ≡ count_of m (take p s)) on
    (count_by_more_no (λ x. x == m) s (p + j) 0 (omega arith) no ∙ before)

-- a number that stands beside itself stands twice
beside : (s : List ℕ) (q : ℕ) → q + 1 < length s → slice_index s q ≡ slice_index s (q + 1) → StandsTwice s (slice_index s (q + 1))
beside s q lt same =
    let n = slice_index s (q + 1) in
    let one = count_by_more_yes (λ m. m == n) s q 0 (omega arith) (⊎_elim (λ h. h.0) (λ h. absurd (h.1 same)) (eqb_tells (slice_index s q) n)) in
    let two = count_by_more_yes (λ m. m == n) s (q + 1) 0 lt (⊎_elim (λ h. h.0) (λ h. absurd (h.1 refl)) (eqb_tells n n)) in
    let whole = sum_by-take-drop (λ m. cond (m == n) 1 0) s (q + 1 + 1) in
    omega arith

-- the first number that stands beside itself is the least that stands twice
pub first_beside : (s : List ℕ) (p : ℕ) → IsSorted nat_cmp s → 1 ≤ p → p < length s → RisesTo s p
    → slice_index s (p - 1) ≡ slice_index s p → IsLeastTwice s (slice_index s p)
first_beside s p sorted some lt up same =
    let on : p - 1 + 1 ≡ p = omega arith in
    let two = beside s (p - 1) (omega arith) (same ∙ ap (slice_index s) (sym on)) in
    record {
      twice = subst (λ k. StandsTwice s (slice_index s k)) on two;
      least = λ m twice. ⊎_elim
          (λ h. h.1)
          (λ h.
          let rest : p + (length s - p) ≡ length s = omega arith in
          let later = none_later s m p (length s - p) (omega arith)
          (λ k le below e. let up : slice_index s p ≤ slice_index s k = IsNonDecreasingBy-from_sort (λ x. x) s sorted p k 0 le below in let less : m < slice_index s p = h.1 in absurd (omega arith)) in
          let whole = ap (count_of m) (ap (λ n. take n s) rest ∙ take-length s) in
          let once = stands_once s m p (omega arith) up in
          absurd (omega arith))
          (leb_tells (slice_index s p) m);
    }

-- what stands twice among numbers stands twice among them in another order
twice_too : (xs ys : List ℕ) (n : ℕ) → IsPermutation xs ys → StandsTwice xs n → StandsTwice ys n
twice_too xs ys n moved twice = let same = sum_by-IsPermutation (λ m. cond (m == n) 1 0) xs ys moved in omega arith

-- in no order do rising numbers have one that stands twice
pub none_twice_in : (xs ys : List ℕ) (n : ℕ) → IsPermutation xs ys → IsStrictlyIncreasing ys → IsLeastTwice xs n → ⊥
none_twice_in xs ys n moved rising least = none_twice ys n rising (twice_too xs ys n moved least.twice)

-- there is one least number that stands twice, in whichever order
pub same_least : (xs ys : List ℕ) (n m : ℕ) → IsPermutation xs ys → IsPermutation ys xs → IsLeastTwice xs n → IsLeastTwice ys m → m ≡ n
same_least xs ys n m moved back one other =
    let up = one.least m (twice_too ys xs m back other.twice) in
    let down = other.least n (twice_too xs ys n moved one.twice) in
    omega arith

-- there is one least number that stands twice
pub one_least : (s : List ℕ) (n m : ℕ) → IsLeastTwice s n → IsLeastTwice s m → m ≡ n
one_least s n m one other =
    let up = one.least m other.twice in
    let down = other.least n one.twice in
    omega arith

-- ---- the least of those that stand twice

-- the lesser of two numbers is one of them
lesser : (a b : ℕ) → (min a b ≡ a) ⊎ (min a b ≡ b)
lesser a b = ⊎_elim
    (λ h. inl (min-eq_left h.1))
    (λ h. let below : b ≤ a = let less = h.1 in omega arith in inr (min_comm a b ∙ min-eq_left below))
    (leb_tells a b)

-- the least of some numbers is one of them
fold_keeps : (P : ℕ → Type 0) (x : ℕ) (xs : List ℕ) → P x → All P xs → P (fold min x xs)
fold_keeps P x [] head all = head
fold_keeps P x (y ∷ ys) head all =
    let next = All-head P y ys all in
    fold_keeps P (min x y) ys (⊎_elim (λ e. subst P (sym e) head) (λ e. subst P (sym e) next) (lesser x y)) (All-tail P y ys all)

-- and none of them is below it
fold_below : (x : ℕ) (xs : List ℕ) → (fold min x xs ≤ x) × All (λ y. fold min x xs ≤ y) xs
fold_below x [] = (omega arith, All-nil (λ y. x ≤ y))
fold_below x (y ∷ ys) =
    let rest = fold_below (min x y) ys in
    let least = rest.0 in (
      omega (arith, least, min-le_left x y),
      All-cons (λ z. fold min (min x y) ys ≤ z) y ys (omega (arith, least, min-le_right x y)) rest.1,
    )

of_reduced : (P : ℕ → Type 0) (ys : List ℕ) (n : ℕ) → Some n ≡ reduce min ys → All P ys → P n × All (λ y. n ≤ y) ys
of_reduced P [] n is all = absurd (cc)
of_reduced P (y ∷ ys) n is all =
    let same : n ≡ fold min y ys = cc in
    let below = fold_below y ys in (
      subst P (sym same) (fold_keeps P y ys (All-head P y ys all) (All-tail P y ys all)),
      subst (λ k. All (λ z. k ≤ z) (y ∷ ys)) (sym same) (All-cons (λ z. fold min y ys ≤ z) y ys below.0 below.1),
    )

none_reduced : (ys : List ℕ) (n : ℕ) → None ≡ reduce min ys → Contains ys n → ⊥
none_reduced [] n is there = let below = there.1 in absurd (omega arith)
none_reduced (y ∷ ys) n is there = absurd (cc)

-- a number that stands among these and passes a test is one of those that pass it
passes_too : (p : ℕ → Bool) (m : ℕ) → p m ≡ true → (xs : List ℕ) → 1 ≤ count_of m xs → Contains (filter p xs) m
passes_too p m pass [] some = let none : count_of m [] ≡ 0 = refl in absurd (omega arith)
passes_too p m pass (x ∷ xs) some =
    let whole : count_of m (x ∷ xs) ≡ cond (x == m) 1 0 + count_of m xs = sum_by-cons (λ y. cond (y == m) 1 0) x xs in
    ⊎_elim
    (λ h.
    let first : p x ≡ true = ap p h.1 ∙ pass in
    subst (Contains (filter p (x ∷ xs))) h.1
    (cond_both (p x) (x ∷ filter p xs) (filter p xs) (λ ys. Contains ys x)
    (λ yes. Contains-get_or (x ∷ filter p xs) 0 x (omega arith))
    (λ no. absurd (true≢false (sym first ∙ no)))))
    (λ h.
    let fewer : count_of m (x ∷ xs) ≡ 0 + count_of m xs = whole ∙ ap (λ b. cond b 1 0 + count_of m xs) h.0 in
    let rest = passes_too p m pass xs (omega arith) in
    cond_both (p x) (x ∷ filter p xs) (filter p xs) (λ ys. Contains ys m)
    (λ yes. Contains-append_right (x ∷ []) (filter p xs) m rest)
    (λ no. rest))
    (eqb_tells x m)

module _ (s : List ℕ) where
  abbrev test : ℕ → Bool
  test n = nat_le 2 (count_of n s)

  all_twice : All (StandsTwice s) (twice_in s)
  all_twice = All-weaker (λ n. test n ≡ true) (StandsTwice s)
      (λ n is. ⊎_elim (λ h. h.1) (λ h. absurd (true≢false (sym is ∙ h.0))) (leb_tells 2 (count_of n s)))
      (twice_in s)
      (filter_passes test s)

  twice_there : (n : ℕ) → StandsTwice s n → Contains (twice_in s) n
  twice_there n twice =
      let passes : test n ≡ true = ⊎_elim (λ h. h.0) (λ h. let few = h.1 in absurd (omega arith)) (leb_tells 2 (count_of n s)) in
      passes_too test n passes s (omega arith)

  pub least_of_those : (n : ℕ) → Some n ≡ reduce min (twice_in s) → IsLeastTwice s n
  least_of_those n is =
      let found = of_reduced (StandsTwice s) (twice_in s) n is all_twice in
      record {
        twice = found.0;
        least = λ m twice. All-contains (λ k. n ≤ k) (twice_in s) m found.1 (twice_there m twice);
      }

  pub named_of_those : (n : ℕ) → Some n ≡ reduce min (twice_in s) → Contains s n
  named_of_those n is =
      (of_reduced (Contains s) (twice_in s) n is (All-filter test (Contains s) s (All-contains_itself s))).0

  pub none_of_those : (n : ℕ) → None ≡ reduce min (twice_in s) → StandsTwice s n → ⊥
  none_of_those n is twice = none_reduced (twice_in s) n is (twice_there n twice)
