-- How many tags of a table a set holds once one is added.
use Rattle.std.proofs.Common.{◌≡◌, ◌⊎◌, inl, inr, zero, suc, ℕ, ◌+◌, ◌<◌, length, List, [], ◌∷◌, ◌++◌, filter, count_by, Bool, true, false, true≢false, cond, not, nat_lt, ◌==◌, ◌&&◌, refl, sym, ap, ◌∙◌, arith}
use Rattle.std.proofs.lemmas.List.Sums.{sum_by-append, sum_by-cons}
use Rattle.std.proofs.lemmas.Bool.Decides.{nat_tests}
use borrow.Author.Tests.{eq-eqb}
use Rattle.txc_tags.specs.declared.tag.Tag.{Tag}
use Rattle.txc_tags.specs.Tags.{has_tag, tag_before, is_of, put_in, wildcarded, wildcard}
use Rattle.txc_tags.proofs.Lists.{bool_cases, IsIn, count_yes, count_no}
use Rattle.txc_tags.proofs.Placing.{behind_it}

-- a count over a filter is that of both tests
counted_twice : (p f : Tag → Bool) (xs : List Tag) → count_by f (filter p xs) ≡ count_by (λ x. p x && f x) xs
counted_twice p f [] = refl
counted_twice p f (x ∷ xs) = elim (bool_cases (p x)) [
  | inl e ↦
      let one : ◌≡◌ {A = ℕ} (cond (p x && f x) 1 0) (cond (f x) 1 0) = rw e refl in
      let kept : filter p (x ∷ xs) ≡ x ∷ filter p xs = rw e refl in
      rw kept (omega (arith, one, sum_by-cons (λ y. cond (f y) 1 0) x (filter p xs), sum_by-cons (λ y. cond (p y && f y) 1 0) x xs, counted_twice p f xs))
  | inr e ↦
      let one : ◌≡◌ {A = ℕ} (cond (p x && f x) 1 0) 0 = rw e refl in
      let kept : filter p (x ∷ xs) ≡ filter p xs = rw e refl in
      rw kept (omega (arith, one, sum_by-cons (λ y. cond (p y && f y) 1 0) x xs, counted_twice p f xs))
]

-- counts of one test over two filters of which each element passes the wanted number
counted_apart : (p q f g : Tag → Bool) (xs : List Tag) → ((x : Tag) → IsIn x xs → cond (p x && f x) 1 0 + cond (q x && f x) 1 0 ≡ cond (g x) 1 0) → count_by (λ x. p x && f x) xs + count_by (λ x. q x && f x) xs ≡ count_by g xs
counted_apart p q f g [] h = refl
counted_apart p q f g (x ∷ xs) h =
    omega (arith, h x (inl refl), sum_by-cons (λ y. cond (p y && f y) 1 0) x xs, sum_by-cons (λ y. cond (q y && f y) 1 0) x xs, sum_by-cons (λ y. cond (g y) 1 0) x xs, counted_apart p q f g xs (λ y k. h y (inr k)))

-- tags kept by either of two tests, and one between them
counted_round : (p q f : Tag → Bool) (tag : Tag) (set : List Tag) → count_by f (filter p set ++ tag ∷ filter q set) ≡ (count_by (λ x. p x && f x) set + count_by (λ x. q x && f x) set) + cond (f tag) 1 0
counted_round p q f tag set =
    omega (arith, sum_by-append (λ x. cond (f x) 1 0) (filter p set) (tag ∷ filter q set), sum_by-cons (λ x. cond (f x) 1 0) tag (filter q set), counted_twice p f set, counted_twice q f set)

one_side : (b c f : Bool) → not b ≡ c → cond (b && f) 1 0 + cond (c && f) 1 0 ≡ cond f 1 0
one_side true true f e = absurd (true≢false (sym e))
one_side true false true e = refl
one_side true false false e = refl
one_side false true true e = refl
one_side false true false e = refl
one_side false false f e = absurd (true≢false e)

-- a tag that was not there counts once more
pub count_put : (f : Tag → Bool) (tag : Tag) (set : List Tag) → has_tag set tag ≡ false → count_by f (put_in tag set) ≡ count_by f set + cond (f tag) 1 0
count_put f tag set absent =
    omega (arith, counted_round (λ x. tag_before x tag) (tag_before tag) f tag set, counted_apart (λ x. tag_before x tag) (tag_before tag) f f set (λ x k. one_side (tag_before x tag) (tag_before tag x) (f x) (behind_it tag set absent x k)))

none_here : (table : ℕ) (x : Tag) → cond (nat_lt x.table table && is_of table x) 1 0 + cond (nat_lt table x.table && is_of table x) 1 0 ≡ cond false 1 0
none_here table x = grind (arith, nat_tests)

all_elsewhere : (table other : ℕ) (x : Tag) → (other == table) ≡ false → cond (nat_lt x.table table && is_of other x) 1 0 + cond (nat_lt table x.table && is_of other x) 1 0 ≡ cond (is_of other x) 1 0
all_elsewhere table other x e = grind (arith, nat_tests)

count_nothing : (xs : List Tag) → count_by (λ x. false) xs ≡ 0
count_nothing [] = refl
count_nothing (x ∷ xs) = count_no (λ y. false) x xs refl ∙ count_nothing xs

-- the wildcard is alone in its table
pub count_wild : (table : ℕ) (set : List Tag) → count_by (is_of table) (wildcarded table set) ≡ 1
count_wild table set =
    let itself : ◌≡◌ {A = ℕ} (cond (table == table) 1 0) 1 = rw (eq-eqb table table refl) refl in
    omega (arith, itself, count_nothing set, counted_round (λ x. nat_lt x.table table) (λ x. nat_lt table x.table) (is_of table) (wildcard table) set, counted_apart (λ x. nat_lt x.table table) (λ x. nat_lt table x.table) (is_of table) (λ x. false) set (λ x k. none_here table x))

-- the other tables keep their tags
pub count_wild_elsewhere : (table other : ℕ) (set : List Tag) → (other == table) ≡ false → count_by (is_of other) (wildcarded table set) ≡ count_by (is_of other) set
count_wild_elsewhere table other set apart =
    let itself : ◌≡◌ {A = ℕ} (cond (table == other) 1 0) 0 = grind (arith, nat_tests) in
    omega (arith, itself, counted_round (λ x. nat_lt x.table table) (λ x. nat_lt table x.table) (is_of other) (wildcard table) set, counted_apart (λ x. nat_lt x.table table) (λ x. nat_lt table x.table) (is_of other) (is_of other) set (λ x k. all_elsewhere table other x apart))

-- ---- lengths

count_all : (xs : List Tag) → count_by (λ x. true) xs ≡ length xs
count_all [] = refl
count_all (x ∷ xs) = count_yes (λ y. true) x xs refl ∙ omega (arith, count_all xs)

-- a tag that was not there makes the set longer
pub put_longer : (tag : Tag) (set : List Tag) → has_tag set tag ≡ false → length set < length (put_in tag set)
put_longer tag set absent = omega (arith, count_put (λ x. true) tag set absent, count_all set, count_all (put_in tag set))

none_of : (table : ℕ) (set : List Tag) → count_by (is_of table) set ≡ 0 → (x : Tag) → IsIn x set → is_of table x ≡ false
none_of table [] e x h = absurd h
none_of table (y ∷ set) e x h = elim (bool_cases (is_of table y)) [
  | inl here ↦ absurd (omega (arith, e, count_yes (is_of table) y set here))
  | inr apart ↦ elim h as (λ _. is_of table x ≡ false) [
    | inl same ↦ ap (is_of table) same ∙ apart
    | inr later ↦ none_of table set (sym (count_no (is_of table) y set apart) ∙ e) x later
  ]
]

either_side : (table : ℕ) (x : Tag) → is_of table x ≡ false → cond (nat_lt x.table table && true) 1 0 + cond (nat_lt table x.table && true) 1 0 ≡ cond true 1 0
either_side table x e = grind (arith, nat_tests)

-- a wildcard makes the set longer where no tag of its table is there
pub wild_longer : (table : ℕ) (set : List Tag) → count_by (is_of table) set ≡ 0 → length set < length (wildcarded table set)
wild_longer table set e =
    omega (
      arith,
      count_all set,
      count_all (wildcarded table set),
      counted_round (λ x. nat_lt x.table table) (λ x. nat_lt table x.table) (λ x. true) (wildcard table) set,
      counted_apart (λ x. nat_lt x.table table) (λ x. nat_lt table x.table) (λ x. true) (λ x. true) set (λ x k. either_side table x (none_of table set e x k)),
    )

pub some_or_none : (n : ℕ) → (n ≡ 0) ⊎ (0 < n)
some_or_none zero = inl refl
some_or_none (suc n) = inr (omega arith)
