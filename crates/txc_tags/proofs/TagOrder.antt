-- The order of tags is strict and total.
use Rattle.std.proofs.Common.{◌≡◌, ◌⊎◌, inl, inr, ℕ, Bool, true, false, true≢false, nat_lt, ◌&&◌, ◌||◌, ◌==◌, refl, sym, ap, ◌∙◌, arith}
use Rattle.std.proofs.lemmas.Bool.Decides.{nat_tests}
use borrow.Author.Tests.{eqb-true, eq-eqb}
use Rattle.txc_tags.specs.declared.tag.Tag.{Tag}
use Rattle.txc_tags.specs.declared.tag.Rows.{Rows}
use Rattle.txc_tags.specs.declared.tag.Rows.TheVariants.{All, Id, Group}
use Rattle.txc_tags.specs.Tags.{wildcard, are_all, is_wildcard, same_rows, same_tag, rows_match, tags_match, rows_before, tag_before}
use Rattle.txc_tags.proofs.Lists.{both_true, and_true, bool_cases}

-- the kinds of a table's tags in their order
abbrev kind_of : Rows → ℕ
kind_of All = 0
kind_of (Id id) = 1
kind_of (Group group) = 2

abbrev number_of : Rows → ℕ
number_of All = 0
number_of (Id id) = id
number_of (Group group) = group

-- three numbers by the first, the second and the third
abbrev is_less : ℕ → ℕ → ℕ → ℕ → ℕ → ℕ → Bool
is_less a b c d e f = nat_lt a d || (a == d && (nat_lt b e || (b == e && nat_lt c f)))

less_trans : (a b c d e f g h i : ℕ) → is_less a b c d e f ≡ true → is_less d e f g h i ≡ true → is_less a b c g h i ≡ true
less_trans a b c d e f g h i s t = grind (arith, nat_tests)

less_other : (a b c d e f : ℕ) → is_less a b c d e f ≡ false → is_less d e f a b c ≡ false → (a ≡ d) × (b ≡ e) × (c ≡ f)
less_other a b c d e f s t = grind (arith, nat_tests)

rows_less : (a b : Rows) → rows_before a b ≡ nat_lt (kind_of a) (kind_of b) || (kind_of a == kind_of b && nat_lt (number_of a) (number_of b))
rows_less All All = refl
rows_less All (Id m) = refl
rows_less All (Group m) = refl
rows_less (Id n) All = refl
rows_less (Id n) (Id m) = refl
rows_less (Id n) (Group m) = refl
rows_less (Group n) All = refl
rows_less (Group n) (Id m) = refl
rows_less (Group n) (Group m) = refl

before_less : (a b : Tag) → tag_before a b ≡ is_less a.table (kind_of a.rows) (number_of a.rows) b.table (kind_of b.rows) (number_of b.rows)
before_less a b = rw (rows_less a.rows b.rows) refl

-- rows of equal kind and number are equal
alike : (a b : Rows) → kind_of a ≡ kind_of b → number_of a ≡ number_of b → a ≡ b
alike All All q r = refl
alike All (Id m) q r = absurd (omega arith)
alike All (Group m) q r = absurd (omega arith)
alike (Id n) All q r = absurd (omega arith)
alike (Id n) (Id m) q r = ap (λ k. Id k) r
alike (Id n) (Group m) q r = absurd (omega arith)
alike (Group n) All q r = absurd (omega arith)
alike (Group n) (Id m) q r = absurd (omega arith)
alike (Group n) (Group m) q r = ap (λ k. Group k) r

-- a tag is its table and its rows
both_alike : (a b : Tag) → a.table ≡ b.table → a.rows ≡ b.rows → a ≡ b
both_alike a b p q = ap (λ t. of_both t a.rows) p ∙ ap (λ r. of_both b.table r) q
  where
    of_both : ℕ → Rows → Tag
    of_both table rows = record { table = table; rows = rows }

rows_themselves : (a : Rows) → same_rows a a ≡ true
rows_themselves All = refl
rows_themselves (Id n) = eq-eqb n n refl
rows_themselves (Group n) = eq-eqb n n refl

pub same_itself : (a : Tag) → same_tag a a ≡ true
same_itself a = and_true (a.table == a.table) (same_rows a.rows a.rows) (eq-eqb a.table a.table refl) (rows_themselves a.rows)

rows_are : (a b : Rows) → same_rows a b ≡ true → a ≡ b
rows_are All All e = refl
rows_are (Id n) (Id m) e = ap (λ k. Id k) (eqb-true n m e)
rows_are (Group n) (Group m) e = ap (λ k. Group k) (eqb-true n m e)
rows_are All (Id m) e = absurd (true≢false (sym e))
rows_are All (Group m) e = absurd (true≢false (sym e))
rows_are (Id n) All e = absurd (true≢false (sym e))
rows_are (Id n) (Group m) e = absurd (true≢false (sym e))
rows_are (Group n) All e = absurd (true≢false (sym e))
rows_are (Group n) (Id m) e = absurd (true≢false (sym e))

pub same_is : (a b : Tag) → same_tag a b ≡ true → a ≡ b
same_is a b e = let two = both_true (a.table == b.table) (same_rows a.rows b.rows) e in both_alike a b (eqb-true a.table b.table two.0) (rows_are a.rows b.rows two.1)

-- every row is all rows
all_is : (r : Rows) → are_all r ≡ true → r ≡ All
all_is All e = refl
all_is (Id n) e = absurd (true≢false (sym e))
all_is (Group n) e = absurd (true≢false (sym e))

pub wildcard_is : (a : Tag) → is_wildcard a ≡ true → a ≡ wildcard a.table
wildcard_is a e = both_alike a (wildcard a.table) refl (all_is a.rows e)

pub before_trans : (a b c : Tag) → tag_before a b ≡ true → tag_before b c ≡ true → tag_before a c ≡ true
before_trans a b c p q = before_less a c
    ∙ less_trans a.table (kind_of a.rows) (number_of a.rows) b.table (kind_of b.rows) (number_of b.rows) c.table (kind_of c.rows) (number_of c.rows) (sym (before_less a b) ∙ p) (sym (before_less b c) ∙ q)

less_itself : (a b c : ℕ) → is_less a b c a b c ≡ false
less_itself a b c = grind (arith, nat_tests)

pub before_itself : (a : Tag) → tag_before a a ≡ false
before_itself a = before_less a a ∙ less_itself a.table (kind_of a.rows) (number_of a.rows)

-- of two tags one stands before the other, or they are equal
pub before_cases : (a b : Tag) → (tag_before a b ≡ true) ⊎ ((a ≡ b) ⊎ (tag_before b a ≡ true))
before_cases a b = elim (bool_cases (tag_before a b)) [
  | inl first ↦ inl first
  | inr not_first ↦ elim (bool_cases (tag_before b a)) [
    | inl second ↦ inr (inr second)
    | inr not_second ↦
        let parts = less_other a.table (kind_of a.rows) (number_of a.rows) b.table (kind_of b.rows) (number_of b.rows) (sym (before_less a b) ∙ not_first) (sym (before_less b a) ∙ not_second) in
        inr (inl (both_alike a b parts.0 (alike a.rows b.rows parts.1 parts.2)))
  ]
]

-- ---- order and matching

-- either is of the first kind, or they are of one kind and number
abbrev is_match : ℕ → ℕ → ℕ → ℕ → ℕ → ℕ → Bool
is_match a b c d e f = a == d && (b == 0 || (e == 0 || (b == e && c == f)))

rows_matched : (a b : Rows) → rows_match a b ≡ kind_of a == 0 || (kind_of b == 0 || (kind_of a == kind_of b && number_of a == number_of b))
rows_matched All All = refl
rows_matched All (Id m) = refl
rows_matched All (Group m) = refl
rows_matched (Id n) All = refl
rows_matched (Id n) (Id m) = refl
rows_matched (Id n) (Group m) = refl
rows_matched (Group n) All = refl
rows_matched (Group n) (Id m) = refl
rows_matched (Group n) (Group m) = refl

tags_matched : (a b : Tag) → tags_match a b ≡ is_match a.table (kind_of a.rows) (number_of a.rows) b.table (kind_of b.rows) (number_of b.rows)
tags_matched a b = rw (rows_matched a.rows b.rows) refl

matches_on : (a b c d e f g h i : ℕ) → is_less a b c d e f ≡ true → is_less d e f g h i ≡ true → is_match a b c d e f ≡ false → is_match a b c g h i ≡ false
matches_on a b c d e f g h i s t n = grind (arith, nat_tests)

matches_back : (a b c d e f g h i : ℕ) → is_less a b c d e f ≡ true → is_less d e f g h i ≡ true → is_match d e f a b c ≡ false → is_match g h i a b c ≡ false
matches_back a b c d e f g h i s t n = grind (arith, nat_tests)

-- what does not match a tag after it matches none after that one
pub match_after : (a b c : Tag) → tag_before a b ≡ true → tag_before b c ≡ true → tags_match a b ≡ false → tags_match a c ≡ false
match_after a b c p q n = tags_matched a c
    ∙ matches_on a.table (kind_of a.rows) (number_of a.rows) b.table (kind_of b.rows) (number_of b.rows) c.table (kind_of c.rows) (number_of c.rows) (sym (before_less a b) ∙ p) (sym (before_less b c) ∙ q) (sym (tags_matched a b) ∙ n)

-- and none after that one matches it
pub match_before : (a b c : Tag) → tag_before a b ≡ true → tag_before b c ≡ true → tags_match b a ≡ false → tags_match c a ≡ false
match_before a b c p q n = tags_matched c a
    ∙ matches_back a.table (kind_of a.rows) (number_of a.rows) b.table (kind_of b.rows) (number_of b.rows) c.table (kind_of c.rows) (number_of c.rows) (sym (before_less a b) ∙ p) (sym (before_less b c) ∙ q) (sym (tags_matched b a) ∙ n)

itself_matched : (a b c : ℕ) → is_match a b c a b c ≡ true
itself_matched a b c = grind (arith, nat_tests)

pub match_itself : (a : Tag) → tags_match a a ≡ true
match_itself a = tags_matched a a ∙ itself_matched a.table (kind_of a.rows) (number_of a.rows)
