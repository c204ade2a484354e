-- A tag inserted after the tags that stand before it is at its place.
use Rattle.std.proofs.Common.{◌≡◌, inl, inr, ℕ, zero, suc, List, [], ◌∷◌, filter, count_by, take, drop, Bool, true, false, not, nat_lt, ◌&&◌, ◌==◌, refl, sym, ap, ◌∙◌, arith}
use Rattle.std.specs.List.{list_all, insert}
use Rattle.std.proofs.lemmas.Bool.Decides.{nat_tests}
use Rattle.txc_tags.specs.declared.tag.Tag.{Tag}
use Rattle.txc_tags.specs.declared.tag.Rows.{Rows}
use Rattle.txc_tags.specs.declared.tag.Rows.TheVariants.{All, Id, Group}
use Rattle.txc_tags.specs.Tags.{has_tag, tag_before, is_in_order, put_in, wildcarded, wildcard}
use Rattle.txc_tags.proofs.Lists.{bool_cases, both_true, not_both, IsIn, all_at, filter_alike, count_yes, count_no}
use Rattle.txc_tags.proofs.TagOrder.{before_trans, before_cases}
use Rattle.txc_tags.proofs.TagSets.{in_has, before_not, in_order_filter}

filter_none : (p : Tag → Bool) (xs : List Tag) → ((x : Tag) → IsIn x xs → p x ≡ false) → (filter p xs ≡ []) × (filter (λ x. not (p x)) xs ≡ xs) × (count_by p xs ≡ 0)
filter_none p [] h = (refl, refl, refl)
filter_none p (x ∷ xs) h =
    let rest = filter_none p xs (λ y k. h y (inr k)) in
    let here = h x (inl refl) in
    (rw (here, rest.0) refl, rw (here, rest.1) refl, count_no p x xs here ∙ rest.2)

-- what stands after a tag that is not before another is not before it either
none_before : (tag x : Tag) (xs : List Tag) → tag_before x tag ≡ false → list_all (tag_before x) xs ≡ true → (y : Tag) → IsIn y xs → tag_before y tag ≡ false
none_before tag x xs e p y k = elim (bool_cases (tag_before y tag)) [
  | inl before ↦ not_both (tag_before x tag) (before_trans x y tag (all_at (tag_before x) y xs p k) before) e
  | inr not_before ↦ not_before
]

-- a list in order, cut after the tags that stand before one
pub record Cut (tag : Tag) (set : List Tag) (n : ℕ) : Type 0 where
  pub low : take n set ≡ filter (λ x. tag_before x tag) set
  pub high : drop n set ≡ filter (λ x. not (tag_before x tag)) set

pub cut_at : (tag : Tag) (set : List Tag) (n : ℕ) → is_in_order set ≡ true → n ≡ count_by (λ x. tag_before x tag) set → Cut tag set n
cut_at tag [] zero e h = record { low = refl; high = refl }
cut_at tag [] (suc n) e h = record { low = refl; high = refl }
cut_at tag (x ∷ xs) zero e h = elim (bool_cases (tag_before x tag)) [
  | inl before ↦ let counted = h ∙ count_yes (λ y. tag_before y tag) x xs before in absurd (omega (arith, counted))
  | inr behind ↦
      let none = filter_none (λ y. tag_before y tag) xs (none_before tag x xs behind (both_true (list_all (tag_before x) xs) (is_in_order xs) e).0) in
      record { low = rw (behind, none.0) refl; high = rw (behind, none.1) refl }
]
cut_at tag (x ∷ xs) (suc n) e h = elim (bool_cases (tag_before x tag)) [
  | inl before ↦
      let counted = h ∙ count_yes (λ y. tag_before y tag) x xs before in
      let rest = cut_at tag xs n (both_true (list_all (tag_before x) xs) (is_in_order xs) e).1 (omega (arith, counted)) in
      record { low = rw (before, rest.low) refl; high = rw (before, rest.high) refl }
  | inr behind ↦
      let none = filter_none (λ y. tag_before y tag) xs (none_before tag x xs behind (both_true (list_all (tag_before x) xs) (is_in_order xs) e).0) in
      let counted = h ∙ count_no (λ y. tag_before y tag) x xs behind ∙ none.2 in
      absurd (omega (arith, counted))
]

-- where the tag does not stand in the set, those that are not before it are after it
pub behind_it : (tag : Tag) (set : List Tag) → has_tag set tag ≡ false → (x : Tag) → IsIn x set → not (tag_before x tag) ≡ tag_before tag x
behind_it tag set absent x k = elim (before_cases x tag) [
  | inl before ↦ elim (bool_cases (tag_before tag x)) [
    | inl after ↦ before_not x tag before after
    | inr not_after ↦ rw (before, not_after) refl
  ]
  | inr rest ↦ elim rest [
    | inl same ↦ not_both (has_tag set tag) (in_has set tag (rw (sym same) k)) absent
    | inr after ↦ elim (bool_cases (tag_before x tag)) [
      | inl before ↦ before_not x tag before after
      | inr not_before ↦ rw (not_before, after) refl
    ]
  ]
]

pub inserted : (tag : Tag) (set : List Tag) (n : ℕ) → is_in_order set ≡ true → has_tag set tag ≡ false → n ≡ count_by (λ x. tag_before x tag) set → insert set n tag ≡ put_in tag set
inserted tag set n e absent h =
    let cut = cut_at tag set n e h in
    let high = filter_alike (λ x. not (tag_before x tag)) (tag_before tag) set (behind_it tag set absent) in
    rw (cut.low, cut.high, high) refl

-- ---- a wildcard, where the tags of its table are taken out

-- of the tags of other tables, those before a wildcard are those of lower tables
below_rows : (table other : ℕ) (rows : Rows) → not (other == table) && tag_before (record { table = other; rows = rows }) (wildcard table) ≡ nat_lt other table
below_rows table other All = grind (arith, nat_tests)
below_rows table other (Id n) = grind (arith, nat_tests)
below_rows table other (Group n) = grind (arith, nat_tests)

below_alike : (table : ℕ) (x : Tag) → not (x.table == table) && tag_before x (wildcard table) ≡ nat_lt x.table table
below_alike table x = below_rows table x.table x.rows

above_rows : (table other : ℕ) (rows : Rows) → not (other == table) && not (tag_before (record { table = other; rows = rows }) (wildcard table)) ≡ nat_lt table other
above_rows table other All = grind (arith, nat_tests)
above_rows table other (Id n) = grind (arith, nat_tests)
above_rows table other (Group n) = grind (arith, nat_tests)

above_alike : (table : ℕ) (x : Tag) → not (x.table == table) && not (tag_before x (wildcard table)) ≡ nat_lt table x.table
above_alike table x = above_rows table x.table x.rows

filter_twice : (p q : Tag → Bool) (xs : List Tag) → filter q (filter p xs) ≡ filter (λ x. p x && q x) xs
filter_twice p q [] = refl
filter_twice p q (x ∷ xs) = elim (bool_cases (p x)) [
  | inl e ↦ rw (e, filter_twice p q xs) refl
  | inr e ↦ rw (e, filter_twice p q xs) refl
]

pub wild_inserted : (table : ℕ) (set others : List Tag) (n : ℕ) → is_in_order set ≡ true → others ≡ filter (λ x. not (x.table == table)) set → n ≡ count_by (λ x. tag_before x (wildcard table)) others → insert others n (wildcard table) ≡ wildcarded table set
wild_inserted table set others n e is h =
    let kept = filter (λ (x : Tag). not (x.table == table)) set in
    let cut = cut_at (wildcard table) kept n (in_order_filter (λ x. not (x.table == table)) set e) (h ∙ ap (count_by (λ x. tag_before x (wildcard table))) is) in
    let low = filter_twice (λ x. not (x.table == table)) (λ x. tag_before x (wildcard table)) set ∙ filter_alike (λ x. not (x.table == table) && tag_before x (wildcard table)) (λ x. nat_lt x.table table) set (λ x k. below_alike table x) in
    let high = filter_twice (λ x. not (x.table == table)) (λ x. not (tag_before x (wildcard table))) set ∙ filter_alike (λ x. not (x.table == table) && not (tag_before x (wildcard table))) (λ x. nat_lt table x.table) set (λ x k. above_alike table x) in
    rw (is, cut.low ∙ low, cut.high ∙ high) refl
