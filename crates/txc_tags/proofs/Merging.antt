-- Two lists in order, compared in one pass.
use Rattle.std.proofs.Common.{◌≡◌, inl, inr, ℕ, ◌+◌, ◌<◌, ◌≤◌, zero, suc, Bool, true, false, List, [], ◌∷◌, length, drop, get_or, refl, sym, ap, subst, ◌∙◌, arith}
use Rattle.std.specs.List.{list_any, list_all}
use Rattle.std.proofs.lemmas.List.{drop_more}
use Rattle.txc_tags.specs.declared.tag.Tag.{Tag}
use Rattle.txc_tags.specs.Tags.{tags_match, sets_match, tag_before, is_in_order}
use Rattle.txc_tags.proofs.Lists.{both_true, or_left, not_both, IsIn, all_at}
use Rattle.txc_tags.proofs.TagOrder.{before_cases, match_after, match_before, match_itself}

none_any : (p : Tag → Bool) (xs : List Tag) → ((x : Tag) → IsIn x xs → p x ≡ false) → list_any p xs ≡ false
none_any p [] h = refl
none_any p (x ∷ xs) h = rw (h x (inl refl), none_any p xs (λ y k. h y (inr k))) refl

pub match_nothing : (xs : List Tag) → sets_match xs [] ≡ false
match_nothing [] = refl
match_nothing (x ∷ xs) = match_nothing xs

-- a tag of the second list that no tag of the first matches may be left out
without_second : (xs : List Tag) (y : Tag) (ys : List Tag) → ((x : Tag) → IsIn x xs → tags_match x y ≡ false) → sets_match xs (y ∷ ys) ≡ sets_match xs ys
without_second [] y ys h = refl
without_second (x ∷ xs) y ys h = rw (h x (inl refl), without_second xs y ys (λ z k. h z (inr k))) refl

in_order_drop : (n : ℕ) (xs : List Tag) → is_in_order xs ≡ true → is_in_order (drop n xs) ≡ true
in_order_drop zero xs e = e
in_order_drop (suc n) [] e = refl
in_order_drop (suc n) (x ∷ xs) e = in_order_drop n xs (both_true (list_all (tag_before x) xs) (is_in_order xs) e).1

-- the first tag of the first list, where it stands before that of the second and does not match it
pass_first : (x y : Tag) (xs ys : List Tag) → is_in_order (y ∷ ys) ≡ true → tags_match x y ≡ false → tag_before x y ≡ true → sets_match (x ∷ xs) (y ∷ ys) ≡ sets_match xs (y ∷ ys)
pass_first x y xs ys order none before = rw (none_any (tags_match x) (y ∷ ys) each) refl
  where
    each : (z : Tag) → IsIn z (y ∷ ys) → tags_match x z ≡ false
    each z (inl same) = ap (tags_match x) same ∙ none
    each z (inr later) = match_after x y z before (all_at (tag_before y) z ys (both_true (list_all (tag_before y) ys) (is_in_order ys) order).0 later) none

after_where : (x y : Tag) → tags_match x y ≡ false → tag_before x y ≡ false → tag_before y x ≡ true
after_where x y none late = elim (before_cases x y) [
  | inl before ↦ not_both (tag_before x y) before late
  | inr rest ↦ elim rest [
    | inl same ↦ not_both (tags_match x y) (subst (λ (t : Tag). tags_match x t ≡ true) same (match_itself x)) none
    | inr after ↦ after
  ]
]

-- the first tag of the second list, where it does not stand after that of the first and does not match it
pass_second : (x y : Tag) (xs ys : List Tag) → is_in_order (x ∷ xs) ≡ true → tags_match x y ≡ false → tag_before x y ≡ false → sets_match (x ∷ xs) (y ∷ ys) ≡ sets_match (x ∷ xs) ys
pass_second x y xs ys order none late = without_second (x ∷ xs) y ys each
  where
    each : (z : Tag) → IsIn z (x ∷ xs) → tags_match z y ≡ false
    each z (inl same) = ap (λ (t : Tag). tags_match t y) same ∙ none
    each z (inr later) = match_before y x z (after_where x y none late) (all_at (tag_before x) z xs (both_true (list_all (tag_before x) xs) (is_in_order xs) order).0 later) none

-- ---- at two places

from_place : (a : List Tag) (i : ℕ) (x : Tag) → i < length a → x ≡ get_or a i x → drop i a ≡ x ∷ drop (i + 1) a
from_place a i x h e = drop_more a i x h ∙ ap (λ z. z ∷ drop (i + 1) a) (sym e)

module _ (a b : List Tag) (i j : ℕ) (x y : Tag) (h : i < length a) (k : j < length b) (e : x ≡ get_or a i x) (f : y ≡ get_or b j y) where
  pub first_passed : is_in_order b ≡ true → tags_match x y ≡ false → tag_before x y ≡ true → sets_match (drop i a) (drop j b) ≡ sets_match (drop (i + 1) a) (drop j b)
  first_passed order none before =
      let left = from_place a i x h e in
      let right = from_place b j y k f in
      ap (λ (xs : List Tag). sets_match xs (drop j b)) left ∙ ap (sets_match (x ∷ drop (i + 1) a)) right
      ∙ pass_first x y (drop (i + 1) a) (drop (j + 1) b) (subst (λ (ys : List Tag). is_in_order ys ≡ true) right (in_order_drop j b order)) none before
      ∙ ap (sets_match (drop (i + 1) a)) (sym right)

  pub second_passed : is_in_order a ≡ true → tags_match x y ≡ false → tag_before x y ≡ false → sets_match (drop i a) (drop j b) ≡ sets_match (drop i a) (drop (j + 1) b)
  second_passed order none late =
      let left = from_place a i x h e in
      let right = from_place b j y k f in
      ap (sets_match (drop i a)) right ∙ ap (λ (xs : List Tag). sets_match xs (y ∷ drop (j + 1) b)) left
      ∙ pass_second x y (drop (i + 1) a) (drop (j + 1) b) (subst (λ (xs : List Tag). is_in_order xs ≡ true) left (in_order_drop i a order)) none late
      ∙ ap (λ (xs : List Tag). sets_match xs (drop (j + 1) b)) (sym left)

  pub both_found : tags_match x y ≡ true → sets_match (drop i a) (drop j b) ≡ true
  both_found found =
      ap (λ (xs : List Tag). sets_match xs (drop j b)) (from_place a i x h e) ∙ ap (sets_match (x ∷ drop (i + 1) a)) (from_place b j y k f)
      ∙ or_left _ _ (or_left _ _ found)

drop_all : (xs : List Tag) (n : ℕ) → length xs ≤ n → drop n xs ≡ []
drop_all [] zero h = refl
drop_all [] (suc n) h = refl
drop_all (x ∷ xs) zero h = absurd (omega (arith, h))
drop_all (x ∷ xs) (suc n) h = drop_all xs n (omega (arith, h))

pub first_ended : (a b : List Tag) (i j : ℕ) → length a ≤ i → sets_match (drop i a) (drop j b) ≡ false
first_ended a b i j h = ap (λ (xs : List Tag). sets_match xs (drop j b)) (drop_all a i h)

pub second_ended : (a b : List Tag) (i j : ℕ) → length b ≤ j → sets_match (drop i a) (drop j b) ≡ false
second_ended a b i j h = ap (sets_match (drop i a)) (drop_all b j h) ∙ match_nothing (drop i a)
