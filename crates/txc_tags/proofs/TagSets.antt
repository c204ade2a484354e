-- What a set holds, and that it is one list.
use Rattle.std.proofs.Common.{◌≡◌, ◌⊎◌, inl, inr, ℕ, List, [], ◌∷◌, ◌++◌, filter, Bool, true, false, cond, nat_lt, ◌==◌, refl, sym, subst, ◌∙◌, arith}
use Rattle.std.specs.List.{list_all}
use Rattle.std.proofs.lemmas.Bool.Decides.{nat_tests}
use Rattle.txc_tags.specs.declared.tag.Tag.{Tag}
use Rattle.txc_tags.specs.Tags.{same_tag, has_tag, covers, tag_before, is_in_order, put_in, wildcarded, wildcard}
use Rattle.txc_tags.proofs.Lists.{both_true, and_true, one_true, or_left, or_right, bool_cases, not_both, IsIn, in_left, in_right, in_either, any_there, any_found, all_at, all_from, in_filter, from_filter}
use Rattle.txc_tags.proofs.TagOrder.{same_itself, same_is, before_trans, before_itself, before_cases}

-- ---- what it holds

pub has_in : (set : List Tag) (tag : Tag) → has_tag set tag ≡ true → IsIn tag set
has_in set tag e = let it = any_found (same_tag tag) set e in subst (λ (t : Tag). IsIn t set) (sym (same_is tag it.0 it.2)) it.1

pub in_has : (set : List Tag) (tag : Tag) → IsIn tag set → has_tag set tag ≡ true
in_has set tag h = any_there (same_tag tag) tag set h (same_itself tag)

pub cover_cases : (set : List Tag) (tag : Tag) → covers set tag ≡ true → IsIn tag set ⊎ IsIn (wildcard tag.table) set
cover_cases set tag e = elim (one_true (has_tag set tag) (has_tag set (wildcard tag.table)) e) [
  | inl here ↦ inl (has_in set tag here)
  | inr wild ↦ inr (has_in set (wildcard tag.table) wild)
]

pub covers_held : (set : List Tag) (tag : Tag) → IsIn tag set → covers set tag ≡ true
covers_held set tag h = or_left (has_tag set tag) (has_tag set (wildcard tag.table)) (in_has set tag h)

pub covers_by_wildcard : (set : List Tag) (tag : Tag) → IsIn (wildcard tag.table) set → covers set tag ≡ true
covers_by_wildcard set tag h = or_right (has_tag set tag) (has_tag set (wildcard tag.table)) (in_has set (wildcard tag.table) h)

pub not_held : {P : Type 0} (set : List Tag) (tag : Tag) → covers set tag ≡ false → IsIn tag set → P
not_held set tag e h = not_both (covers set tag) (covers_held set tag h) e

pub no_wildcard : {P : Type 0} (set : List Tag) (tag : Tag) → covers set tag ≡ false → IsIn (wildcard tag.table) set → P
no_wildcard set tag e h = not_both (covers set tag) (covers_by_wildcard set tag h) e

-- ---- a tag put in

pub put_new : (tag : Tag) (set : List Tag) → IsIn tag (put_in tag set)
put_new tag set = in_right tag (filter (λ x. tag_before x tag) set) (tag ∷ filter (tag_before tag) set) (inl refl)

pub put_keeps : (tag : Tag) (set : List Tag) (other : Tag) → IsIn other set → IsIn other (put_in tag set)
put_keeps tag set other h =
    let low = filter (λ x. tag_before x tag) set in
    let high = filter (tag_before tag) set in
    elim (before_cases other tag) [
      | inl before ↦ in_left other low (tag ∷ high) (in_filter (λ x. tag_before x tag) other set h before)
      | inr rest ↦ elim rest [
        | inl same ↦ in_right other low (tag ∷ high) (inl same)
        | inr after ↦ in_right other low (tag ∷ high) (inr (in_filter (tag_before tag) other set h after))
      ]
    ]

pub put_only : (tag : Tag) (set : List Tag) (other : Tag) → IsIn other (put_in tag set) → (other ≡ tag) ⊎ IsIn other set
put_only tag set other h = elim (in_either other (filter (λ x. tag_before x tag) set) (tag ∷ filter (tag_before tag) set) h) [
  | inl low ↦ inr (from_filter (λ x. tag_before x tag) other set low).0
  | inr rest ↦ elim rest [
    | inl same ↦ inl same
    | inr high ↦ inr (from_filter (tag_before tag) other set high).0
  ]
]

-- ---- a wildcard in the place of its table's tags

apart_cases : (a b : ℕ) → (a == b) ≡ false → (nat_lt a b ≡ true) ⊎ (nat_lt b a ≡ true)
apart_cases a b e = elim (bool_cases (nat_lt a b)) [
  | inl less ↦ inl less
  | inr more ↦ inr (grind (arith, nat_tests))
]

less_apart : (a b : ℕ) → nat_lt a b ≡ true → (a == b) ≡ false
less_apart a b e = grind (arith, nat_tests)

more_apart : (a b : ℕ) → nat_lt b a ≡ true → (a == b) ≡ false
more_apart a b e = grind (arith, nat_tests)

pub wild_new : (table : ℕ) (set : List Tag) → IsIn (wildcard table) (wildcarded table set)
wild_new table set = in_right (wildcard table) (filter (λ x. nat_lt x.table table) set) (wildcard table ∷ filter (λ x. nat_lt table x.table) set) (inl refl)

pub wild_keeps : (table : ℕ) (set : List Tag) (other : Tag) → (other.table == table) ≡ false → IsIn other set → IsIn other (wildcarded table set)
wild_keeps table set other apart h =
    let low = filter (λ x. nat_lt x.table table) set in
    let high = filter (λ x. nat_lt table x.table) set in
    elim (apart_cases other.table table apart) [
      | inl below ↦ in_left other low (wildcard table ∷ high) (in_filter (λ (x : Tag). nat_lt x.table table) other set h below)
      | inr above ↦ in_right other low (wildcard table ∷ high) (inr (in_filter (λ (x : Tag). nat_lt table x.table) other set h above))
    ]

pub wild_only : (table : ℕ) (set : List Tag) (other : Tag) → IsIn other (wildcarded table set) → (other ≡ wildcard table) ⊎ (IsIn other set × ((other.table == table) ≡ false))
wild_only table set other h = elim (in_either other (filter (λ x. nat_lt x.table table) set) (wildcard table ∷ filter (λ x. nat_lt table x.table) set) h) [
  | inl low ↦ let it = from_filter (λ (x : Tag). nat_lt x.table table) other set low in inr (it.0, less_apart other.table table it.1)
  | inr rest ↦ elim rest [
    | inl same ↦ inl same
    | inr high ↦ let it = from_filter (λ (x : Tag). nat_lt table x.table) other set high in inr (it.0, more_apart other.table table it.1)
  ]
]

-- ---- order

pub in_order_filter : (p : Tag → Bool) (xs : List Tag) → is_in_order xs ≡ true → is_in_order (filter p xs) ≡ true
in_order_filter p [] e = refl
in_order_filter p (x ∷ xs) e =
    let two = both_true (list_all (tag_before x) xs) (is_in_order xs) e in
    let rest = in_order_filter p xs two.1 in
    elim (p x) as (λ b. is_in_order (cond b (x ∷ filter p xs) (filter p xs)) ≡ true) [
      | true ↦ and_true (list_all (tag_before x) (filter p xs)) (is_in_order (filter p xs)) (all_from (tag_before x) (filter p xs) (λ y k. all_at (tag_before x) y xs two.0 (from_filter p y xs k).0)) rest
      | false ↦ rest
    ]

in_order_append : (xs ys : List Tag) → is_in_order xs ≡ true → is_in_order ys ≡ true → ((x y : Tag) → IsIn x xs → IsIn y ys → tag_before x y ≡ true) → is_in_order (xs ++ ys) ≡ true
in_order_append [] ys e f h = f
in_order_append (x ∷ xs) ys e f h =
    let two = both_true (list_all (tag_before x) xs) (is_in_order xs) e in
    and_true (list_all (tag_before x) (xs ++ ys)) (is_in_order (xs ++ ys))
    (all_from (tag_before x) (xs ++ ys) (λ y k. elim (in_either y xs ys k) [ inl l ↦ all_at (tag_before x) y xs two.0 l | inr r ↦ h x y (inl refl) r ]))
    (in_order_append xs ys two.1 f (λ a b k. h a b (inr k)))

-- some tags before one, and some after it
in_order_round : (p q : Tag → Bool) (tag : Tag) (set : List Tag) → is_in_order set ≡ true → ((x : Tag) → p x ≡ true → tag_before x tag ≡ true) → ((x : Tag) → q x ≡ true → tag_before tag x ≡ true) → is_in_order (filter p set ++ tag ∷ filter q set) ≡ true
in_order_round p q tag set e low high =
    in_order_append (filter p set) (tag ∷ filter q set) (in_order_filter p set e)
    (and_true (list_all (tag_before tag) (filter q set)) (is_in_order (filter q set)) (all_from (tag_before tag) (filter q set) (λ x k. high x (from_filter q x set k).1)) (in_order_filter q set e))
    (λ x y k m. let first = low x (from_filter p x set k).1 in elim m [
      | inl same ↦ subst (λ (t : Tag). tag_before x t ≡ true) (sym same) first
      | inr later ↦ before_trans x tag y first (high y (from_filter q y set later).1)
    ])

pub put_in_order : (tag : Tag) (set : List Tag) → is_in_order set ≡ true → is_in_order (put_in tag set) ≡ true
put_in_order tag set e = in_order_round (λ x. tag_before x tag) (tag_before tag) tag set e (λ x k. k) (λ x k. k)

pub wild_in_order : (table : ℕ) (set : List Tag) → is_in_order set ≡ true → is_in_order (wildcarded table set) ≡ true
wild_in_order table set e =
    in_order_round (λ x. nat_lt x.table table) (λ x. nat_lt table x.table) (wildcard table) set e
    (λ x k. or_left (nat_lt x.table table) _ k)
    (λ x k. or_left (nat_lt table x.table) _ k)

-- ---- sets in order that hold the same are equal

pub before_not : {P : Type 0} (a b : Tag) → tag_before a b ≡ true → tag_before b a ≡ true → P
before_not a b p q = not_both (tag_before a a) (before_trans a b a p q) (before_itself a)

first_same : (x y : Tag) (xs ys : List Tag) → list_all (tag_before x) xs ≡ true → list_all (tag_before y) ys ≡ true → IsIn x (y ∷ ys) → IsIn y (x ∷ xs) → x ≡ y
first_same x y xs ys p q (inl same) k = same
first_same x y xs ys p q (inr later) (inl same) = sym same
first_same x y xs ys p q (inr later) (inr other) = before_not x y (all_at (tag_before x) y xs p other) (all_at (tag_before y) x ys q later)

rest_held : (x y : Tag) (xs ys : List Tag) → x ≡ y → list_all (tag_before x) xs ≡ true → ((z : Tag) → IsIn z (x ∷ xs) → IsIn z (y ∷ ys)) → (z : Tag) → IsIn z xs → IsIn z ys
rest_held x y xs ys same p there z k = elim (there z (inr k)) [
  | inl first ↦ not_both (tag_before x x) (subst (λ (t : Tag). tag_before x t ≡ true) (first ∙ sym same) (all_at (tag_before x) z xs p k)) (before_itself x)
  | inr later ↦ later
]

pub same_members : (xs ys : List Tag) → is_in_order xs ≡ true → is_in_order ys ≡ true → ((z : Tag) → IsIn z xs → IsIn z ys) → ((z : Tag) → IsIn z ys → IsIn z xs) → xs ≡ ys
same_members [] [] e f there back = refl
same_members [] (y ∷ ys) e f there back = absurd (back y (inl refl))
same_members (x ∷ xs) [] e f there back = absurd (there x (inl refl))
same_members (x ∷ xs) (y ∷ ys) e f there back =
    let p = both_true (list_all (tag_before x) xs) (is_in_order xs) e in
    let q = both_true (list_all (tag_before y) ys) (is_in_order ys) f in
    let first = first_same x y xs ys p.0 q.0 (there x (inl refl)) (back y (inl refl)) in
    let rest = same_members xs ys p.1 q.1 (rest_held x y xs ys first p.0 there) (rest_held y x ys xs (sym first) q.0 back) in
    rw (first, rest) refl
