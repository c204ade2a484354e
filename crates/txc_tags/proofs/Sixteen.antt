-- The rule of sixteen, of whole lists: what a set means, and that this makes the set.
use Rattle.std.proofs.Common.{◌≡◌, ◌⊎◌, inl, inr, ℕ, ◌<◌, ◌≤◌, Bool, true, false, true≢false, List, [], ◌∷◌, ◌++◌, filter, count_by, length, nat_le, nat_lt, cond, ◌||◌, refl, sym, ap, subst, ◌∙◌, arith}
use Rattle.std.specs.List.{AllByRecursion, IsDistinct, list_all}
use Rattle.std.specs.Cmp.{IsEquivalence}
use Rattle.std.proofs.lemmas.Bool.Decides.{nat_tests}
use Rattle.std.proofs.lemmas.List.Sums.{length-filter}
use Rattle.std.proofs.lemmas.Map.Made.{length-le_from_is_member}
use borrow.Author.Tests.{eqb-true, eq-eqb}
use Rattle.txc_tags.specs.declared.tag.Tag.{Tag}
use Rattle.txc_tags.specs.Tags.{wildcard, is_wildcard, same_tag, has_tag, covers, tag_before, is_of, is_full, is_in_order, with_tag, with_tags, set_of, different, overflows, IsCanonical, KeepsSixteen}
use Rattle.txc_tags.proofs.Lists.{bool_cases, both_true, both_ways, none_true, one_true, not_both, IsIn, in_left, in_right, in_either, all_at, in_filter, from_filter}
use Rattle.txc_tags.proofs.TagOrder.{same_is, same_itself, before_itself, wildcard_is}
use Rattle.txc_tags.proofs.TagSets.{has_in, in_has, cover_cases, put_only, wild_only, in_order_filter, same_members}
use Rattle.txc_tags.proofs.Canonical.{swallows, with_covered, with_swallowed, with_put, with_canonical, absent}
use Rattle.txc_tags.proofs.Covering.{all_covered, all_canonical}

-- ---- equal tags, and tags in order

same_back : (a b : Tag) → same_tag a b ≡ true → same_tag b a ≡ true
same_back a b e = subst (λ (t : Tag). same_tag t a ≡ true) (same_is a b e) (same_itself a)

same_laws : IsEquivalence same_tag
same_laws = record {
  refl = same_itself;
  symm = λ a b. both_ways (same_tag a b) (same_tag b a) (same_back a b) (same_back b a);
  congr = λ a b c e. ap (λ (t : Tag). same_tag t c) (same_is a b e);
}

all_others : (a : Tag) (xs : List Tag) → ((x : Tag) → IsIn x xs → same_tag a x ≡ false) → AllByRecursion (λ x. same_tag a x ≡ false) xs
all_others a [] h = tt
all_others a (x ∷ xs) h = (h x (inl refl), all_others a xs (λ y k. h y (inr k)))

order_differs : (a b : Tag) → tag_before a b ≡ true → same_tag a b ≡ false
order_differs a b e = elim (bool_cases (same_tag a b)) [
  | inl same ↦ not_both (tag_before a a) (subst (λ (t : Tag). tag_before a t ≡ true) (sym (same_is a b same)) e) (before_itself a)
  | inr differ ↦ differ
]

order_distinct : (xs : List Tag) → is_in_order xs ≡ true → IsDistinct same_tag xs
unfolding IsDistinct
order_distinct [] e = tt
order_distinct (x ∷ xs) e =
    let p = both_true (list_all (tag_before x) xs) (is_in_order xs) e in
    (all_others x xs (λ y k. order_differs x y (all_at (tag_before x) y xs p.0 k)), order_distinct xs p.1)

-- ---- one tag added

step_only : (a x : Tag) (set : List Tag) → IsIn x (with_tag a set) → (x ≡ wildcard a.table) ⊎ ((x ≡ a) ⊎ IsIn x set)
step_only a x set h = elim (bool_cases (covers set a)) [
  | inl e ↦ inr (inr (subst (λ (s : List Tag). IsIn x s) (with_covered a set e) h))
  | inr e ↦ elim (bool_cases (swallows a set)) [
    | inl f ↦ elim (wild_only a.table set x (subst (λ (s : List Tag). IsIn x s) (with_swallowed a set e f) h)) [ inl same ↦ inl same | inr there ↦ inr (inr there.0) ]
    | inr f ↦ elim (put_only a set x (subst (λ (s : List Tag). IsIn x s) (with_put a set e f) h)) [ inl same ↦ inr (inl same) | inr there ↦ inr (inr there) ]
  ]
]

-- ---- a wildcard is alone

wild_alone : (table : ℕ) (set : List Tag) → IsCanonical set → has_tag set (wildcard table) ≡ true → filter (is_of table) set ≡ wildcard table ∷ []
wild_alone table set c w =
    same_members (filter (is_of table) set) (wildcard table ∷ []) (in_order_filter (is_of table) set c.in_order) refl
    (λ z h. let it = from_filter (is_of table) z set h in
    let here : z.table ≡ table = eqb-true z.table table it.1 in
    inl (wildcard_is z (c.alone z (in_has set z it.0) (subst (λ (t : ℕ). has_tag set (wildcard t) ≡ true) (sym here) w)) ∙ ap wildcard here))
    (λ z h. elim h [
      | inl same ↦ subst (λ (t : Tag). IsIn t (filter (is_of table) set)) (sym same) (in_filter (is_of table) (wildcard table) set (has_in set (wildcard table) w) (eq-eqb table table refl))
      | inr none ↦ absurd none
    ])

-- ---- lists of tags

only_named : (tags : List Tag) (x : Tag) (set : List Tag) → is_wildcard x ≡ false → IsIn x (with_tags tags set) → IsIn x set ⊎ IsIn x tags
only_named [] x set plain h = inl h
only_named (a ∷ tags) x set plain h = elim (only_named tags x (with_tag a set) plain h) [
  | inl there ↦ elim (step_only a x set there) [
    | inl wild ↦ not_both (is_wildcard x) (ap is_wildcard wild) plain
    | inr rest ↦ elim rest [ inl same ↦ inr (inl same) | inr old ↦ inl old ]
  ]
  | inr later ↦ inr (inr later)
]

empty_canonical : IsCanonical []
empty_canonical = record { in_order = refl; alone = λ tag h w. absurd (true≢false (sym h)); few = λ table. omega arith }

is_plain : (x : Tag) (table : ℕ) (set : List Tag) → is_of table x ≡ true → IsIn x set → has_tag set (wildcard table) ≡ false → is_wildcard x ≡ false
is_plain x table set here h none = elim (bool_cases (is_wildcard x)) [
  | inl wild ↦
      let same : x ≡ wildcard table = wildcard_is x wild ∙ ap wildcard (eqb-true x.table table here) in
      not_both (has_tag set (wildcard table)) (subst (λ (t : Tag). has_tag set t ≡ true) same (in_has set x h)) none
  | inr plain ↦ plain
]

-- where the wildcard is not there, the tags of the table are those named
named : (tags : List Tag) (table : ℕ) → has_tag (set_of tags) (wildcard table) ≡ false → (x : Tag) → is_of table x ≡ true → has_tag (set_of tags) x ≡ has_tag tags x
named tags table none x here =
    both_ways (has_tag (set_of tags) x) (has_tag tags x)
    (λ h. let k = has_in (set_of tags) x h in
    elim (only_named tags x [] (is_plain x table (set_of tags) here k none) k) [ inl gone ↦ absurd gone | inr there ↦ in_has tags x there ])
    (λ h. elim (cover_cases (set_of tags) x (all_covered tags x [] (has_in tags x h))) [
      | inl there ↦ in_has (set_of tags) x there
      | inr wild ↦ not_both (has_tag (set_of tags) (wildcard table)) (in_has (set_of tags) (wildcard table) (subst (λ (t : ℕ). IsIn (wildcard t) (set_of tags)) (eqb-true x.table table here) wild)) none
    ])

-- ---- sixteen

-- a tag that is not there, and those of its table that are, are no more than a list that has them all
more_by_one : (a : Tag) (set few : List Tag) → is_in_order set ≡ true → has_tag set a ≡ false → has_tag few a ≡ true
    → ((x : Tag) → is_of a.table x ≡ true → has_tag set x ≡ true → has_tag few x ≡ true) → count_by (is_of a.table) set < length few
unfolding IsDistinct
more_by_one a set few order fresh here all =
    let old = filter (is_of a.table) set in
    let differs : (x : Tag) → IsIn x old → same_tag a x ≡ false = λ x k. elim (bool_cases (same_tag a x)) [
      | inl same ↦ not_both (has_tag set a) (subst (λ (t : Tag). has_tag set t ≡ true) (sym (same_is a x same)) (in_has set x (from_filter (is_of a.table) x set k).0)) fresh
      | inr differ ↦ differ
    ] in
    let distinct : IsDistinct same_tag (a ∷ old) = (all_others a old differs, order_distinct old (in_order_filter (is_of a.table) set order)) in
    let most = length-le_from_is_member same_laws (a ∷ old) few distinct (λ q h. elim (has_in (a ∷ old) q h) [
      | inl same ↦ subst (λ (t : Tag). has_tag few t ≡ true) (sym same) here
      | inr there ↦ let it = from_filter (is_of a.table) q set there in all q it.1 (in_has set q it.0)
    ]) in
    omega (arith, most, length-filter (is_of a.table) set)

full_is : (n : ℕ) → nat_le 16 n ≡ true → 16 ≤ n
full_is n h = grind (arith, nat_tests)

absent_where : (set : List Tag) (x : Tag) → (IsIn x set → ⊥) → has_tag set x ≡ false
absent_where set x h = elim (bool_cases (has_tag set x)) [ inl there ↦ absurd (h (has_in set x there)) | inr gone ↦ gone ]

-- a tag that is one of sixteen makes no wildcard
step_plain : (few : List Tag) (a : Tag) (set : List Tag) (table : ℕ) → length few ≤ 16 → IsCanonical set → (a ≡ wildcard table → ⊥) → has_tag set (wildcard table) ≡ false
    → ((x : Tag) → is_of table x ≡ true → has_tag set x ≡ true → has_tag few x ≡ true) → (is_of table a ≡ true → has_tag few a ≡ true) → IsIn (wildcard table) (with_tag a set) → ⊥
step_plain few a set table l c other none old new w = elim (bool_cases (covers set a)) [
  | inl e ↦ not_both (has_tag set (wildcard table)) (in_has set (wildcard table) (subst (λ (s : List Tag). IsIn (wildcard table) s) (with_covered a set e) w)) none
  | inr e ↦ elim (bool_cases (swallows a set)) [
    | inl f ↦ elim (wild_only a.table set (wildcard table) (subst (λ (s : List Tag). IsIn (wildcard table) s) (with_swallowed a set e f) w)) [
      | inl same ↦
          let t : table ≡ a.table = ap (λ (y : Tag). y.table) same in
          elim (one_true (is_wildcard a) (is_full a.table set) f) [
            | inl wild ↦ other (wildcard_is a wild ∙ sym same)
            | inr full ↦
                let below = more_by_one a set few c.in_order (absent set a e) (new (eq-eqb a.table table (sym t)))
                (λ x here h. old x (subst (λ (n : ℕ). is_of n x ≡ true) (sym t) here) h) in
                let most = full_is (count_by (is_of a.table) set) full in
                omega (arith, below, most, l)
          ]
      | inr there ↦ not_both (has_tag set (wildcard table)) (in_has set (wildcard table) there.0) none
    ]
    | inr f ↦ elim (put_only a set (wildcard table) (subst (λ (s : List Tag). IsIn (wildcard table) s) (with_put a set e f) w)) [
      | inl same ↦ other (sym same)
      | inr there ↦ not_both (has_tag set (wildcard table)) (in_has set (wildcard table) there) none
    ]
  ]
]

all_plain : (few tags set : List Tag) (table : ℕ) → length few ≤ 16 → IsCanonical set → (IsIn (wildcard table) tags → ⊥) → has_tag set (wildcard table) ≡ false
    → ((x : Tag) → is_of table x ≡ true → has_tag set x ≡ true → has_tag few x ≡ true) → ((x : Tag) → is_of table x ≡ true → IsIn x tags → has_tag few x ≡ true)
    → IsIn (wildcard table) (with_tags tags set) → ⊥
all_plain few [] set table l c other none old new w = not_both (has_tag set (wildcard table)) (in_has set (wildcard table) w) none
all_plain few (a ∷ tags) set table l c other none old new w =
    let step = step_plain few a set table l c (λ same. other (inl (sym same))) none old (λ here. new a here (inl refl)) in
    all_plain few tags (with_tag a set) table l (with_canonical a set c) (λ k. other (inr k)) (absent_where (with_tag a set) (wildcard table) step)
    (λ x here h. elim (step_only a x set (has_in (with_tag a set) x h)) [
      | inl wild ↦
          let t : a.table ≡ table = sym (ap (λ (y : Tag). y.table) wild) ∙ eqb-true x.table table here in
          absurd (step (subst (λ (y : Tag). IsIn y (with_tag a set)) (wild ∙ ap wildcard t) (has_in (with_tag a set) x h)))
      | inr rest ↦ elim rest [ inl same ↦ new x here (inl same) | inr there ↦ old x here (in_has set x there) ]
    ])
    (λ x here k. new x here (inr k)) w

-- ---- each tag once

in_different : (tags : List Tag) (x : Tag) → IsIn x tags → IsIn x (different tags)
in_different [] x h = absurd h
in_different (a ∷ tags) x h = go (λ k. in_different tags x k) (has_tag tags a) refl
  where
    go : (IsIn x tags → IsIn x (different tags)) → (b : Bool) → has_tag tags a ≡ b → IsIn x (cond b (different tags) (a ∷ different tags))
    go rest true e = elim h [ inl same ↦ rest (subst (λ (t : Tag). IsIn t tags) (sym same) (has_in tags a e)) | inr later ↦ rest later ]
    go rest false e = elim h [ inl same ↦ inl same | inr later ↦ inr (rest later) ]

from_different : (tags : List Tag) (x : Tag) → IsIn x (different tags) → IsIn x tags
from_different [] x h = absurd h
from_different (a ∷ tags) x h = go (λ k. from_different tags x k) (has_tag tags a) h
  where
    go : (IsIn x (different tags) → IsIn x tags) → (b : Bool) → IsIn x (cond b (different tags) (a ∷ different tags)) → IsIn x (a ∷ tags)
    go rest true k = inr (rest k)
    go rest false k = elim k [ inl same ↦ inl same | inr later ↦ inr (rest later) ]

-- what the list does not hold is none of its tags
unlike_all : (a : Tag) (tags : List Tag) → has_tag tags a ≡ false → (x : Tag) → IsIn x (different tags) → same_tag a x ≡ false
unlike_all a tags e x k = elim (bool_cases (same_tag a x)) [
  | inl same ↦ not_both (has_tag tags a) (subst (λ (t : Tag). has_tag tags t ≡ true) (sym (same_is a x same)) (in_has tags x (from_different tags x k))) e
  | inr differ ↦ differ
]

more_distinct : (a : Tag) (tags : List Tag) → IsDistinct same_tag (different tags) → (b : Bool) → has_tag tags a ≡ b → IsDistinct same_tag (cond b (different tags) (a ∷ different tags))
unfolding IsDistinct
more_distinct a tags rest true e = rest
more_distinct a tags rest false e = (all_others a (different tags) (unlike_all a tags e), rest)

different_distinct : (tags : List Tag) → IsDistinct same_tag (different tags)
unfolding IsDistinct
different_distinct [] = tt
different_distinct (a ∷ tags) = more_distinct a tags (different_distinct tags) (has_tag tags a) refl

unlike_each : (x : Tag) (ys : List Tag) → AllByRecursion (λ y. same_tag x y ≡ false) ys → (y : Tag) → IsIn y ys → same_tag x y ≡ false
unlike_each x [] all y k = absurd k
unlike_each x (z ∷ ys) all y (inl same) = ap (λ (t : Tag). same_tag x t) same ∙ all.0
unlike_each x (z ∷ ys) all y (inr later) = unlike_each x ys all.1 y later

kept_distinct : (p : Tag → Bool) (x : Tag) (xs : List Tag) → IsDistinct same_tag (x ∷ xs) → IsDistinct same_tag (filter p xs) → (b : Bool) → IsDistinct same_tag (cond b (x ∷ filter p xs) (filter p xs))
unfolding IsDistinct
kept_distinct p x xs d rest true = (all_others x (filter p xs) (λ y k. unlike_each x xs d.0 y (from_filter p y xs k).0), rest)
kept_distinct p x xs d rest false = rest

filter_distinct : (p : Tag → Bool) (xs : List Tag) → IsDistinct same_tag xs → IsDistinct same_tag (filter p xs)
unfolding IsDistinct
filter_distinct p [] d = tt
filter_distinct p (x ∷ xs) d = kept_distinct p x xs d (filter_distinct p xs d.1) (p x)

-- how many different tags of the table the list has
abbrev many : ℕ → List Tag → ℕ
many table tags = count_by (is_of table) (different tags)

-- it has no more of them than any list that has them all
many_le : (table : ℕ) (tags all : List Tag) → ((x : Tag) → is_of table x ≡ true → has_tag tags x ≡ true → has_tag all x ≡ true) → many table tags ≤ length all
many_le table tags all h =
    let ones = filter (is_of table) (different tags) in
    let most = length-le_from_is_member same_laws ones all (filter_distinct (is_of table) (different tags) (different_distinct tags)) (λ q k.
    let it = from_filter (is_of table) q (different tags) (has_in ones q k) in h q it.1 (in_has tags q (from_different tags q it.0))) in
    omega (arith, most, length-filter (is_of table) (different tags))

-- ---- the rule

more_than : (n : ℕ) → nat_lt 16 n ≡ true → 16 < n
more_than n e = grind (arith, nat_tests)

no_more_than : (n : ℕ) → nat_lt 16 n ≡ false → n ≤ 16
no_more_than n e = grind (arith, nat_tests)

few_not_more : (n : ℕ) → n ≤ 16 → nat_lt 16 n ≡ false
few_not_more n l = grind (arith, nat_tests)

set_canonical : (tags : List Tag) → IsCanonical (set_of tags)
set_canonical tags = all_canonical tags [] empty_canonical

-- where a list does not overflow, its set has no wildcard of the table
no_wildcard_made : (tags : List Tag) (table : ℕ) → overflows table tags ≡ false → has_tag (set_of tags) (wildcard table) ≡ false
no_wildcard_made tags table e =
    let two = none_true (has_tag tags (wildcard table)) (nat_lt 16 (many table tags)) e in
    let ones = filter (is_of table) (different tags) in
    let small : length ones ≤ 16 = omega (arith, no_more_than (many table tags) two.1, length-filter (is_of table) (different tags)) in
    absent_where (set_of tags) (wildcard table)
    (all_plain ones tags [] table small empty_canonical (λ k. not_both (has_tag tags (wildcard table)) (in_has tags (wildcard table) k) two.0) refl
    (λ x here h. absurd (true≢false (sym h)))
    (λ x here k. in_has ones x (in_filter (is_of table) x (different tags) (in_different tags x k) here)))

-- where it overflows, its set has the wildcard
wildcard_made : (tags : List Tag) (table : ℕ) → overflows table tags ≡ true → has_tag (set_of tags) (wildcard table) ≡ true
wildcard_made tags table e = elim (bool_cases (has_tag (set_of tags) (wildcard table))) [
  | inl there ↦ there
  | inr none ↦ elim (one_true (has_tag tags (wildcard table)) (nat_lt 16 (many table tags)) e) [
    | inl named_so ↦ elim (cover_cases (set_of tags) (wildcard table) (all_covered tags (wildcard table) [] (has_in tags (wildcard table) named_so))) [
      | inl there ↦ in_has (set_of tags) (wildcard table) there
      | inr there ↦ in_has (set_of tags) (wildcard table) there
    ]
    | inr over ↦
        let held = filter (is_of table) (set_of tags) in
        let most = many_le table tags held (λ x here h. in_has held x (in_filter (is_of table) x (set_of tags) (has_in (set_of tags) x (named tags table none x here ∙ h)) here)) in
        absurd (omega (arith, most, length-filter (is_of table) (set_of tags), (set_canonical tags).few table, more_than (many table tags) over))
  ]
]

pub keeps_sixteen : (tags : List Tag) (table : ℕ) → KeepsSixteen table tags (set_of tags)
keeps_sixteen tags table = record {
  wild = λ e. wild_alone table (set_of tags) (set_canonical tags) (wildcard_made tags table e);
  kept = λ e x here. named tags table (no_wildcard_made tags table e) x here;
}

-- ---- the rule makes the set

alone_has : (table : ℕ) (set : List Tag) → filter (is_of table) set ≡ wildcard table ∷ [] → (x : Tag) → is_of table x ≡ true → has_tag set x ≡ same_tag x (wildcard table)
alone_has table set e x here = both_ways (has_tag set x) (same_tag x (wildcard table))
    (λ h. elim (subst (λ (ys : List Tag). IsIn x ys) e (in_filter (is_of table) x set (has_in set x h) here)) [
      | inl same ↦ subst (λ (t : Tag). same_tag x t ≡ true) same (same_itself x)
      | inr none ↦ absurd none
    ])
    (λ h. in_has set x (from_filter (is_of table) x set (subst (λ (ys : List Tag). IsIn x ys) (sym e) (inl (same_is x (wildcard table) h)))).0)

-- two sets that keep the rule of sixteen of one list are equal
pub one_set : (tags xs ys : List Tag) → IsCanonical xs → IsCanonical ys → ((table : ℕ) → KeepsSixteen table tags xs) → ((table : ℕ) → KeepsSixteen table tags ys) → xs ≡ ys
one_set tags xs ys c d h k =
    same_members xs ys c.in_order d.in_order
    (λ z i. has_in ys z (sym (alike z) ∙ in_has xs z i))
    (λ z i. has_in xs z (alike z ∙ in_has ys z i))
  where
    alike : (z : Tag) → has_tag xs z ≡ has_tag ys z
    alike z =
        let here : is_of z.table z ≡ true = eq-eqb z.table z.table refl in
        elim (bool_cases (overflows z.table tags)) [
          | inl e ↦ alone_has z.table xs ((h z.table).wild e) z here ∙ sym (alone_has z.table ys ((k z.table).wild e) z here)
          | inr e ↦ (h z.table).kept e z here ∙ sym ((k z.table).kept e z here)
        ]

-- a set keeps the rule of its own list
keeps_itself : (set : List Tag) → IsCanonical set → (table : ℕ) → KeepsSixteen table set set
keeps_itself set c table =
    let held = filter (is_of table) set in
    let most = many_le table set held (λ x here h. in_has held x (in_filter (is_of table) x set (has_in set x h) here)) in
    let small : many table set ≤ 16 = omega (arith, most, length-filter (is_of table) set, c.few table) in
    record {
      wild = λ e. elim (one_true (has_tag set (wildcard table)) (nat_lt 16 (many table set)) e) [
        | inl w ↦ wild_alone table set c w
        | inr over ↦ not_both (nat_lt 16 (many table set)) over (few_not_more (many table set) small)
      ];
      kept = λ e x here. refl;
    }

-- adding the tags of a set one after the other gives the set
pub set_of_set : (set : List Tag) → IsCanonical set → set_of set ≡ set
set_of_set set c = one_set set (set_of set) set (set_canonical set) c (keeps_sixteen set) (keeps_itself set c)

pub with_tags_append : (xs ys set : List Tag) → with_tags (xs ++ ys) set ≡ with_tags ys (with_tags xs set)
with_tags_append [] ys set = refl
with_tags_append (a ∷ xs) ys set = with_tags_append xs ys (with_tag a set)

pub with_tags_push : (tags set : List Tag) (tag : Tag) → with_tags (tags ++ tag ∷ []) set ≡ with_tag tag (with_tags tags set)
with_tags_push tags set tag = with_tags_append tags (tag ∷ []) set

-- adding to a set is adding to its tags
added_to_tags : (set tags : List Tag) → IsCanonical set → with_tags tags set ≡ set_of (set ++ tags)
added_to_tags set tags c = ap (with_tags tags) (sym (set_of_set set c)) ∙ sym (with_tags_append set tags [])

pub joins_keep_sixteen : (set tags : List Tag) (table : ℕ) → IsCanonical set → KeepsSixteen table (set ++ tags) (with_tags tags set)
joins_keep_sixteen set tags table c = subst (λ (s : List Tag). KeepsSixteen table (set ++ tags) s) (sym (added_to_tags set tags c)) (keeps_sixteen (set ++ tags) table)

-- ---- the same tags

many_alike : (table : ℕ) (xs ys : List Tag) → ((tag : Tag) → has_tag xs tag ≡ has_tag ys tag) → many table xs ≤ many table ys
many_alike table xs ys same =
    let ones = filter (is_of table) (different ys) in
    let most = many_le table xs ones (λ x here h. in_has ones x (in_filter (is_of table) x (different ys) (in_different ys x (has_in ys x (sym (same x) ∙ h))) here)) in
    omega (arith, most, length-filter (is_of table) (different ys))

same_many : (m n : ℕ) → m ≤ n → n ≤ m → m ≡ n
same_many m n h k = omega arith

keeps_alike : (xs ys set : List Tag) (table : ℕ) → ((tag : Tag) → has_tag xs tag ≡ has_tag ys tag) → KeepsSixteen table xs set → KeepsSixteen table ys set
keeps_alike xs ys set table same h =
    let count = same_many (many table xs) (many table ys) (many_alike table xs ys same) (many_alike table ys xs (λ t. sym (same t))) in
    let over : overflows table xs ≡ overflows table ys = ap (λ b. b || nat_lt 16 (many table xs)) (same (wildcard table)) ∙ ap (λ n. has_tag ys (wildcard table) || nat_lt 16 n) count in
    record { wild = λ e. h.wild (over ∙ e); kept = λ e x here. h.kept (over ∙ e) x here ∙ same x }

same_sets : (xs ys : List Tag) → ((tag : Tag) → has_tag xs tag ≡ has_tag ys tag) → set_of xs ≡ set_of ys
same_sets xs ys same = one_set ys (set_of xs) (set_of ys) (set_canonical xs) (set_canonical ys) (λ table. keeps_alike xs ys (set_of xs) table same (keeps_sixteen xs table)) (keeps_sixteen ys)

same_beside : (set xs ys : List Tag) → ((tag : Tag) → has_tag xs tag ≡ has_tag ys tag) → (tag : Tag) → has_tag (set ++ xs) tag ≡ true → has_tag (set ++ ys) tag ≡ true
same_beside set xs ys same tag h = elim (in_either tag set xs (has_in (set ++ xs) tag h)) [
  | inl there ↦ in_has (set ++ ys) tag (in_left tag set ys there)
  | inr there ↦ in_has (set ++ ys) tag (in_right tag set ys (has_in ys tag (sym (same tag) ∙ in_has xs tag there)))
]

-- the same tags, in any order and any number of times, make the same set
pub same_added : (xs ys set : List Tag) → IsCanonical set → ((tag : Tag) → has_tag xs tag ≡ has_tag ys tag) → with_tags xs set ≡ with_tags ys set
same_added xs ys set c same =
    added_to_tags set xs c
    ∙ same_sets (set ++ xs) (set ++ ys) (λ tag. both_ways (has_tag (set ++ xs) tag) (has_tag (set ++ ys) tag) (same_beside set xs ys same tag) (same_beside set ys xs (λ t. sym (same t)) tag))
    ∙ sym (added_to_tags set ys c)
