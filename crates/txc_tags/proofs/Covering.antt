-- Adding loses no cover, and what sets cover decides what they match.
use Rattle.std.proofs.Common.{◌≡◌, ◌⊎◌, inl, inr, ℕ, List, [], ◌∷◌, true, ◌||◌, ◌==◌, refl, sym, ap, subst, ◌∙◌}
use Rattle.std.specs.List.{list_any, list_all}
use borrow.Author.Tests.{eqb-true}
use Rattle.txc_tags.specs.declared.tag.Tag.{Tag}
use Rattle.txc_tags.specs.Tags.{is_wildcard, rows_match, tags_match, sets_match, covers, wildcarded, put_in, with_tag, with_tags, IsCanonical, wildcard}
use Rattle.txc_tags.proofs.Lists.{bool_cases, both_true, and_true, or_right, IsIn, any_there}
use Rattle.txc_tags.proofs.TagSets.{cover_cases, covers_held, covers_by_wildcard, put_new, put_keeps, wild_new, wild_keeps}
use Rattle.txc_tags.proofs.Canonical.{swallows, with_covered, with_swallowed, with_put, with_canonical}

-- ---- adding

pub wild_covers : (table : ℕ) (set : List Tag) (tag : Tag) → tag.table ≡ table → covers (wildcarded table set) tag ≡ true
wild_covers table set tag e = covers_by_wildcard (wildcarded table set) tag (subst (λ (t : ℕ). IsIn (wildcard t) (wildcarded table set)) (sym e) (wild_new table set))

wild_keeps_cover : (table : ℕ) (set : List Tag) (other : Tag) → covers set other ≡ true → covers (wildcarded table set) other ≡ true
wild_keeps_cover table set other e = elim (bool_cases (other.table == table)) [
  | inl here ↦ wild_covers table set other (eqb-true other.table table here)
  | inr apart ↦ elim (cover_cases set other e) [
    | inl held ↦ covers_held (wildcarded table set) other (wild_keeps table set other apart held)
    | inr wild ↦ covers_by_wildcard (wildcarded table set) other (wild_keeps table set (wildcard other.table) apart wild)
  ]
]

put_keeps_cover : (tag : Tag) (set : List Tag) (other : Tag) → covers set other ≡ true → covers (put_in tag set) other ≡ true
put_keeps_cover tag set other e = elim (cover_cases set other e) [
  | inl held ↦ covers_held (put_in tag set) other (put_keeps tag set other held)
  | inr wild ↦ covers_by_wildcard (put_in tag set) other (put_keeps tag set (wildcard other.table) wild)
]

pub added_keeps : (tag other : Tag) (set : List Tag) → covers set other ≡ true → covers (with_tag tag set) other ≡ true
added_keeps tag other set h = elim (bool_cases (covers set tag)) [
  | inl e ↦ subst (λ (s : List Tag). covers s other ≡ true) (sym (with_covered tag set e)) h
  | inr e ↦ elim (bool_cases (swallows tag set)) [
    | inl f ↦ subst (λ (s : List Tag). covers s other ≡ true) (sym (with_swallowed tag set e f)) (wild_keeps_cover tag.table set other h)
    | inr f ↦ subst (λ (s : List Tag). covers s other ≡ true) (sym (with_put tag set e f)) (put_keeps_cover tag set other h)
  ]
]

pub added_covers : (tag : Tag) (set : List Tag) → covers (with_tag tag set) tag ≡ true
added_covers tag set = elim (bool_cases (covers set tag)) [
  | inl e ↦ subst (λ (s : List Tag). covers s tag ≡ true) (sym (with_covered tag set e)) e
  | inr e ↦ elim (bool_cases (swallows tag set)) [
    | inl f ↦ subst (λ (s : List Tag). covers s tag ≡ true) (sym (with_swallowed tag set e f)) (wild_covers tag.table set tag refl)
    | inr f ↦ subst (λ (s : List Tag). covers s tag ≡ true) (sym (with_put tag set e f)) (covers_held (put_in tag set) tag (put_new tag set))
  ]
]

pub all_keep : (tags : List Tag) (other : Tag) (set : List Tag) → covers set other ≡ true → covers (with_tags tags set) other ≡ true
all_keep [] other set e = e
all_keep (t ∷ ts) other set e = all_keep ts other (with_tag t set) (added_keeps t other set e)

-- a set covers each tag that was added to it
pub all_covered : (tags : List Tag) (tag : Tag) (set : List Tag) → IsIn tag tags → covers (with_tags tags set) tag ≡ true
all_covered [] tag set h = absurd h
all_covered (t ∷ ts) tag set (inl same) = all_keep ts tag (with_tag t set) (subst (λ (x : Tag). covers (with_tag t set) x ≡ true) (sym same) (added_covers t set))
all_covered (t ∷ ts) tag set (inr later) = all_covered ts tag (with_tag t set) later

-- and all that those tags cover
pub all_cover : (tags set : List Tag) (other : Tag) → covers tags other ≡ true → covers (with_tags tags set) other ≡ true
all_cover tags set other e = elim (cover_cases tags other e) [
  | inl there ↦ all_covered tags other set there
  | inr wild ↦ elim (cover_cases (with_tags tags set) (wildcard other.table) (all_covered tags (wildcard other.table) set wild)) [
    | inl there ↦ covers_by_wildcard (with_tags tags set) other there
    | inr there ↦ covers_by_wildcard (with_tags tags set) other there
  ]
]

-- tags that are covered change nothing
pub nothing_added : (tags set : List Tag) → list_all (covers set) tags ≡ true → with_tags tags set ≡ set
nothing_added [] set e = refl
nothing_added (t ∷ ts) set e =
    let two = both_true (covers set t) (list_all (covers set) ts) e in
    ap (with_tags ts) (with_covered t set two.0) ∙ nothing_added ts set two.1

pub all_canonical : (tags : List Tag) (set : List Tag) → IsCanonical set → IsCanonical (with_tags tags set)
all_canonical [] set c = c
all_canonical (t ∷ ts) set c = all_canonical ts (with_tag t set) (with_canonical t set c)

-- ---- matching

abbrev StandsFor : Tag → Tag → Type 0
StandsFor by tag = (by ≡ tag) ⊎ (by ≡ wildcard tag.table)

-- what covers a tag
record Cover (set : List Tag) (tag : Tag) : Type 0 where
  by : Tag
  held : IsIn by set
  stands_for : StandsFor by tag

cover_of : (set : List Tag) (tag : Tag) → covers set tag ≡ true → Cover set tag
cover_of set tag e = elim (cover_cases set tag e) [
  | inl held ↦ record { by = tag; held = held; stands_for = inl refl }
  | inr wild ↦ record { by = wildcard tag.table; held = wild; stands_for = inr refl }
]

-- matching is not lost by a wildcard in the place of a tag
wider : (x y a b : Tag) → StandsFor x a → StandsFor y b → tags_match a b ≡ true → tags_match x y ≡ true
wider x y a b (inl p) (inl q) m = rw (p, q) m
wider x y a b (inl p) (inr q) m = let two = both_true (a.table == b.table) (rows_match a.rows b.rows) m in rw (p, q) (and_true (a.table == b.table) (is_wildcard a || true) two.0 (or_right (is_wildcard a) true refl))
wider x y a b (inr p) (inl q) m = let two = both_true (a.table == b.table) (rows_match a.rows b.rows) m in rw (p, q) (and_true (a.table == b.table) true two.0 refl)
wider x y a b (inr p) (inr q) m = let two = both_true (a.table == b.table) (rows_match a.rows b.rows) m in rw (p, q) (and_true (a.table == b.table) true two.0 refl)

sets_met : (xs ys : List Tag) (x y : Tag) → IsIn x xs → IsIn y ys → tags_match x y ≡ true → sets_match xs ys ≡ true
sets_met xs ys x y a b m = any_there (λ z. list_any (tags_match z) ys) x xs a (any_there (tags_match x) y ys b m)

pub covered_match : (xs ys : List Tag) (a b : Tag) → covers xs a ≡ true → covers ys b ≡ true → tags_match a b ≡ true → sets_match xs ys ≡ true
covered_match xs ys a b ca cb m =
    let x = cover_of xs a ca in
    let y = cover_of ys b cb in
    sets_met xs ys x.by y.by x.held y.held (wider x.by y.by a b x.stands_for y.stands_for m)
