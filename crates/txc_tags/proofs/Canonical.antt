-- Adding, case by case, and that it keeps a set canonical.
use Rattle.std.proofs.Common.{◌≡◌, Result, Ok, Err, OnOk, OnErr, inl, inr, ℕ, ◌+◌, ◌≤◌, List, count_by, Bool, true, false, cond, nat_le, ◌||◌, ◌==◌, refl, sym, ap, subst, arith}
use Rattle.std.proofs.lemmas.Bool.Decides.{nat_tests}
use borrow.Author.Tests.{eqb-true, eq-eqb}
use Rattle.txc_tags.specs.declared.tag.Tag.{Tag}
use Rattle.txc_tags.specs.Tags.{is_wildcard, has_tag, covers, is_of, is_full, put_in, wildcarded, with_tag, IsCanonical, wildcard}
use Rattle.txc_tags.proofs.Lists.{bool_cases, none_true, not_both, IsIn}
use Rattle.txc_tags.proofs.TagSets.{has_in, in_has, no_wildcard, put_only, wild_only, put_in_order, wild_in_order}
use Rattle.txc_tags.proofs.Counting.{count_put, count_wild, count_wild_elsewhere}

-- adding the tag leaves the wildcard of its table
abbrev pub swallows : Tag → List Tag → Bool
swallows tag set = is_wildcard tag || is_full tag.table set

pub with_covered : (tag : Tag) (set : List Tag) → covers set tag ≡ true → with_tag tag set ≡ set
with_covered tag set e = rw e refl

pub with_swallowed : (tag : Tag) (set : List Tag) → covers set tag ≡ false → swallows tag set ≡ true → with_tag tag set ≡ wildcarded tag.table set
with_swallowed tag set e f = rw (e, f) refl

pub with_put : (tag : Tag) (set : List Tag) → covers set tag ≡ false → swallows tag set ≡ false → with_tag tag set ≡ put_in tag set
with_put tag set e f = rw (e, f) refl

pub absent : (set : List Tag) (tag : Tag) → covers set tag ≡ false → has_tag set tag ≡ false
absent set tag e = (none_true (has_tag set tag) (has_tag set (wildcard tag.table)) e).0

room : (n : ℕ) → nat_le 16 n ≡ false → n + 1 ≤ 16
room n e = grind (arith, nat_tests)

put_few : (tag : Tag) (set : List Tag) (table : ℕ) → count_by (is_of table) set ≤ 16 → has_tag set tag ≡ false → is_full tag.table set ≡ false → count_by (is_of table) (put_in tag set) ≤ 16
put_few tag set table few none e = elim (bool_cases (is_of table tag)) [
  | inl here ↦
      let counted = count_put (is_of table) tag set none in
      let one : ◌≡◌ {A = ℕ} (cond (is_of table tag) 1 0) 1 = rw here refl in
      let free = subst (λ (t : ℕ). is_full t set ≡ false) (eqb-true tag.table table here) e in
      omega (arith, counted, one, room (count_by (is_of table) set) free)
  | inr elsewhere ↦
      let counted = count_put (is_of table) tag set none in
      let nothing : ◌≡◌ {A = ℕ} (cond (is_of table tag) 1 0) 0 = rw elsewhere refl in
      omega (arith, counted, nothing, few)
]

put_alone : (tag : Tag) (set : List Tag) → IsCanonical set → covers set tag ≡ false → is_wildcard tag ≡ false → (other : Tag) → IsIn other (put_in tag set) → IsIn (wildcard other.table) (put_in tag set) → is_wildcard other ≡ true
put_alone tag set c e plain other h w = elim (put_only tag set (wildcard other.table) w) [
  | inl same ↦ not_both (is_wildcard tag) (sym (ap (λ (t : Tag). is_wildcard t) same)) plain
  | inr held ↦ elim (put_only tag set other h) [
    | inl same ↦ no_wildcard set tag e (subst (λ (t : Tag). IsIn (wildcard t.table) set) same held)
    | inr there ↦ c.alone other (in_has set other there) (in_has set (wildcard other.table) held)
  ]
]

pub put_canonical : (tag : Tag) (set : List Tag) → IsCanonical set → covers set tag ≡ false → swallows tag set ≡ false → IsCanonical (put_in tag set)
put_canonical tag set c e f =
    let two = none_true (is_wildcard tag) (is_full tag.table set) f in
    record {
      in_order = put_in_order tag set c.in_order;
      alone = λ other h w. put_alone tag set c e two.0 other (has_in (put_in tag set) other h) (has_in (put_in tag set) (wildcard other.table) w);
      few = λ table. put_few tag set table (c.few table) (absent set tag e) two.1;
    }

wild_alone : (table : ℕ) (set : List Tag) → IsCanonical set → (other : Tag) → IsIn other (wildcarded table set) → IsIn (wildcard other.table) (wildcarded table set) → is_wildcard other ≡ true
wild_alone table set c other h w = elim (wild_only table set other h) [
  | inl same ↦ ap (λ (t : Tag). is_wildcard t) same
  | inr there ↦ elim (wild_only table set (wildcard other.table) w) [
    | inl same ↦ not_both (other.table == table) (eq-eqb other.table table (ap (λ (t : Tag). t.table) same)) there.1
    | inr held ↦ c.alone other (in_has set other there.0) (in_has set (wildcard other.table) held.0)
  ]
]

wild_few : (table : ℕ) (set : List Tag) (other : ℕ) → count_by (is_of other) set ≤ 16 → count_by (is_of other) (wildcarded table set) ≤ 16
wild_few table set other few = elim (bool_cases (other == table)) [
  | inl here ↦ subst (λ (t : ℕ). count_by (is_of t) (wildcarded table set) ≤ 16) (sym (eqb-true other table here)) (omega (arith, count_wild table set))
  | inr apart ↦ omega (arith, few, count_wild_elsewhere table other set apart)
]

pub wild_canonical : (table : ℕ) (set : List Tag) → IsCanonical set → IsCanonical (wildcarded table set)
wild_canonical table set c = record {
  in_order = wild_in_order table set c.in_order;
  alone = λ other h w. wild_alone table set c other (has_in (wildcarded table set) other h) (has_in (wildcarded table set) (wildcard other.table) w);
  few = λ other. wild_few table set other (c.few other);
}

pub with_canonical : (tag : Tag) (set : List Tag) → IsCanonical set → IsCanonical (with_tag tag set)
with_canonical tag set c = elim (bool_cases (covers set tag)) [
  | inl e ↦ subst (λ (s : List Tag). IsCanonical s) (sym (with_covered tag set e)) c
  | inr e ↦ elim (bool_cases (swallows tag set)) [
    | inl f ↦ subst (λ (s : List Tag). IsCanonical s) (sym (with_swallowed tag set e f)) (wild_canonical tag.table set c)
    | inr f ↦ subst (λ (s : List Tag). IsCanonical s) (sym (with_put tag set e f)) (put_canonical tag set c e f)
  ]
]

pub left_canonical : {T E : Type 0} (tag : Tag) (old new : List Tag) (result : Result T E) → IsCanonical old → OnOk result (new ≡ with_tag tag old) → OnErr result (new ≡ old) → IsCanonical new
left_canonical tag old new (Ok v) c ok err = subst (λ (s : List Tag). IsCanonical s) (sym ok) (with_canonical tag old c)
left_canonical tag old new (Err e) c ok err = subst (λ (s : List Tag). IsCanonical s) (sym err) c
