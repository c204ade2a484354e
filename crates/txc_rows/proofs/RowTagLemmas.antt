-- The tags of what changes cover each answer that changes.
use Rattle.std.proofs.Common.{◌≡◌, inl, inr, List, [], ◌∷◌, ◌++◌, filter, Bool, true, false, true≢false, not, ◌&&◌, ◌==◌, nat_le, refl, sym, ap, subst, ◌∙◌}
use Rattle.std.specs.List.{flat_map}
use Rattle.txc_tags.specs.declared.tag.Tag.{Tag}
use Rattle.txc_tags.specs.Tags.{id_tag, group_tag, tags_match, sets_match}
use Rattle.txc_tags.proofs.Offered.{all_covered, covered_match}
use Rattle.txc_rows.specs.declared.query.Query.{Query}
use Rattle.txc_rows.specs.declared.query.Query.TheVariants.{ById, ByGroup, All, Range}
use Rattle.txc_rows.specs.Values.{same_row}
use Rattle.txc_rows.specs.States.{RowValue, State, matches, answer}
use Rattle.txc_rows.specs.RowTags.{query_tag, covers_query, has_row, lost, tags_of_row, tags_between}
use Rattle.txc_rows.specs.Laws.{TagsAreSound, NoTagsBetween}
use Rattle.txc_rows.proofs.Members.{IsIn, bool_cases, both_true, and_true, any_there, in_filter, from_filter, in_left, in_right}
use Rattle.txc_rows.proofs.RowTests.{has_row_in, row_itself}
use Rattle.txc_rows.proofs.Rising.{filter_state, same_rows}

in_flat : {X Y : Type 0} (f : X → List Y) (x : X) (xs : List X) (y : Y) → IsIn x xs → IsIn y (f x) → IsIn y (flat_map f xs)
in_flat f x [] y h k = absurd h
in_flat f x (z ∷ zs) y (inl same) k = in_left y (f z) (flat_map f zs) (subst (λ w. IsIn y (f w)) same k)
in_flat f x (z ∷ zs) y (inr later) k = in_right y (f z) (flat_map f zs) (in_flat f x zs y later k)

-- one of a row's tags matches the tag of a query that the row matches
tag_met : (q : Query) (r : RowValue) → matches q r ≡ true → (tag : Tag) × IsIn tag (tags_of_row r) × (tags_match tag (query_tag q) ≡ true)
tag_met (ById table id) r e = (id_tag r.table r.id, inl refl, e)
tag_met (ByGroup table group) r e = (group_tag r.table r.group, inr (inl refl), e)
tag_met (All table) r e = (id_tag r.table r.id, inl refl, and_true (r.table == table) _ e refl)
tag_met (Range table first last) r e = (id_tag r.table r.id, inl refl, and_true (r.table == table) _ (both_true (r.table == table) (nat_le first r.id && nat_le r.id last) e).0 refl)

-- a row that one state lost and that the query matches shows itself in the tags
shown : (old new : State) (q : Query) (set : List Tag) (r : RowValue) → IsIn r (lost old new ++ lost new old) → matches q r ≡ true → covers_query set q ≡ true → sets_match (tags_between old new) set ≡ true
shown old new q set r at m c =
    let it = tag_met q r m in
    covered_match (tags_between old new) set it.0 (query_tag q)
    (all_covered (flat_map tags_of_row (lost old new ++ lost new old)) it.0 [] (in_flat tags_of_row r (lost old new ++ lost new old) it.0 at it.1)) c it.2

kept : (old new : State) (q : Query) (r : RowValue) → (IsIn r (lost old new) → matches q r ≡ true → ⊥) → IsIn r (answer q old) → IsIn r (answer q new)
kept old new q r none h =
    let it = from_filter (matches q) r old h in
    elim (bool_cases (has_row new r)) [
      | inl has ↦ in_filter (matches q) r new (has_row_in new r has) it.1
      | inr not_there ↦ absurd (none (in_filter (λ x. not (has_row new x)) r old it.0 (ap not not_there)) it.1)
    ]

pub tags_sound : TagsAreSound
tags_sound old new q set ho hn apart c =
    same_rows (answer q old) (answer q new) (filter_state (matches q) old ho) (filter_state (matches q) new hn)
    (λ z h. kept old new q z (λ at m. true≢false (sym (shown old new q set z (in_left z (lost old new) (lost new old) at) m c) ∙ apart)) h)
    (λ z h. kept new old q z (λ at m. true≢false (sym (shown old new q set z (in_right z (lost old new) (lost new old) at) m c) ∙ apart)) h)

-- ---- nothing is lost between a state and itself

none_passes : (p : RowValue → Bool) (xs : State) → ((x : RowValue) → IsIn x xs → p x ≡ false) → filter p xs ≡ []
none_passes p [] h = refl
none_passes p (x ∷ xs) h = rw (h x (inl refl)) (none_passes p xs (λ y k. h y (inr k)))

lost_itself : (s : State) → lost s s ≡ []
lost_itself s = none_passes (λ r. not (has_row s r)) s (λ x h. ap not (any_there (same_row x) x s h (row_itself x)))

pub none_lost : NoTagsBetween
none_lost s = rw (lost_itself s) refl
