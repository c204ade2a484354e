use Rattle.std.proofs.Common.{sym, ◌∙◌}
use Rattle.txc_tags.proofs.TagSets.{same_members, has_in, in_has}
use Rattle.txc_tags.proofs.laws.sets_of_the_same_tags_are_equal.Goals as goal

pub returns : goal.returns
returns c xs ys a b same =
    same_members xs ys a.in_order b.in_order
    (λ z k. has_in ys z (sym (same z) ∙ in_has xs z k))
    (λ z k. has_in xs z (same z ∙ in_has ys z k))
