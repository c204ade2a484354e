use Rattle.std.proofs.Common.{◌≡◌, refl, sym, ap, ◌∙◌, ◌++◌, ◌∷◌, take, arith}
use Rattle.std.specs.List.{flat_map}
use Rattle.std.proofs.Output.{has_written_append, has_written_of_eq}
use Rattle.std.proofs.lemmas.List.{take_all}
use Rattle.txc_tags.specs.TextSet.{tags_text}
use Rattle.txc_tags.specs.TextTag.{tag_text}
use Rattle.txc_tags.proofs.TextJoined.{join_others}
use Rattle.txc_tags.proofs.text.set.TagSetDisplay.fmt.Goals as goal

pub returns-clause-writes : goal.returns-clause-writes
returns-clause-writes g c = λ plain ok.
    let one = c.in_ok-write.ensures.writes plain refl in
    let others = c.loop-tag.invariant one.plain in
    let whole : take c.loop-tag.tag-index c.in-Some.others.now ≡ c.in-Some.others.now = take_all c.loop-tag.tag-index c.in-Some.others.now (omega arith) in
    let parts : c.args.self.now ≡ c.in-Some.first.now ∷ c.in-Some.others.now = sym c.tags.ensures.answer ∙ c.in-Some.ensures.cases.0 in
    has_written_of_eq _ _ _ _ _ (ap (λ xs. tag_text c.in-Some.first.now ++ flat_map (λ tag. 44 ∷ tag_text tag) xs) whole ∙ sym (join_others tag_text c.in-Some.first.now c.in-Some.others.now) ∙ ap tags_text (sym parts))
    (has_written_append _ _ _ _ _ _ one others)
