use Rattle.std.proofs.Common.{arith, All, ◌∙◌, subst}
use Rattle.std.proofs.lemmas.List.{take_all}
use Rattle.std.proofs.lemmas.List.Elements.{All-more}
use Rattle.txc_tags.specs.TextTag.{IsTagInRange}
use Rattle.txc_tags.proofs.text.range.set_is_in_range.Goals as goal

pub loop-tag-preserved : goal.loop-tag-preserved
loop-tag-preserved c = All-more IsTagInRange c.tags-tag-items.result.now c.loop-tag.tag-index c.tag-item.result c.loop-tag-test.true c.loop-tag.invariant (subst IsTagInRange c.tag-item.is c.tag_is_in_range.ensures)

pub returns : goal.returns
returns c = subst (All IsTagInRange) (take_all c.loop-tag.tag-index c.tags-tag-items.result.now (omega arith) ∙ c.tags-tag-items.ensures.answer) c.loop-tag.invariant
