use Rattle.std.proofs.Common.{None, sym, subst}
use Rattle.txc_tags.specs.Tags.{with_tag}
use Rattle.txc_tags.specs.TextSet.{IsSetOfText}
use Rattle.txc_tags.proofs.TextReading.{empty}
use Rattle.txc_tags.proofs.TextSets.{tag_wrong, comma_wrong, one_more, all_tags, carried}
use Rattle.txc_tags.proofs.text.set.read_tags.Goals as goal

pub bad_tag-requires : goal.bad_tag-requires
bad_tag-requires c = tag_wrong c.args.text.now c.loop-read.rest.now c.loop-read.invariant.0 c.loop-read.invariant.1 c.requires c.in-Err.wrong.now c.in-Err.ensures.refused

pub bad_tag-requires-in-Err-read_word : goal.bad_tag-requires-in-Err-read_word
bad_tag-requires-in-Err-read_word c =
    comma_wrong c.args.text.now c.loop-read.rest.now c.loop-read.invariant.0 c.loop-read.invariant.1 c.requires c.in-Ok.ensures.answer.0 c.in-Ok.read.0 c.in-Ok.read.1.now c.in-Ok.ensures.answer.1 c.in-Ok.ensures.answer.2 c.in-Err-read_word.wrong.now c.if-is_empty.ensures c.in-Err-read_word.ensures.refused

pub loop-read-preserved : goal.loop-read-preserved
loop-read-preserved c = (
  with_tag c.in-Ok.read.0 c.loop-read.invariant.0,
  one_more c.args.text.now c.loop-read.rest.now c.loop-read.invariant.0 c.loop-read.invariant.1 c.requires c.in-Ok.ensures.answer.0 c.in-Ok.read.0 c.in-Ok.read.1.now c.in-Ok.ensures.answer.1 c.in-Ok.ensures.answer.2 c.in-Ok-read_word.more.now c.in-Ok-read_word.ensures.answer.parts,
  carried c.in-Ok.read.0 c.loop-read.invariant.0 c.loop-read.set c.add_unless-refused.new.set c.loop-read.refused c.add_unless-refused.result c.add_unless-refused.ensures c.loop-read.invariant.2,
)

pub returns-in-None-clause-answer : goal.returns-in-None-clause-answer
returns-in-None-clause-answer c =
    subst (IsSetOfText c.args.text.now) (sym (carried c.in-Ok.read.0 c.loop-read.invariant.0 c.loop-read.set c.add_unless-refused.new.set c.loop-read.refused None c.in-None.ensures c.loop-read.invariant.2))
    (all_tags c.args.text.now c.loop-read.rest.now c.loop-read.invariant.0 c.loop-read.invariant.1 c.requires c.in-Ok.ensures.answer.0 c.in-Ok.read.0 c.in-Ok.read.1.now c.in-Ok.ensures.answer.1 c.in-Ok.ensures.answer.2 (empty c.in-Ok.read.1.now c.if-is_empty.ensures))

pub returns-in-Some-clause-refused : goal.returns-in-Some-clause-refused
returns-in-Some-clause-refused c =
    let p = all_tags c.args.text.now c.loop-read.rest.now c.loop-read.invariant.0 c.loop-read.invariant.1 c.requires c.in-Ok.ensures.answer.0 c.in-Ok.read.0 c.in-Ok.read.1.now c.in-Ok.ensures.answer.1 c.in-Ok.ensures.answer.2 (empty c.in-Ok.read.1.now c.if-is_empty.ensures) in
    (p.0, p.1)
