use Rattle.txc_tags.specs.declared.text.tag.Spelling.TheVariants.{Usual, Slashed}
use Rattle.txc_tags.specs.TextTag.{spelled}
use Rattle.txc_tags.proofs.TextTags.{reads_usual, reads_slashed, spelt_wrong}
use Rattle.txc_tags.proofs.text.tag.read_tag.Goals as goal

pub returns-in-Ok-clause-answer : goal.returns-in-Ok-clause-answer
returns-in-Ok-clause-answer c = (
  Usual,
  c.in-Ok.ensures.answer.0,
  reads_usual c.args.text.now (spelled Usual c.in-Ok.read.0) c.in-Ok.read.1.now c.in-Ok.ensures.answer.1,
)

pub returns-in-Ok-read_spelled-clause-answer : goal.returns-in-Ok-read_spelled-clause-answer
returns-in-Ok-read_spelled-clause-answer c = (
  Slashed,
  c.in-Ok-read_spelled.ensures.answer.0,
  reads_slashed c.args.text.now (spelled Slashed c.in-Ok-read_spelled.read.0) c.in-Ok-read_spelled.read.1.now c.in-Ok-read_spelled.ensures.answer.1,
)

pub returns-clause-refused : goal.returns-clause-refused
returns-clause-refused c = spelt_wrong c.args.text.now c.in-Err.rest.now c.in-Err-read_spelled.rest.now c.further.result.now c.in-Err.ensures.refused c.in-Err-read_spelled.ensures.refused c.further.ensures
