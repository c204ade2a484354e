use Rattle.std.proofs.Common.{◌++◌}
use Rattle.std.specs.Fmt.{decimal}
use Rattle.txc_tags.specs.TextTag.{id_word, group_word}
use Rattle.txc_tags.proofs.TextTags.{reads_id, reads_group, rows_wrong}
use Rattle.txc_tags.proofs.text.tag.read_rows.Goals as goal

pub returns-in-Ok-read_numbered-clause-answer : goal.returns-in-Ok-read_numbered-clause-answer
returns-in-Ok-read_numbered-clause-answer c = (
  c.in-Ok-read_numbered.ensures.answer.0,
  reads_id c.args.spelling c.args.text.now (id_word c.args.spelling ++ decimal c.in-Ok-read_numbered.id) c.in-Ok-read_numbered.rest.now (rw c.id.ensures at c.in-Ok-read_numbered.ensures.answer.1),
)

pub returns-in-Ok-read_numbered-2-clause-answer : goal.returns-in-Ok-read_numbered-2-clause-answer
returns-in-Ok-read_numbered-2-clause-answer c = (
  c.in-Ok-read_numbered-2.ensures.answer.0,
  reads_group c.args.spelling c.args.text.now (group_word c.args.spelling ++ decimal c.in-Ok-read_numbered-2.group) c.in-Ok-read_numbered-2.rest.now (rw c.group.ensures at c.in-Ok-read_numbered-2.ensures.answer.1),
)

pub returns-clause-refused : goal.returns-clause-refused
returns-clause-refused c = rows_wrong c.args.spelling c.args.text.now c.in-Err.rest.now c.in-Err-read_numbered.rest.now c.in-Err-read_numbered-2.rest.now c.further.result.now c.further-2.result.now
    (rw c.all.ensures at c.in-Err.ensures.refused) (rw c.id.ensures at c.in-Err-read_numbered.ensures.refused) (rw c.group.ensures at c.in-Err-read_numbered-2.ensures.refused) c.further.ensures c.further-2.ensures
