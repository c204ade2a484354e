use Rattle.txc_tags.proofs.TextReading.{other_byte}
use Rattle.txc_tags.proofs.TextSets.{known_set, dash_refused}
use Rattle.txc_tags.proofs.set.TagSet.read.Goals as goal

pub read_tags-requires : goal.read_tags-requires
read_tags-requires c = (other_byte 45 c.args.text.now c.in-Err.field-0.now c.in-Err.ensures.refused).1

pub bad_tag-requires : goal.bad_tag-requires
bad_tag-requires c = dash_refused c.args.text.now c.in-Ok.rest.now c.if-not-is_empty.ensures c.in-Ok.ensures.answer

pub returns-in-Err-clause-read_back : goal.returns-in-Err-clause-read_back
returns-in-Err-clause-read_back c = λ tags canonical written. known_set c.args.text.now tags c.read_tags.result c.read_tags.ensures.answer canonical written
