use Rattle.txc_tags.specs.TextSet.{spelt_tags_text, AreSpeltInRange}
use Rattle.txc_tags.proofs.TextReading.{longest}
use Rattle.txc_tags.proofs.text.set.bad_tag.Goals as goal

pub returns : goal.returns
returns c = (longest AreSpeltInRange spelt_tags_text c.args.text.now c.args.rest.now c.requires, c.requires.none)
