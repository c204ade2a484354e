use Rattle.txc_tags.specs.TextGrammar.{IsText}
use Rattle.txc_tags.specs.TextTag.{spelled, spelt_text, IsSpeltInRange}
use Rattle.txc_tags.proofs.TextReading.{trailing_refused, wrong_refused}
use Rattle.txc_tags.proofs.text.tag.read_whole.Goals as goal

pub returns-then-not-is_empty-clause-refused : goal.returns-then-not-is_empty-clause-refused
returns-then-not-is_empty-clause-refused c = trailing_refused (IsText IsSpeltInRange spelt_text) c.args.text.now (spelled c.in-Ok.ensures.answer.0 c.in-Ok.tag) c.in-Ok.rest.now c.if-not-is_empty.ensures c.in-Ok.ensures.answer.2

pub returns-in-Err-clause-refused : goal.returns-in-Err-clause-refused
returns-in-Err-clause-refused c = wrong_refused (IsText IsSpeltInRange spelt_text) c.args.text.now c.in-Err.rest.now c.in-Err.ensures.refused
