use Rattle.std.specs.Fmt.{decimal}
use Rattle.txc_tags.specs.TextReader.{IsNumber}
use Rattle.txc_tags.proofs.TextReading.{trailing_refused, wrong_refused}
use Rattle.txc_tags.proofs.text.number.read_number.Goals as goal

pub returns-then-not-is_empty-clause-refused : goal.returns-then-not-is_empty-clause-refused
returns-then-not-is_empty-clause-refused c = (trailing_refused (IsNumber c.args.most) c.args.text.now (decimal c.in-Ok.number) c.in-Ok.rest.now c.if-not-is_empty.ensures c.in-Ok.ensures.answer.1).none

pub returns-in-Err-clause-refused : goal.returns-in-Err-clause-refused
returns-in-Err-clause-refused c = (wrong_refused (IsNumber c.args.most) c.args.text.now c.in-Err.field-0.now c.in-Err.ensures.refused).none
