use Rattle.std.proofs.lemmas.Result.{IfErr-weaker}
use Rattle.txc_tags.specs.TextReader.{IsRefused}
use Rattle.txc_tags.proofs.TextKeys.{IsArguments, closed_refused, some_refused}
use Rattle.txc_tags.proofs.text.key.read_arguments.Goals as goal

pub returns-in-Ok-clause-refused : goal.returns-in-Ok-clause-refused
returns-in-Ok-clause-refused c = IfErr-weaker c.close.result _ (λ rest. IsRefused IsArguments c.args.text.now rest.now)
    (λ r e. rw e.0 (closed_refused c.args.text.now c.in-Ok.rest.now e.1 c.in-Ok.ensures.answer)) c.close.ensures.refused

pub returns-clause-refused : goal.returns-clause-refused
returns-clause-refused c = IfErr-weaker c.read_some.result _ (λ rest. IsRefused IsArguments c.args.text.now rest.now)
    (λ r h. some_refused c.args.text.now c.in_default.field-0.now r.now c.in_default.ensures.refused h) c.read_some.ensures.refused
