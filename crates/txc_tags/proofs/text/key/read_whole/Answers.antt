use Rattle.txc_tags.specs.TextGrammar.{IsText}
use Rattle.txc_tags.specs.TextKey.{key_text, IsKeyInRange}
use Rattle.txc_tags.specs.TextReader.{IsRefused}
use Rattle.txc_tags.proofs.TextReading.{handed_on}
use Rattle.txc_tags.proofs.TextKeys.{function_wrong, open_wrong, arguments_refused}
use Rattle.txc_tags.proofs.text.key.read_whole.Goals as goal

pub returns-in_err-function-clause-refused : goal.returns-in_err-function-clause-refused
returns-in_err-function-clause-refused c = handed_on (λ rest. IsRefused (IsText IsKeyInRange key_text) c.args.text.now rest.now) c.from_residual.result c.in_err-function.field-0.0 c.from_residual.ensures.1
    (function_wrong c.args.text.now c.in_err-function.field-0.0.now c.in_err-function.ensures.refused)

pub returns-in_err-rest-clause-refused : goal.returns-in_err-rest-clause-refused
returns-in_err-rest-clause-refused c = handed_on (λ rest. IsRefused (IsText IsKeyInRange key_text) c.args.text.now rest.now) c.from_residual-in_err-rest.result c.in_err-rest.field-0.0 c.from_residual-in_err-rest.ensures.1
    (open_wrong c.args.text.now c.in_ok-function.rest.now c.in_ok-function.function c.in_ok-function.ensures.answer.1 c.in_err-rest.field-0.0.now c.in_err-rest.ensures.refused)

pub returns-in_err-args-clause-refused : goal.returns-in_err-args-clause-refused
returns-in_err-args-clause-refused c = handed_on (λ rest. IsRefused (IsText IsKeyInRange key_text) c.args.text.now rest.now) c.from_residual-in_err-args.result c.in_err-args.field-0.0 c.from_residual-in_err-args.ensures.1
    (arguments_refused c.args.text.now c.in_ok-function.rest.now c.in_ok-function.function c.in_ok-function.ensures.answer.1 c.in_ok-rest.rest.now c.in_err-args.field-0.0.now c.in_ok-rest.ensures.answer c.in_err-args.ensures.refused)
