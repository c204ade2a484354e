use Rattle.std.proofs.Common.{arith, refl}
use Rattle.std.proofs.lemmas.Result.{IfOk-weaker, IfErr-weaker}
use Rattle.std.specs.Fmt.{decimal}
use Rattle.txc_tags.specs.TextReader.{IsWord, IsNumber, IsNumbered, GoesWrong}
use Rattle.txc_tags.proofs.TextReading.{first_wrong, then_wrong, then_reads, word_apart, handed_on}
use Rattle.txc_tags.proofs.text.number.read_numbered.Goals as goal

pub returns-in_err-rest-clause-refused : goal.returns-in_err-rest-clause-refused
returns-in_err-rest-clause-refused c = handed_on (λ rest. GoesWrong (IsNumbered c.args.word.now c.args.most) c.args.text.now rest.now) c.from_residual.result c.in_err-rest.field-0.0 c.from_residual.ensures.1
    (first_wrong (IsWord c.args.word.now) (IsNumber c.args.most) (word_apart c.args.word.now (IsNumber c.args.most)) c.args.text.now c.in_err-rest.field-0.0.now (decimal 0) (0, (omega arith, refl)) c.in_err-rest.ensures.refused)

pub returns-clause-refused : goal.returns-clause-refused
returns-clause-refused c = IfErr-weaker c.read_digits.result _ (λ rest. GoesWrong (IsNumbered c.args.word.now c.args.most) c.args.text.now rest.now)
    (λ r h. then_wrong (IsWord c.args.word.now) (IsNumber c.args.most) (word_apart c.args.word.now (IsNumber c.args.most)) c.args.text.now c.args.word.now c.in_ok-rest.rest.now c.in_ok-rest.ensures.answer r.now h) c.read_digits.ensures.refused

pub returns-clause-answer : goal.returns-clause-answer
returns-clause-answer c = IfOk-weaker c.read_digits.result _ _
    (λ r h. (h.0, then_reads (IsWord c.args.word.now) (IsNumber c.args.most) (word_apart c.args.word.now (IsNumber c.args.most)) c.args.text.now c.args.word.now c.in_ok-rest.rest.now c.in_ok-rest.ensures.answer (decimal r.0) r.1.now h.1)) c.read_digits.ensures.answer
