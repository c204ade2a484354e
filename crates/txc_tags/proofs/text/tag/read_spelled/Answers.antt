use Rattle.std.proofs.Common.{arith, ◌≡◌, ◌≤◌, sym}
use Rattle.txc_tags.specs.TextReader.{GoesWrong}
use Rattle.txc_tags.specs.TextTagReader.{IsSpelled}
use Rattle.txc_tags.proofs.TextReading.{handed_on}
use Rattle.txc_tags.proofs.TextTags.{opening_wrong, last_wrong, reads_tag}
use Rattle.txc_tags.proofs.text.tag.read_spelled.Goals as goal

pub returns-in_err-number-clause-refused : goal.returns-in_err-number-clause-refused
returns-in_err-number-clause-refused c = handed_on (λ rest. GoesWrong (IsSpelled c.args.spelling) c.args.text.now rest.now) c.from_residual.result c.in_err-number.field-0.0 c.from_residual.ensures.1
    (opening_wrong c.args.spelling c.args.text.now c.in_err-number.field-0.0.now (rw c.opening.ensures at c.in_err-number.ensures.refused))

pub returns-in_err-rows-clause-refused : goal.returns-in_err-rows-clause-refused
returns-in_err-rows-clause-refused c = handed_on (λ rest. GoesWrong (IsSpelled c.args.spelling) c.args.text.now rest.now) c.from_residual-in_err-rows.result c.in_err-rows.field-0.0 c.from_residual-in_err-rows.ensures.1
    (last_wrong c.args.spelling c.args.text.now c.in_ok-number.rest.now c.in_ok-number.number (rw c.opening.ensures at c.in_ok-number.ensures.answer.1) c.in_err-rows.field-0.0.now c.in_err-rows.ensures.refused)

pub returns-clause-answer : goal.returns-clause-answer
returns-clause-answer c =
    let same : c.unwrap-table.result ≡ c.in_ok-number.number = rw c.unwrap-table.ensures at c.new.ensures.answer in
    let small : c.in_ok-number.number ≤ 15 = c.in_ok-number.ensures.answer.0 in (
      (omega (arith, same, small), c.in_ok-rows.ensures.answer.0),
      reads_tag c.args.spelling c.args.text.now c.in_ok-number.rest.now c.unwrap-table.result (rw (sym same, c.opening.ensures) at c.in_ok-number.ensures.answer.1) c.in_ok-rows.rows c.in_ok-rows.rest.now c.in_ok-rows.ensures.answer.1,
    )
