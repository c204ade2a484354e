use Rattle.std.proofs.Common.{arith, refl}
use Rattle.txc_script.proofs.DigitTable.{digit_found, no_digit, digit_table}
use Rattle.txc_script.proofs.hex.digit_value.Goals as goal

pub returns-then-value-eq-X-clause-refused : goal.returns-then-value-eq-X-clause-refused
returns-then-value-eq-X-clause-refused c n = no_digit digit_table c.args.digit c.from.result 0 n refl refl (omega (arith, c.ranges.digit)) c.from.ensures c.if-value-eq-X.true

pub returns-clause-answer : goal.returns-clause-answer
returns-clause-answer c = digit_found digit_table c.args.digit c.from.result 0 refl refl (omega (arith, c.ranges.digit)) c.from.ensures c.if-value-eq-X.false
