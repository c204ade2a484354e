use Rattle.std.proofs.Common.{arith, ◌≤◌}
use Rattle.txc_tags.specs.TextNumber.{IsDigit}
use Rattle.txc_tags.proofs.TextDigits.{no_digit, zero_alone, too_large, too_large_first, step_none, step_some}
use Rattle.txc_tags.proofs.text.number.push_digit.Goals as goal

pub returns-then-not-is_digit-clause-none : goal.returns-then-not-is_digit-clause-none
returns-then-not-is_digit-clause-none c = λ n more l e. no_digit _ more c.args.byte n (omega arith) (c.is_digit.ensures.other c.if-not-is_digit.true) e

pub returns-then-digit-most-clause-none : goal.returns-then-digit-most-clause-none
returns-then-digit-most-clause-none c = λ n more l e.
    let d : IsDigit c.args.byte = c.is_digit.ensures.digit c.if-not-is_digit.false in
    too_large_first n c.args.byte more d (omega arith) (omega arith) (rw c.in-None.is at e)

pub returns-then-n-eq0-clause-none : goal.returns-then-n-eq0-clause-none
returns-then-n-eq0-clause-none c = λ n more l e. zero_alone c.args.byte n more (omega arith) (rw (c.in-Some.is, c.if-n-eq0.true) at e)

pub returns-then-n-most-clause-none : goal.returns-then-n-most-clause-none
returns-then-n-most-clause-none c = λ n more l e.
    let d : IsDigit c.args.byte = c.is_digit.ensures.digit c.if-not-is_digit.false in
    let q : c.in-Some.n ≤ c.args.most = rw c.in-Some.is at c.requires in
    too_large c.in-Some.n n c.args.byte more d (omega arith) (omega arith) (omega arith) (rw c.in-Some.is at e)

pub returns-then-digit-most-2-clause-none : goal.returns-then-digit-most-2-clause-none
returns-then-digit-most-2-clause-none c = λ n more l e.
    let d : IsDigit c.args.byte = c.is_digit.ensures.digit c.if-not-is_digit.false in
    let q : c.in-Some.n ≤ c.args.most = rw c.in-Some.is at c.requires in
    too_large c.in-Some.n n c.args.byte more d (omega arith) (omega arith) (omega arith) (rw c.in-Some.is at e)

pub returns-else-digit-most-clause-more : goal.returns-else-digit-most-clause-more
returns-else-digit-most-clause-more c =
    let d : IsDigit c.args.byte = c.is_digit.ensures.digit c.if-not-is_digit.false in
    rw (c.from-digit.ensures, c.in-None.is) (step_none c.args.byte d)

pub returns-else-digit-most-2-clause-more : goal.returns-else-digit-most-2-clause-more
returns-else-digit-most-2-clause-more c =
    let d : IsDigit c.args.byte = c.is_digit.ensures.digit c.if-not-is_digit.false in
    rw (c.from-digit.ensures, c.in-Some.is) (step_some c.in-Some.n c.args.byte d (omega arith) (omega arith))
