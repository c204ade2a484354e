use Rattle.std.proofs.Common.{◌≤◌, ◌<◌, ◌^◌, ◌/◌, arith}
use Rattle.txc_script_node.proofs.Digits.{more_digits, one_digit, first_digit, last_digit}
use Rattle.txc_script_node.proofs.output.+put_number.Goals as goal

pub push_reserved-requires : goal.push_reserved-requires
push_reserved-requires t c = omega (arith, c.requires, one_digit c.args.number c.if-number-lt10.true)

pub returns-then-number-lt10-clause-after : goal.returns-then-number-lt10-clause-after
returns-then-number-lt10-clause-after t c = first_digit c.args.number _ _ c.if-number-lt10.true c.push_reserved.ensures.items

pub returns-then-number-lt10-clause-len : goal.returns-then-number-lt10-clause-len
returns-then-number-lt10-clause-len t c = omega (arith, c.push_reserved.ensures.len, one_digit c.args.number c.if-number-lt10.true)

pub put_number-requires : goal.put_number-requires
put_number-requires t c =
    let some : 10 ≤ c.args.number = c.if-number-lt10.false in
    let fits : c.args.number < 2 ^ 64 = omega (arith, c.ranges.number) in
    let smaller : c.args.number / 10 < c.args.number = omega (arith, some) in
    (omega (arith, smaller, c.decreases), omega (arith, c.requires, more_digits c.args.number some fits))

pub push_reserved-requires-2 : goal.push_reserved-requires-2
push_reserved-requires-2 t c =
    let some : 10 ≤ c.args.number = c.if-number-lt10.false in
    let fits : c.args.number < 2 ^ 64 = omega (arith, c.ranges.number) in
    omega (arith, c.requires, c.put_number.ensures.len, c.put_number.ensures.capacity, more_digits c.args.number some fits)

pub returns-clause-after : goal.returns-clause-after
returns-clause-after t c =
    let fits : c.args.number < 2 ^ 64 = omega (arith, c.ranges.number) in
    last_digit c.args.number _ _ _ c.if-number-lt10.false fits c.put_number.ensures.after c.push_reserved-2.ensures.items

pub returns-clause-len : goal.returns-clause-len
returns-clause-len t c =
    let some : 10 ≤ c.args.number = c.if-number-lt10.false in
    let fits : c.args.number < 2 ^ 64 = omega (arith, c.ranges.number) in
    omega (arith, c.put_number.ensures.len, c.push_reserved-2.ensures.len, more_digits c.args.number some fits)
