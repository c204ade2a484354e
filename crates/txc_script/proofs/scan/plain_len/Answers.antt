use Rattle.std.proofs.Common.{◌+◌, ◌≤◌, length, arith}
use Rattle.txc_script.proofs.Scans.{none_in_chunk, one_in_chunk, passed, passed_more}
use Rattle.txc_script.proofs.scan.plain_len.Goals as goal

pub returns-then-before-lt16-clause-plain : goal.returns-then-before-lt16-clause-plain
returns-then-before-lt16-clause-plain c =
    let xs = c.args.bytes.now in
    let room : c.loop-at.at + 16 ≤ length xs = omega arith in
    passed xs (c.loop-at.at + c.min-before.result)
    (passed_more xs c.loop-at.at c.min-before.result c.loop-at.invariant.passed (none_in_chunk xs c.loop-at.at c.before_low.result c.before_high.result c.min-before.result room c.before_low.ensures c.before_high.ensures c.min-before.ensures))

pub returns-then-before-lt16-clause-stops : goal.returns-then-before-lt16-clause-stops
returns-then-before-lt16-clause-stops c _ =
    let xs = c.args.bytes.now in
    let room : c.loop-at.at + 16 ≤ length xs = omega arith in
    one_in_chunk xs c.loop-at.at c.before_low.result c.before_high.result c.min-before.result room c.before_low.ensures c.before_high.ensures c.min-before.ensures c.if-before-lt16.true

pub loop-at-preserved : goal.loop-at-preserved
loop-at-preserved c =
    let xs = c.args.bytes.now in
    let room : c.loop-at.at + 16 ≤ length xs = omega arith in
    record {
      within = room;
      passed = λ k l. passed_more xs c.loop-at.at c.min-before.result c.loop-at.invariant.passed (none_in_chunk xs c.loop-at.at c.before_low.result c.before_high.result c.min-before.result room c.before_low.ensures c.before_high.ensures c.min-before.ensures) k (omega (arith, l, c.if-before-lt16.false));
    }

pub returns-then-is_foreign-clause-plain : goal.returns-then-is_foreign-clause-plain
returns-then-is_foreign-clause-plain c = passed c.args.bytes.now c.loop-at-2.at c.loop-at-2.invariant.passed

pub returns-clause-plain : goal.returns-clause-plain
returns-clause-plain c = passed c.args.bytes.now c.loop-at-2.at c.loop-at-2.invariant.passed
