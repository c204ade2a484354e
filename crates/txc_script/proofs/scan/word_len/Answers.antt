use Rattle.std.proofs.Common.{◌+◌, ◌≤◌, length, arith}
use Rattle.txc_script.proofs.Scans.{bare_in_chunk, bare_whole_chunk, blank_in_chunk}
use Rattle.txc_script.proofs.scan.word_len.Goals as goal

pub returns-then-before-lt16-clause-bare : goal.returns-then-before-lt16-clause-bare
returns-then-before-lt16-clause-bare c =
    let xs = c.args.bytes.now in
    let room : c.loop-at.at + 16 ≤ length xs = omega arith in
    bare_in_chunk xs c.loop-at.at 16 c.before_blank-before.result room c.before_blank-before.ensures c.loop-at.invariant.bare

pub returns-then-before-lt16-clause-stops : goal.returns-then-before-lt16-clause-stops
returns-then-before-lt16-clause-stops c _ =
    let xs = c.args.bytes.now in
    let room : c.loop-at.at + 16 ≤ length xs = omega arith in
    blank_in_chunk xs c.loop-at.at 16 c.before_blank-before.result room c.before_blank-before.ensures c.if-before-lt16.true

pub loop-at-preserved : goal.loop-at-preserved
loop-at-preserved c =
    let xs = c.args.bytes.now in
    let room : c.loop-at.at + 16 ≤ length xs = omega arith in
    record {
      within = room;
      bare = bare_whole_chunk xs c.loop-at.at 16 c.before_blank-before.result room c.before_blank-before.ensures (omega arith) c.loop-at.invariant.bare;
    }

pub returns-then-before-lt8-clause-bare : goal.returns-then-before-lt8-clause-bare
returns-then-before-lt8-clause-bare c =
    let xs = c.args.bytes.now in
    let room : c.loop-at.at + 8 ≤ length xs = omega arith in
    bare_in_chunk xs c.loop-at.at 8 c.before_blank_of_eight-before.result room c.before_blank_of_eight-before.ensures c.loop-at.invariant.bare

pub returns-then-before-lt8-clause-stops : goal.returns-then-before-lt8-clause-stops
returns-then-before-lt8-clause-stops c _ =
    let xs = c.args.bytes.now in
    let room : c.loop-at.at + 8 ≤ length xs = omega arith in
    blank_in_chunk xs c.loop-at.at 8 c.before_blank_of_eight-before.result room c.before_blank_of_eight-before.ensures c.if-before-lt8.true

pub word_len_from-requires-2-clause-before : goal.word_len_from-requires-2-clause-before
word_len_from-requires-2-clause-before c =
    let xs = c.args.bytes.now in
    let room : c.loop-at.at + 8 ≤ length xs = omega arith in
    bare_whole_chunk xs c.loop-at.at 8 c.before_blank_of_eight-before.result room c.before_blank_of_eight-before.ensures (omega arith) c.loop-at.invariant.bare
