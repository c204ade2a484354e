use Rattle.std.proofs.Common.{sym, ◌∙◌, arith}
use Rattle.txc_tags.proofs.Merging.{first_passed, second_passed, both_found, first_ended, second_ended}
use Rattle.txc_tags.proofs.set.slices_match.Goals as goal

pub loop-i-preserved : goal.loop-i-preserved
loop-i-preserved c = record {
  first = omega arith;
  second = omega arith;
  left = c.loop-i.invariant.left ∙ second_passed c.args.a.now c.args.b.now c.loop-i.i c.loop-i.j c.index-a-i.result c.index-b-j.result c.loop-i-test.true c.if-j-b.true c.index-a-i.is c.index-b-j.is c.requires.first (sym c.if-matches.ensures) (sym c.if-comes_before.ensures);
}

pub loop-i-preserved-then-comes_before : goal.loop-i-preserved-then-comes_before
loop-i-preserved-then-comes_before c = record {
  first = omega arith;
  second = omega arith;
  left = c.loop-i.invariant.left ∙ first_passed c.args.a.now c.args.b.now c.loop-i.i c.loop-i.j c.index-a-i.result c.index-b-j.result c.loop-i-test.true c.if-j-b.true c.index-a-i.is c.index-b-j.is c.requires.second (sym c.if-matches.ensures) (sym c.if-comes_before.ensures);
}

pub returns-then-matches : goal.returns-then-matches
returns-then-matches c = sym (c.loop-i.invariant.left ∙ both_found c.args.a.now c.args.b.now c.loop-i.i c.loop-i.j c.index-a-i.result c.index-b-j.result c.loop-i-test.true c.if-j-b.true c.index-a-i.is c.index-b-j.is (sym c.if-matches.ensures))

pub returns-else-j-b : goal.returns-else-j-b
returns-else-j-b c = sym (c.loop-i.invariant.left ∙ second_ended c.args.a.now c.args.b.now c.loop-i.i c.loop-i.j (omega arith))

pub returns-after-loop-i : goal.returns-after-loop-i
returns-after-loop-i c = sym (c.loop-i.invariant.left ∙ first_ended c.args.a.now c.args.b.now c.loop-i.i c.loop-i.j (omega arith))
