use Rattle.std.proofs.Common.{◌≡◌, ◌∷◌, length, get_or, ◌++◌, sym, ap, ◌∙◌, arith}
use Rattle.std.proofs.lemmas.List.{take_all}
use Rattle.txc_tags.proofs.TextReading.{word_wrong, word_reads}
use Rattle.txc_tags.proofs.text.read.read_word.Goals as goal

pub returns-in-None-clause-refused : goal.returns-in-None-clause-refused
returns-in-None-clause-refused c = word_wrong c.args.word.now c.args.text.now c.loop-byte.rest.now c.loop-byte.byte-index c.loop-byte-test.true c.loop-byte.invariant
    (λ others e. let n : length c.loop-byte.rest.now ≡ length (get_or c.args.word.now c.loop-byte.byte-index 0 ∷ others) = ap length e in omega (arith, n, c.in-None.ensures.cases))

pub returns-then-first-byte-clause-refused : goal.returns-then-first-byte-clause-refused
returns-then-first-byte-clause-refused c = word_wrong c.args.word.now c.args.text.now c.loop-byte.rest.now c.loop-byte.byte-index c.loop-byte-test.true c.loop-byte.invariant
    (λ others e. c.if-first-byte.true (let p : c.in-Some.first.now ∷ c.in-Some.others.now ≡ get_or c.args.word.now c.loop-byte.byte-index 0 ∷ others = sym c.in-Some.ensures.cases.0 ∙ e in cc))

pub returns-clause-answer : goal.returns-clause-answer
returns-clause-answer c = word_reads c.args.word.now c.args.text.now c.loop-byte.rest.now
    (c.loop-byte.invariant ∙ ap (λ t. t ++ c.loop-byte.rest.now) (take_all c.loop-byte.byte-index c.args.word.now (omega arith)))
