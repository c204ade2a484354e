use Rattle.txc_work.proofs.Numbers.{first_beside}
use Rattle.txc_work.proofs.numbering.first_twice.Goals as goal

pub returns-then-numbers-place-clause-least : goal.returns-then-numbers-place-clause-least
returns-then-numbers-place-clause-least c =
    first_beside c.args.numbers.now c.loop-place.place c.requires c.loop-place.auto.place c.loop-place-test.true c.loop-place.invariant
    c.if-numbers-place.true
