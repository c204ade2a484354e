use Rattle.std.proofs.Common.{◌≤◌, ◌<◌, ◌-◌, length, arith, rules}
use Rattle.txc_rows.proofs.CurrentLemmas.{asked_few}
use Rattle.txc_rows.proofs.FindLemmas.{asked}
use Rattle.txc_rows.proofs.store.check_few.Goals as goal

pub returns-then-len-room-clause-few : goal.returns-then-len-room-clause-few
returns-then-len-room-clause-few c =
    let all : length c.args.replaced.now ≤ c.args.most - c.args.last = search (arith, rules) in
    omega (arith, all, c.requires.few, asked_few c.args.query.now c.args.from c.args.replaced.now)

pub returns-then-has_more-clause-refused : goal.returns-then-has_more-clause-refused
returns-then-has_more-clause-refused c = λ _.
    let more : c.args.most - c.args.last < length (asked c.args.query.now c.args.from c.args.replaced.now) = c.has_more.ensures.more c.if-has_more.true in
    omega (arith, more, c.requires.few)

pub returns-clause-few : goal.returns-clause-few
returns-clause-few c =
    let few : length (asked c.args.query.now c.args.from c.args.replaced.now) ≤ c.args.most - c.args.last = c.has_more.ensures.few c.if-has_more.false in
    omega (arith, few, c.requires.few)
