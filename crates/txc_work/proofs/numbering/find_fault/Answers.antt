use Rattle.std.proofs.Common.{length}
use Rattle.txc_work.proofs.Answered.{found_number}
use Rattle.txc_work.proofs.numbering.find_fault.Goals as goal

pub returns-then-found-number-clause-named : goal.returns-then-found-number-clause-named
returns-then-found-number-clause-named c = found_number c.args.numbers.now c.args.results.now c.loop-place.place c.in-Some.found.now c.requires (c.in-Some.ensures.lookup.0, c.in-Some.ensures.lookup.1)

pub returns-in-Some-get-clause-named : goal.returns-in-Some-get-clause-named
returns-in-Some-get-clause-named c = found_number c.args.numbers.now c.args.results.now (length c.args.numbers.now) c.in-Some-get.found.now c.requires (c.in-Some-get.ensures.lookup.0, c.in-Some-get.ensures.lookup.1)
