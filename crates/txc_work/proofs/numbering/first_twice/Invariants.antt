use Rattle.txc_work.proofs.Numbers.{RisesTo}
use Rattle.txc_work.proofs.numbering.first_twice.Given as goal

abbrev pub invariant-loop-place : goal.invariant-loop-place
invariant-loop-place l = RisesTo l.numbers l.place
