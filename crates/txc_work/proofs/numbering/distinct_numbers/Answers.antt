use Rattle.std.proofs.Common.{◌∙◌, Contains, Err, sym, ap, subst}
use Rattle.std.proofs.lemmas.List.Sorted.{Contains-permutation, IsPermutation-sym}
use Rattle.std.specs.List.Sorted.{IsStrictlyIncreasing}
use Rattle.txc_work.specs.Batches.{job_numbers, IsLeastTwice}
use Rattle.txc_work.specs.declared.error.BatchError.TheVariants.{Twice}
use Rattle.txc_work.proofs.Numbers.{least_of_those, named_of_those, none_of_those, none_twice_in, one_least, same_least}
use Rattle.txc_work.proofs.numbering.distinct_numbers.Goals as goal

pub returns-in-Some-clause-twice : goal.returns-in-Some-clause-twice
returns-in-Some-clause-twice c = λ number least.
    let numbers = job_numbers c.args.jobs.now in
    let found = least_of_those numbers c.in-Some.number (sym c.in-Some.is ∙ c.least_twice.ensures) in
    ap (λ n. Err (Twice n)) (one_least numbers number c.in-Some.number least found)

pub returns-in-Some-clause-named : goal.returns-in-Some-clause-named
returns-in-Some-clause-named c =
    named_of_those (job_numbers c.args.jobs.now) c.in-Some.number (sym c.in-Some.is ∙ c.least_twice.ensures)

pub returns-in-None-clause-twice : goal.returns-in-None-clause-twice
returns-in-None-clause-twice c = λ number least.
    absurd (none_of_those (job_numbers c.args.jobs.now) number (sym c.in-None.is ∙ c.least_twice.ensures) least.twice)

pub returns-in-Some-first_twice-clause-twice : goal.returns-in-Some-first_twice-clause-twice
returns-in-Some-first_twice-clause-twice c = λ number least.
    let moved = c.in-Ok.ensures.same in
    let found = subst (λ ns. IsLeastTwice ns c.in-Some-first_twice.number) c.deref.ensures.value c.in-Some-first_twice.ensures.least in
    ap (λ n. Err (Twice n))
    (same_least (job_numbers c.args.jobs.now) c.in-Ok.numbers.items number c.in-Some-first_twice.number moved (IsPermutation-sym _ _ moved) least found)

pub returns-in-Some-first_twice-clause-named : goal.returns-in-Some-first_twice-clause-named
returns-in-Some-first_twice-clause-named c =
    let found = subst (λ ns. Contains ns c.in-Some-first_twice.number) c.deref.ensures.value c.in-Some-first_twice.ensures.there in
    Contains-permutation c.in-Ok.numbers.items (job_numbers c.args.jobs.now) c.in-Some-first_twice.number
    (IsPermutation-sym _ _ c.in-Ok.ensures.same) found

pub returns-in-None-first_twice-clause-twice : goal.returns-in-None-first_twice-clause-twice
returns-in-None-first_twice-clause-twice c = λ number least.
    let rising = subst IsStrictlyIncreasing c.deref.ensures.value c.in-None-first_twice.ensures.none in
    absurd (none_twice_in (job_numbers c.args.jobs.now) c.in-Ok.numbers.items number c.in-Ok.ensures.same rising least)
