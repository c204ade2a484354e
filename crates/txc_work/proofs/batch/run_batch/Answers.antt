use Rattle.std.proofs.Common.{sym, subst, IsPermutation}
use Rattle.std.proofs.lemmas.List.Sorted.{All-permutation, IsPermutation-sym}
use Rattle.std.proofs.lemmas.Result.{IfErr-weaker, IfOk-weaker}
use Rattle.txc_work.specs.Batches.{job_numbers, IsLeastTwice, IsResultOf, Meets, NamesOneOf}
use Rattle.txc_work.specs.declared.error.BatchError.TheVariants.{Twice}
use Rattle.txc_work.proofs.Answered.{err_same, names_too, numbers_are_known, ok_not_err, passed_err}
use Rattle.txc_work.proofs.batch.run_batch.Goals as goal

pub returns-in_err-numbers-clause-twice : goal.returns-in_err-numbers-clause-twice
returns-in_err-numbers-clause-twice g c = λ number least.
    let same = subst (λ js. IsLeastTwice (job_numbers js) number) (sym c.deref.ensures.value) least in
    passed_err c.from_residual.result c.in_err-numbers.field-0.0 (Twice number) c.from_residual.ensures.1
    (err_same c.distinct_numbers.result c.in_err-numbers.field-0.0 (Twice number) c.in_err-numbers.was (c.distinct_numbers.ensures.twice number same))

pub returns-in_default-clause-twice : goal.returns-in_default-clause-twice
returns-in_default-clause-twice g c = λ number least.
    let same = subst (λ js. IsLeastTwice (job_numbers js) number) (sym c.deref.ensures.value) least in
    absurd (ok_not_err c.distinct_numbers.result c.in_ok-numbers.numbers (Twice number) c.in_ok-numbers.was (c.distinct_numbers.ensures.twice number same))

pub in_order-requires : goal.in_order-requires
in_order-requires g c =
    let numbers = c.in_ok-numbers.numbers.items in
    let same = subst (λ js. IsPermutation (job_numbers js) numbers) c.deref.ensures.value c.in_ok-numbers.ensures.same in
    numbers_are_known c.args.jobs.items (Meets g.A.App.next g.J.Naming.database_history g.J.Naming.node_histories g.functions) numbers c.deref-2.result.now _
    same c.deref-2.ensures.value c.in-Ok.ensures

pub returns-clause-met : goal.returns-clause-met
returns-clause-met g c =
    let met = IsResultOf c.args.jobs.items (Meets g.A.App.next g.J.Naming.database_history g.J.Naming.node_histories g.functions) in
    IfOk-weaker c.in_order.result _ _ (λ results h. All-permutation met _ results.items h.0 c.in-Ok.ensures) c.in_order.ensures.ok

pub returns-clause-twice : goal.returns-clause-twice
returns-clause-twice g c = λ number least.
    let same = subst (λ js. IsLeastTwice (job_numbers js) number) (sym c.deref.ensures.value) least in
    absurd (ok_not_err c.distinct_numbers.result c.in_ok-numbers.numbers (Twice number) c.in_ok-numbers.was (c.distinct_numbers.ensures.twice number same))

pub returns-clause-named : goal.returns-clause-named
returns-clause-named g c =
    let numbers = c.in_ok-numbers.numbers.items in
    let same = subst (λ js. IsPermutation (job_numbers js) numbers) c.deref.ensures.value c.in_ok-numbers.ensures.same in
    IfErr-weaker c.in_order.result _ _
    (λ error h. names_too numbers (job_numbers c.args.jobs.items) (IsPermutation-sym _ _ same) error
    (subst (λ ns. NamesOneOf ns error) c.deref-2.ensures.value h))
    c.in_order.ensures.named
