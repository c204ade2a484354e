use Rattle.std.proofs.Common.{Err, ◌∙◌, ap, map, arith, rules}
use Rattle.txc_rows.specs.declared.store_error.StoreError.TheVariants.{TooManyRows}
use Rattle.txc_rows.specs.Versions.{counted_from}
use Rattle.txc_rows.proofs.FindLemmas.{passed_error}
use Rattle.txc_rows.proofs.AroundLemmas.{around_answers}
use Rattle.txc_rows.proofs.CountedLemmas.{near_found, as_many}
use Rattle.txc_rows.proofs.version_rows.VersionRows.matching_at.Goals as goal

pub returns-clause-answer : goal.returns-clause-answer
returns-clause-answer c =
    near_found c.self.inside.first c.deref_mut.result.now c.args.self.now (ap (map (counted_from c.self.inside.first)) (c.deref_mut.ensures.value ∙ c.take-store.ensures.store) ∙ c.self.view_is) c.args.query.now c.args.stamp _ c.in_ok-found.found.items c.count_all.new.versions.items (search rules) c.count_all.ensures c.in_ok-found.ensures.answer

pub returns-clause-bound : goal.returns-clause-bound
returns-clause-bound c =
    let few = c.in_ok-found.ensures.bound in
    omega (arith, few, as_many c.self.inside.first c.deref_mut.result.now c.args.self.now (ap (map (counted_from c.self.inside.first)) (c.deref_mut.ensures.value ∙ c.take-store.ensures.store) ∙ c.self.view_is) c.args.query.now)

pub returns-clause-answers : goal.returns-clause-answers
returns-clause-answers c =
    around_answers c.args.query.now c.args.stamp c.args.self.now c.count_all.new.versions.items
    (near_found c.self.inside.first c.deref_mut.result.now c.args.self.now (ap (map (counted_from c.self.inside.first)) (c.deref_mut.ensures.value ∙ c.take-store.ensures.store) ∙ c.self.view_is) c.args.query.now c.args.stamp _ c.in_ok-found.found.items c.count_all.new.versions.items (search rules) c.count_all.ensures c.in_ok-found.ensures.answer)

pub returns-in_err-found-clause-refused : goal.returns-in_err-found-clause-refused
returns-in_err-found-clause-refused c = λ many.
    let passed = passed_error c.from_residual.result c.in_err-found.field-0.0 TooManyRows c.from_residual.ensures.1 many in
    let high = c.in_err-found.ensures.refused (ap (λ e. Err e) passed) in
    omega (arith, high, as_many c.self.inside.first c.deref_mut.result.now c.args.self.now (ap (map (counted_from c.self.inside.first)) (c.deref_mut.ensures.value ∙ c.take-store.ensures.store) ∙ c.self.view_is) c.args.query.now)
