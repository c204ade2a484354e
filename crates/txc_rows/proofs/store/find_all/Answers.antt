use Rattle.std.proofs.Common.{Err, ap, arith, ◌≡◌, ◌<◌, ◌≤◌, ◌+◌, ℕ, length, subst, rules}
use Rattle.std.proofs.lemmas.List.Sorted.{length_permutation}
use Rattle.txc_rows.specs.declared.store_error.StoreError.TheVariants.{TooManyRows}
use Rattle.txc_rows.specs.StorableVersions.{IsStorable}
use Rattle.txc_rows.specs.declared.store_error.TheConstants.{MAX_MATCHING}
use Rattle.txc_rows.proofs.FindLemmas.{asked, found_latest, found_both, latest_many, replaced_few, replaced_many, found_all, passed_error}
use Rattle.txc_rows.proofs.store.find_all.Goals as goal
use Rattle.txc_tags.proofs.All.{all_front, all_back}

pub returns-in_err-find-clause-refused : goal.returns-in_err-find-clause-refused
returns-in_err-find-clause-refused c = λ many.
    let passed = passed_error c.from_residual.result c.in_err-find.field-0.0 TooManyRows c.from_residual.ensures.1 many in
    latest_many c.args.query.now c.args.from c.args.replaced.now c.args.latest.now MAX_MATCHING c.new-found.result.items c.new-found.ensures.items (c.in_err-find.ensures.refused (ap (λ e. Err e) passed))

pub check_few-requires-clause-each : goal.check_few-requires-clause-each
check_few-requires-clause-each c = all_back (λ x. IsStorable x.version) c.args.latest.now c.args.replaced.now c.requires.apart.each

pub find-requires-2-clause-each : goal.find-requires-2-clause-each
find-requires-2-clause-each c = all_back (λ x. IsStorable x.version) c.args.latest.now c.args.replaced.now c.requires.apart.each

pub returns-in_err-check_few-clause-refused : goal.returns-in_err-check_few-clause-refused
returns-in_err-check_few-clause-refused c = λ many.
    let passed = passed_error c.from_residual-in_err-check_few.result c.in_err-check_few.field-0.0 TooManyRows c.from_residual-in_err-check_few.ensures.1 many in
    let so_far = found_latest c.args.query.now c.args.from c.args.replaced.now c.args.latest.now c.new-found.result.items _ c.new-found.ensures.items c.in_ok-find.ensures.finds in
    let same : c.len.result ≡ length c.find.new.found.items = search (arith, rules) in
    replaced_many c.args.query.now c.args.from c.args.replaced.now c.args.latest.now _ so_far MAX_MATCHING (subst (λ (n : ℕ). MAX_MATCHING < n + length (asked c.args.query.now c.args.from c.args.replaced.now)) same (c.in_err-check_few.ensures.refused (ap (λ e. Err e) passed)))

pub returns-clause-finds : goal.returns-clause-finds
returns-clause-finds c =
    let so_far = found_latest c.args.query.now c.args.from c.args.replaced.now c.args.latest.now c.new-found.result.items _ c.new-found.ensures.items c.in_ok-find.ensures.finds in
    found_all c.args.query.now c.args.from c.args.replaced.now c.args.latest.now _ so_far _ c.sort.new.versions.items c.in_ok-find-2.ensures c.sort.ensures.same c.in_ok-sort.ensures.sorted

pub returns-clause-bound : goal.returns-clause-bound
returns-clause-bound c =
    let so_far = found_latest c.args.query.now c.args.from c.args.replaced.now c.args.latest.now c.new-found.result.items _ c.new-found.ensures.items c.in_ok-find.ensures.finds in
    let same : c.len.result ≡ length c.find.new.found.items = search (arith, rules) in
    let few = replaced_few c.args.query.now c.args.from c.args.replaced.now c.args.latest.now _ so_far MAX_MATCHING (subst (λ (n : ℕ). n + length (asked c.args.query.now c.args.from c.args.replaced.now) ≤ MAX_MATCHING) same c.in_ok-check_few.ensures.few) in
    omega (arith, few, length_permutation _ _ (found_both c.args.query.now c.args.from c.args.replaced.now c.args.latest.now _ so_far _ c.in_ok-find-2.ensures), length_permutation _ _ c.sort.ensures.same)

pub find-requires-clause-each : goal.find-requires-clause-each
find-requires-clause-each c = all_front (λ x. IsStorable x.version) c.args.latest.now c.args.replaced.now c.requires.apart.each
