use Rattle.std.proofs.Common.{Err, ap, ◌≡◌, ◌<◌, ◌≤◌, ◌+◌, ℕ, length, subst, arith, rules}
use Rattle.txc_rows.specs.declared.store_error.StoreError.TheVariants.{TooManyRows}
use Rattle.txc_rows.specs.StorableVersions.{IsStorable}
use Rattle.txc_rows.proofs.FindLemmas.{asked, found_latest, latest_many, replaced_few, replaced_many, passed_error}
use Rattle.txc_rows.proofs.CurrentLemmas.{last_current}
use Rattle.txc_rows.proofs.store.find_last.Goals as goal
use Rattle.txc_tags.proofs.All.{all_front, all_back}

-- of the last versions alone too many match
pub returns-in_err-find_known-clause-refused : goal.returns-in_err-find_known-clause-refused
returns-in_err-find_known-clause-refused c = λ many.
    let passed = passed_error c.from_residual.result c.in_err-find_known.field-0.0 TooManyRows c.from_residual.ensures.1 many in
    latest_many c.args.query.now c.args.from c.args.replaced.now c.args.latest.now c.args.most c.new-last.result.items c.new-last.ensures.items (c.in_err-find_known.ensures.refused (ap (λ e. Err e) passed))

pub check_few-requires-clause-each : goal.check_few-requires-clause-each
check_few-requires-clause-each c = all_back (λ x. IsStorable x.version) c.args.latest.now c.args.replaced.now c.requires.apart.each

-- with those that were replaced too many match
pub returns-in_err-check_few-clause-refused : goal.returns-in_err-check_few-clause-refused
returns-in_err-check_few-clause-refused c = λ many.
    let passed = passed_error c.from_residual-in_err-check_few.result c.in_err-check_few.field-0.0 TooManyRows c.from_residual-in_err-check_few.ensures.1 many in
    let so_far = found_latest c.args.query.now c.args.from c.args.replaced.now c.args.latest.now c.new-last.result.items _ c.new-last.ensures.items c.in_ok-find_known.ensures.finds in
    let same : c.len.result ≡ length c.find_known.new.found.items = search (arith, rules) in
    replaced_many c.args.query.now c.args.from c.args.replaced.now c.args.latest.now _ so_far c.args.most (subst (λ (n : ℕ). c.args.most < n + length (asked c.args.query.now c.args.from c.args.replaced.now)) same (c.in_err-check_few.ensures.refused (ap (λ e. Err e) passed)))

pub returns-clause-finds : goal.returns-clause-finds
returns-clause-finds c = last_current c.args.query.now c.args.from c.args.replaced.now c.args.latest.now c.new-last.result.items c.find_known.new.found.items c.new-last.ensures.items c.in_ok-find_known.ensures.finds c.requires.apart.ended

pub returns-clause-bound : goal.returns-clause-bound
returns-clause-bound c =
    let so_far = found_latest c.args.query.now c.args.from c.args.replaced.now c.args.latest.now c.new-last.result.items _ c.new-last.ensures.items c.in_ok-find_known.ensures.finds in
    let same : c.len.result ≡ length c.find_known.new.found.items = search (arith, rules) in
    replaced_few c.args.query.now c.args.from c.args.replaced.now c.args.latest.now _ so_far c.args.most (subst (λ (n : ℕ). n + length (asked c.args.query.now c.args.from c.args.replaced.now) ≤ c.args.most) same c.in_ok-check_few.ensures.few)

pub find_known-requires-clause-each : goal.find_known-requires-clause-each
find_known-requires-clause-each c = all_front (λ x. IsStorable x.version) c.args.latest.now c.args.replaced.now c.requires.apart.each
