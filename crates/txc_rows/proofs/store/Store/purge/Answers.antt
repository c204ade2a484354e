use Rattle.std.proofs.Common.{◌≡◌, ◌+◌, ◌++◌, max, ap, sym, subst, ◌∙◌, arith, rules}
use Rattle.std.proofs.lemmas.Result.{err_from_is_err_and}
use Rattle.txc_rows.specs.Versions.{purged}
use Rattle.txc_rows.specs.StorableVersions.{IsStorable}
use Rattle.txc_rows.specs.Placed.{left_from, AreSwept}
use Rattle.txc_rows.specs.LatestTable.{versions_of, IsStore}
use Rattle.txc_rows.proofs.StoreLemmas.{purged_store}
use Rattle.txc_rows.proofs.store.Store.purge.Goals as goal
use Rattle.txc_tags.proofs.All.{all_front}

pub sweep-requires : goal.sweep-requires
sweep-requires c = all_front (λ x. IsStorable x.version) c.self.inside.latest c.self.inside.replaced c.self.invariant.0.apart.each

pub invariant_of-self : goal.invariant_of-self
invariant_of-self c =
    let was = c.self.inside in
    (subst (IsStore was.next_place was.replaced) (sym c.in_err-sweep.ensures.unchanged) c.self.invariant.0, rw c.clear.ensures.items tt, rw c.clear.ensures.items (search arith))

pub returns-in_err-sweep-clause-unchanged : goal.returns-in_err-sweep-clause-unchanged
returns-in_err-sweep-clause-unchanged c =
    let was = c.self.inside in
    let p = err_from_is_err_and c.from_residual.result c.from_residual.ensures.1 in
    rw p.1 (ap (λ xs. left_from was.kept_from (versions_of was.replaced xs)) c.in_err-sweep.ensures.unchanged ∙ c.self.view_is)

pub invariant_of-self-2 : goal.invariant_of-self-2
invariant_of-self-2 c =
    let was = c.self.inside in
    let first : c.max-from.result ≡ max was.kept_from (c.args.horizon + 1) = search (arith, rules) in
    let swept : AreSwept (max was.kept_from (c.args.horizon + 1)) was.latest c.sweep.new.latest = rw (← first) c.in_ok-sweep.ensures.swept in
    (rw (c.purge.ensures, first) (purged_store was.kept_from c.args.horizon was.next_place was.replaced was.latest c.sweep.new.latest c.self.invariant.0 swept).0, rw c.clear.ensures.items tt, rw c.clear.ensures.items (search arith))

pub returns-clause-after : goal.returns-clause-after
returns-clause-after c =
    let was = c.self.inside in
    let first : c.max-from.result ≡ max was.kept_from (c.args.horizon + 1) = search (arith, rules) in
    let swept : AreSwept (max was.kept_from (c.args.horizon + 1)) was.latest c.sweep.new.latest = rw (← first) c.in_ok-sweep.ensures.swept in
    rw (c.purge.ensures, first) ((purged_store was.kept_from c.args.horizon was.next_place was.replaced was.latest c.sweep.new.latest c.self.invariant.0 swept).1 ∙ ap (purged c.args.horizon) c.self.view_is)
