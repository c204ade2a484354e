use Rattle.std.proofs.Common.{◌≡◌, map, Ok, Err, subst, ◌∙◌, rules}
use Rattle.std.specs.List.Sorted.{IsPermutation}
use Rattle.std.proofs.lemmas.Result.{err_from_is_err_and}
use Rattle.sqlite.proofs.Callers.{memory_is_clean}
use Rattle.txc_rows.specs.Placed.{placed_left}
use Rattle.txc_rows.specs.StoredVersion.{placed_from}
use Rattle.txc_rows.specs.LatestTable.{latest_in, HasLatest, IsCall}
use Rattle.txc_rows.proofs.HeldLemmas.{refused_call, recast_ok, recast_err}
use Rattle.txc_rows.proofs.SweepCalls.{undone_since, begun_base, rebuilt_call}
use Rattle.txc_rows.proofs.statements.rebuild.Goals.{After-commit}
use Rattle.txc_rows.proofs.statements.rebuild.Goals as goal

pub returns-in_err-left : goal.returns-in_err-left
returns-in_err-left c =
    let old = c.args.conn.now in
    let p = err_from_is_err_and c.from_residual.result c.from_residual.ensures.1 in
    rw p.1 (refused_call (IsPermutation (placed_left c.args.from (latest_in old))) old c.read_left.new.conn p.0 c.in_err-left.ensures.same)

pub returns-in_err-refill : goal.returns-in_err-refill
returns-in_err-refill c =
    let old = c.args.conn.now in
    let first = c.read_left.new.conn in
    let end = c.drop-tx.new.self.0 in
    let same : end ≡ c.conn-1.given.0 = search rules in
    let p = err_from_is_err_and c.from_residual-in_err-refill.result c.from_residual-in_err-refill.ensures.1 in
    let L = IsPermutation (placed_left c.args.from (latest_in old)) in
    let base = c.in_err-refill.ensures.step.base ∙ begun_base first c.transaction-tx.result.conn.now c.transaction-tx.ensures.begun in
    rw p.1 (subst (λ h. IsCall L old h (Err p.0)) same (undone_since L old first c.refill.new.tx.conn.now end p.0 c.in_ok-left.ensures.same base (c.drop-tx.ensures.undone (memory_is_clean end))))

committed : (c : After-commit) → IsCall (IsPermutation (placed_left c.args.from (latest_in c.args.conn.now))) c.args.conn.now c.commit.new.self.0 c.commit.result
committed c =
    let first = c.read_left.new.conn in
    let mid = c.refill.new.tx.conn.now in
    let end = c.commit.new.self.0 in
    let step = c.in_ok-refill.ensures.step in
    let has : HasLatest (map placed_from c.in_ok-left.left.items) mid = rw c.deref.ensures.value at step.leaves in
    let base = step.base ∙ begun_base first c.transaction-tx.result.conn.now c.transaction-tx.ensures.begun in
    rebuilt_call c.args.from c.args.conn.now first mid end _ c.commit.result c.requires c.in_ok-left.ensures.same c.in_ok-left.ensures.left has base c.commit.ensures.ended (c.commit.ensures.ok (memory_is_clean end)) (c.commit.ensures.err (memory_is_clean end)) step.inside

pub returns-in_err-commit : goal.returns-in_err-commit
returns-in_err-commit c =
    let old = c.args.conn.now in
    let end = c.commit.new.self.0 in
    let L = IsPermutation (placed_left c.args.from (latest_in old)) in
    let same : end ≡ c.conn-2-1.given.0 = search rules in
    let failed : IsCall L old end (Err c.in_err-commit.field-0.0) = subst (IsCall L old end) c.in_err-commit.was (committed (goal.at.returns-in_err-commit c).After-commit) in
    let p = err_from_is_err_and c.from_residual-in_err-commit.result c.from_residual-in_err-commit.ensures.1 in
    rw p.1 (subst (λ h. IsCall L old h (Err p.0)) same (recast_err L old end c.in_err-commit.field-0.0 p.0 failed))

pub returns : goal.returns
returns c =
    let old = c.args.conn.now in
    let end = c.commit.new.self.0 in
    let L = IsPermutation (placed_left c.args.from (latest_in old)) in
    let same : end ≡ c.conn-2-1.given.0 = search rules in
    let done : IsCall L old end (Ok c.in_ok-commit.field-0) = subst (IsCall L old end) c.in_ok-commit.was (committed (goal.at.returns c).After-commit) in
    recast_ok L old c.conn-2-1.given.0 c.in_ok-commit.field-0 _ (subst (λ h. IsCall L old h (Ok c.in_ok-commit.field-0)) same done)
