use Rattle.std.proofs.Common.{◌≡◌, ◌≤◌, refl, sym, subst, arith}
use Rattle.txc_db.specs.DatabaseValue.{DatabaseValue}
use Rattle.txc_db.specs.Room.{AreTagsKept}
use Rattle.txc_db.specs.Calls.{IsLeft, IsCommitRefused}
use Rattle.txc_db.proofs.Rooms.{pen_keeps}
use Rattle.txc_db.proofs.Refusing.{passed_up, base_left, base_refused, base_taken}
use Rattle.txc_db.proofs.db_core.DbCore.commit.Goals as goal

pub returns-in_err-newest-clause-refused : goal.returns-in_err-newest-clause-refused
returns-in_err-newest-clause-refused c =
    let e = c.in_err-newest.field-0.0 in
    passed_up c.from_residual.result e (IsCommitRefused c.args.self.now c.args.base c.args.read.now c.args.changes.now) c.from_residual.ensures.1
    (base_refused c.args.self.now c.args.base c.args.read.now c.args.changes.now e c.in_err-newest.ensures.refused)

pub returns-in_err-newest-clause-unchanged : goal.returns-in_err-newest-clause-unchanged
returns-in_err-newest-clause-unchanged c =
    let e = c.in_err-newest.field-0.0 in
    passed_up c.from_residual.result e (IsLeft c.args.self.now c.args.self.now) c.from_residual.ensures.1
    (base_left c.args.self.now c.args.base e c.in_err-newest.ensures.refused)

pub first_conflict-requires : goal.first_conflict-requires
first_conflict-requires c = λ none.
    let base : c.number-base.result ≡ c.args.base = c.number-base.ensures.answer in
    let kept = subst (λ (v : DatabaseValue). AreTagsKept v.events v.horizon c.args.base) (sym c.self.view_is) (c.in_ok-newest.ensures.only_if.0 refl).kept in
    let late = pen_keeps c.self.inside.told.events c.self.inside.horizon c.args.base kept none in
    let first : c.self.inside.told.first ≤ c.self.inside.horizon = c.self.invariant.0 in
    omega (arith, base, late, first)

pub returns-in_err-newest-clause-taken : goal.returns-in_err-newest-clause-taken
returns-in_err-newest-clause-taken c =
    base_taken c.from_residual.result c.args.self.now c.args.base c.in_err-newest.field-0.0 c.from_residual.ensures.1 c.in_err-newest.ensures.refused
