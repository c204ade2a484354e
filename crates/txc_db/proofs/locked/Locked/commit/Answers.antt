use Rattle.std.proofs.Common.{◌≡◌, ◌<◌, ◌∙◌, ap, sym, subst, refl, rules, arith}
use mathlib.Core.List.{IsPrefix}
use Rattle.txc_db.specs.FrontsAndFeeds.{FrontValue}
use Rattle.txc_db.specs.History.{History}
use Rattle.txc_db.specs.DatabaseValue.{DatabaseValue, newest, after_commit}
use Rattle.txc_db.specs.Calls.{IsCommitRefused}
use Rattle.txc_db.specs.declared.error.DbError.TheVariants.{Broken}
use Rattle.txc_db.proofs.Committed.{some_net, commit_begins}
use Rattle.txc_db.proofs.Refusing.{mark_refused}
use Rattle.txc_db.proofs.locked.Locked.commit.Goals as goal
use Rattle.txc_db.proofs.locked.Locked.commit.Goals.{else-lt-via-then-lt+else-not-post, else-lt-via-else-lt}

pub returns-then-not-post-clause-refused : goal.returns-then-not-post-clause-refused
returns-then-not-post-clause-refused g c =
    let d = c.self.inside.core in
    let more : c.in_ok-newest.newest < c.in-Ok.answer = search rules in
    let some = some_net d c.args.changes.now c.in_ok-newest.newest c.in-Ok.answer c.in_ok-newest.ensures.answer (c.in-Ok.ensures.answer ∙ ap newest c.in-Ok.ensures.after) (λ e. absurd (omega (arith, more, e))) in
    subst (λ (v : DatabaseValue). IsCommitRefused v c.args.base c.args.read.now c.args.changes.now Broken) c.self.view_is
    (mark_refused d c.args.base c.args.read.now c.args.changes.now (c.in-Ok.ensures.only_if refl) some)

pub lengthen-requires-clause-begins : goal.lengthen-requires-clause-begins
lengthen-requires-clause-begins g c =
    let d = c.self.inside.core in
    let begins = commit_begins d c.args.changes.now in
    let old : c.in_ok-front.front.history ≡ d.history = ap (λ (f : FrontValue). f.history) c.in_ok-front.ensures in
    let whole : c.history.result.now.history ≡ (after_commit d c.args.changes.now).history = ap (λ (f : FrontValue). f.history) c.history.ensures ∙ ap (λ (v : DatabaseValue). v.history) c.in-Ok.ensures.after in
    subst (λ (l : History). IsPrefix c.in_ok-front.front.history l) (sym whole) (subst (λ (l : History). IsPrefix l (after_commit d c.args.changes.now).history) (sym old) begins)

pub returns-else-lt-clause-after : goal.returns-else-lt-clause-after
returns-else-lt-clause-after g c =
    let done = c.in-Ok.ensures.after ∙ ap (λ (v : DatabaseValue). after_commit v c.args.changes.now) c.self.view_is in
    elim c.else-lt.branch [
      | else-lt-via-then-lt+else-not-post w ↦ w.self-is ∙ done
      | else-lt-via-else-lt w ↦ w.self-is ∙ done
    ]
