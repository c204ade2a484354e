use Rattle.std.proofs.Common.{[], subst, sym}
use Rattle.txc_db.specs.History.{History, state_at}
use Rattle.txc_txn_rw.specs.Answers.{AreRightIn}
use Rattle.txc_txn_rw.specs.RwCore.{tags_read, RwHolds, RwValue}
use Rattle.txc_txn_rw.specs.Outcomes.{IsCommitted}
use Rattle.txc_txn_rw.specs.RwTxn.{RwTxnValue}
use Rattle.txc_txn_rw.proofs.Commits.{answer_lent, commits_are_right, event_tags_are_sound, holds_seen, knows_base}
use Rattle.txc_txn_rw.proofs.Holding.{right_at_base}
use Rattle.txc_db.proofs.Histories.{states_stay}
use Rattle.txc_txn_rw.proofs.rw_txn.RwTxn.commit.Goals as goal

pub returns-clause-answer : goal.returns-clause-answer
returns-clause-answer g c =
    let core : RwValue = c.self.inside.core in
    let F : History = c.in-Ok.done.front.history in
    let lent = answer_lent F c.in-Ok.done.answer c.base-base.result core.base c.tags-tags.result.now (tags_read core) c.changes-changes.result.now core.changes
    c.base-base.ensures c.tags-tags.ensures c.changes-changes.ensures.answer c.in-Ok.ensures.answer in
    let holds = holds_seen states_stay g.A.App.next c.front.result.now.history F [] core c.agree.ensures
    (knows_base F core.base c.in-Ok.done.answer (tags_read core) core.changes lent) (subst (λ (M : History). RwHolds g.A.App.next M [] core) (sym c.front.ensures.history) (c.self.invariant.1.holds [])) in
    subst (λ (t : RwTxnValue). IsCommitted g.A.App.next F t.core c.in-Ok.done.answer) c.self.view_is
    (commits_are_right event_tags_are_sound g.A.App.next F [] core c.in-Ok.done.answer holds lent)

pub returns-clause-at_base : goal.returns-clause-at_base
returns-clause-at_base g c =
    let core : RwValue = c.self.inside.core in
    let F : History = c.in-Ok.done.front.history in
    let lent = answer_lent F c.in-Ok.done.answer c.base-base.result core.base c.tags-tags.result.now (tags_read core) c.changes-changes.result.now core.changes
    c.base-base.ensures c.tags-tags.ensures c.changes-changes.ensures.answer c.in-Ok.ensures.answer in
    let holds = holds_seen states_stay g.A.App.next c.front.result.now.history F [] core c.agree.ensures
    (knows_base F core.base c.in-Ok.done.answer (tags_read core) core.changes lent) (subst (λ (M : History). RwHolds g.A.App.next M [] core) (sym c.front.ensures.history) (c.self.invariant.1.holds [])) in
    subst (λ (t : RwTxnValue). AreRightIn g.A.App.next (state_at F t.core.base) t.core.answers) c.self.view_is
    (right_at_base g.A.App.next F [] core holds)
