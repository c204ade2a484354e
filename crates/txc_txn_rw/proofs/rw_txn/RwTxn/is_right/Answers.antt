use Rattle.std.proofs.Common.{[], subst}
use Rattle.txc_txn_rw.specs.RwTxn.{RwTxnValue}
use Rattle.std.proofs.Common.{◌≤◌, List, length}
use Rattle.txc_rows.specs.declared.query.Change.{Change}
use Rattle.txc_db.specs.History.{state_at}
use Rattle.txc_txn_rw.specs.Answers.{state_of, AgreeOn, AreRightIn}
use Rattle.txc_txn_rw.proofs.Holding.{right_at_base}
use Rattle.txc_txn_rw.proofs.rw_txn.RwTxn.is_right.Goals as goal

pub returns-clause-base : goal.returns-clause-base
returns-clause-base g c = subst (λ (t : RwTxnValue). t.core.base ≤ length t.history) c.self.view_is (c.self.invariant.1.holds []).within

pub returns-clause-answers : goal.returns-clause-answers
returns-clause-answers g c =
    subst (λ (t : RwTxnValue). AreRightIn g.A.App.next (state_at t.history t.core.base) t.core.answers) c.self.view_is
    (right_at_base g.A.App.next c.self.inside.held [] c.self.inside.core (c.self.invariant.1.holds []))

pub returns-clause-rests : goal.returns-clause-rests
returns-clause-rests g c =
    subst (λ (t : RwTxnValue). (changes : List Change) → AgreeOn t.core.queried (state_at t.history t.core.base) (state_of changes) → AreRightIn g.A.App.next (state_of changes) t.core.answers) c.self.view_is
    (c.self.invariant.1.holds []).answers
