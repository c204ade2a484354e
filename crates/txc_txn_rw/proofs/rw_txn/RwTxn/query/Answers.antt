use Rattle.std.proofs.Common.{◌≡◌, ℕ, [], ◌∷◌, ◌++◌, ap, subst, sym, ◌≤◌, length}
use Rattle.std.specs.Prelude.{IfOk, Vec}
use Rattle.std.specs.declared.alloc.Global.{Global}
use Rattle.txc_rows.specs.States.{RowValue}
use Rattle.txc_db.specs.History.{History}
use Rattle.txc_txn_rw.specs.declared.given.Given.TheVariants as given
use Rattle.txc_txn_rw.specs.RwCore.{RwValue}
use Rattle.txc_txn_rw.specs.RwTxn.{RwTxnValue}
use Rattle.txc_rows.specs.States.{answer}
use Rattle.txc_db.specs.History.{state_at}
use Rattle.txc_txn_rw.proofs.Resting.{holds_by, if_ok, last_right, queried_or_left}
use Rattle.txc_txn_rw.proofs.Holding.{right_at_base}
use Rattle.txc_txn_rw.proofs.rw_txn.RwTxn.query.Goals as goal

pub query_at-requires-clause-shown : goal.query_at-requires-clause-shown
query_at-requires-clause-shown g c =
    subst (λ (M : History). c.self.inside.core.base ≤ length M) (sym c.front.ensures.history) (c.self.invariant.1.holds []).within

pub invariant_of-self : goal.invariant_of-self
invariant_of-self g c = (
  c.self.invariant.0,
  queried_or_left g.A.App.next c.self.inside.held c.self.inside.core c.query_at.new.core c.args.query c.query_at.result c.query_at.ensures.after c.query_at.ensures.left
      (λ os.
      holds_by g.A.App.next c.front.result.now.history c.self.inside.held os os c.self.inside.core c.query_at.new.core c.front.ensures.history
      (c.query_at.ensures.holds g.A.App.next os) (c.self.invariant.1.holds os))
      c.self.invariant.1,
)

pub returns-clause-answer : goal.returns-clause-answer
returns-clause-answer g c =
    let core : RwValue = c.self.inside.core in
    let core' : RwValue = c.query_at.new.core in
    let L : History = c.self.inside.held in
    let right = right_at_base g.A.App.next L [] core' (holds_by g.A.App.next c.front.result.now.history L [] [] core core' c.front.ensures.history
    (c.query_at.ensures.holds g.A.App.next []) (c.self.invariant.1.holds [])) in
    subst (λ (t : RwTxnValue). IfOk c.query_at.result (λ v. v.items ≡ answer c.args.query (state_at t.history t.core.base))) c.self.view_is
    (if_ok (λ (v : Vec RowValue Global). core' ≡ record core { queried = core.queried ++ c.args.query ∷ []; answers = core.answers ++ given.Rows c.args.query v.items ∷ [] })
    (λ (v : Vec RowValue Global). v.items ≡ answer c.args.query (state_at L core.base)) c.query_at.result
    (λ v is.
    subst (λ (n : ℕ). v.items ≡ answer c.args.query (state_at L n)) (ap (λ (w : RwValue). w.base) is)
    (last_right g.A.App.next (state_at L core'.base) core.answers core'.answers (given.Rows c.args.query v.items) (ap (λ (w : RwValue). w.answers) is) right))
    c.query_at.ensures.after)
