use Rattle.std.proofs.Common.{◌≡◌, ℕ, List, [], ◌∷◌, ◌++◌, Some, ap, subst, sym, ◌≤◌, length}
use Rattle.std.specs.Prelude.{IfOk}
use Rattle.txc_db.specs.History.{History}
use Rattle.txc_txn_rw.specs.declared.given.Given.TheVariants as given
use Rattle.txc_txn_rw.specs.RwCore.{RwValue}
use Rattle.txc_txn_rw.specs.RwTxn.{RwTxnValue}
use Rattle.txc_db.specs.History.{state_at}
use Rattle.txc_app.specs.Eval.{eval}
use Rattle.txc_call_registry.proofs.Offered.{idle_same}
use Rattle.txc_txn_rw.proofs.Resting.{called, holds_by, if_ok, last_right, rested}
use Rattle.txc_txn_rw.proofs.Holding.{right_at_base}
use Rattle.txc_txn_rw.proofs.rw_txn.RwTxn.call.Goals as goal

pub call_at-requires-clause-shown : goal.call_at-requires-clause-shown
call_at-requires-clause-shown g c =
    subst (λ (M : History). c.self.inside.core.base ≤ length M) (sym c.front.ensures.history) (c.self.invariant.1.holds []).within

pub invariant_of-self : goal.invariant_of-self
invariant_of-self g c =
    let two = rested g.A.App.next c.self.inside.held c.call_at.new.registry c.call_at.new.core c.call_at.ensures.fits c.call_at.ensures.idle
    (holds_by g.A.App.next c.front.result.now.history c.self.inside.held c.self.inside.registry c.call_at.new.registry c.self.inside.core c.call_at.new.core c.front.ensures.history
    c.call_at.ensures.holds (c.self.invariant.1.holds c.self.inside.registry)) in
    (two.0, two.1)

pub returns-clause-answer : goal.returns-clause-answer
returns-clause-answer g c =
    let core' : RwValue = c.call_at.new.core in
    let L : History = c.self.inside.held in
    let right = right_at_base g.A.App.next L c.call_at.new.registry core' (holds_by g.A.App.next c.front.result.now.history c.self.inside.held c.self.inside.registry c.call_at.new.registry c.self.inside.core c.call_at.new.core c.front.ensures.history
    c.call_at.ensures.holds (c.self.invariant.1.holds c.self.inside.registry)) in
    let base : core'.base ≡ c.self.inside.core.base = ap (λ (w : RwValue). w.base) c.call_at.ensures.same in
    subst (λ (t : RwTxnValue). IfOk c.call_at.result (λ v. eval g.A.App.next c.args.key (state_at t.history t.core.base) ≡ Some v)) c.self.view_is
    (if_ok (λ (v : List ℕ). core'.answers ≡ c.self.inside.core.answers ++ given.Value c.args.key v ∷ []) (λ (v : List ℕ). eval g.A.App.next c.args.key (state_at L c.self.inside.core.base) ≡ Some v) c.call_at.result
    (λ v is.
    subst (λ (n : ℕ). eval g.A.App.next c.args.key (state_at L n) ≡ Some v) base
    (last_right g.A.App.next (state_at L core'.base) c.self.inside.core.answers core'.answers (given.Value c.args.key v) is right))
    c.call_at.ensures.after)

-- all objects are idle before and after, and of the same numbers
pub returns-clause-same : goal.returns-clause-same
returns-clause-same g c =
    let two = rested g.A.App.next c.self.inside.held c.call_at.new.registry c.call_at.new.core c.call_at.ensures.fits c.call_at.ensures.idle
    (holds_by g.A.App.next c.front.result.now.history c.self.inside.held c.self.inside.registry c.call_at.new.registry c.self.inside.core c.call_at.new.core c.front.ensures.history
    c.call_at.ensures.holds (c.self.invariant.1.holds c.self.inside.registry)) in
    let objects : c.call_at.new.registry ≡ c.self.inside.registry = idle_same c.call_at.new.registry c.self.inside.registry two.0 c.self.invariant.0 c.call_at.ensures.functions in
    let core' : RwValue = c.call_at.new.core in
    let now : RwTxnValue = record { core = core'; history = c.self.inside.held; objects = c.call_at.new.registry } in
    subst (λ (t : RwTxnValue). now ≡ record t { core = record t.core { queried = core'.queried; answers = core'.answers; call = core'.call } }) c.self.view_is
    (called c.self.inside.core core' c.self.inside.held c.self.inside.registry c.call_at.new.registry c.call_at.ensures.same c.self.invariant.1.reading objects)
