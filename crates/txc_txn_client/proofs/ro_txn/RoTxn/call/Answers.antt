use Rattle.std.proofs.Common.{◌≡◌, ◌∙◌, sym, subst}
use Rattle.txc_txn_client.specs.Run.{HasRun}
use Rattle.txc_txn_client.specs.RoTxn.{RoTxnValue}
use Rattle.txc_txn_client.proofs.Grown.{as_many}
use Rattle.txc_txn_client.proofs.Idle.{all_idle, objects_stay}
use Rattle.txc_txn_client.proofs.Values.{value_of_result}
use Rattle.txc_txn_client.proofs.ro_txn.RoTxn.call.Goals as goal

pub invariant_of-self : goal.invariant_of-self
invariant_of-self g c =
    let called = c.call_at-result.ensures in (
      record {
        idle = called.idle;
        events = called.events;
        nodes = called.settings.nodes ∙ c.self.invariant.0.nodes ∙ sym (as_many c.self.inside.ports c.call_at-result.new.ports called.passes);
      },
      c.self.invariant.1 ∙ sym called.settings.renew_after,
    )

-- the value is the one that was recorded last
pub returns-clause-answer : goal.returns-clause-answer
returns-clause-answer g c =
    value_of_result g.A.App.next c.call_at-result.new.txn.core c.self.inside.txn.core.recorded c.args.key c.call_at-result.result c.is_kept-2.ensures.holds.valid.consistent c.call_at-result.ensures.recorded

pub returns-clause-run : goal.returns-clause-run
returns-clause-run g c =
    let after : RoTxnValue = record { txn = c.call_at-result.new.txn; passes = c.call_at-result.new.ports } in
    subst (λ (v : RoTxnValue). HasRun g.A.App.next g.J.Naming.database_history g.J.Naming.node_histories v c.args.key after c.call_at-result.result) c.self.view_is c.call_at-result.ensures.run

pub returns-clause-functions : goal.returns-clause-functions
returns-clause-functions g c =
    let next = g.A.App.next in
    subst (λ (v : RoTxnValue). c.call_at-result.new.txn.objects ≡ v.txn.objects) c.self.view_is
    (objects_stay next c.self.inside.txn c.is_kept.ensures c.self.invariant.0.idle c.call_at-result.new.txn.objects
    (all_idle next c.call_at-result.new.txn c.is_kept-2.ensures c.call_at-result.ensures.idle) c.call_at-result.ensures.functions)
