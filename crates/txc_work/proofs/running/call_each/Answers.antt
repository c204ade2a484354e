use Rattle.txc_call_registry.specs.Objects.{numbers_of}
use Rattle.txc_db.proofs.Refusing.{passed_up}
use Rattle.txc_work.specs.Batches.{IsRefusedAt}
use Rattle.txc_work.proofs.Calls.{refused_at}
use Rattle.txc_work.proofs.running.call_each.Goals as goal

pub returns-in_err-call-clause-refused : goal.returns-in_err-call-clause-refused
returns-in_err-call-clause-refused g c =
    let next = g.A.App.next in
    let row = g.J.Naming.database_history in
    let node_histories = g.J.Naming.node_histories in
    let objects = c.args.txn.now.txn.objects in
    let bounds = c.args.txn.now.txn.core.bounds in
    let keys = c.args.keys.now in
    passed_up c.from_residual.result c.in_err-call.field-0.0 (IsRefusedAt next row node_histories (numbers_of objects) bounds keys) c.from_residual.ensures.1
    (refused_at next row node_histories objects bounds keys c.loop-key.key-index c.key-item.result c.copy.result c.loop-key.txn c.call.new.self c.call.result c.in_err-call.field-0.0
    c.is_kept.ensures.valid c.is_kept.ensures.idle c.loop-key.invariant.functions c.loop-key-test.true c.key-item.is c.copy.ensures c.loop-key.invariant.answered c.loop-key.invariant.bounds c.in_err-call.was c.call.ensures.run)
