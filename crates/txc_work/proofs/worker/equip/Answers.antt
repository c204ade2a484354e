use Rattle.std.proofs.Common.{rules, ◌≡◌, sym}
use Rattle.std.proofs.lemmas.List.Elements.{All-head, All-push, All-rest, All-same}
use Rattle.txc_call_registry.specs.Objects.{numbers_of}
use Rattle.txc_txn_client.specs.RoTxn.{ClientValue}
use Rattle.txc_work.specs.Workers.{IsWorkerOf}
use Rattle.txc_work.proofs.worker.equip.Goals as goal

pub loop-client-preserved : goal.loop-client-preserved
loop-client-preserved g c =
    let of = IsWorkerOf c.args.jobs.now c.args.results.now g.B.Batch.functions in
    let has = λ (client : ClientValue). numbers_of client.objects ≡ g.B.Batch.functions in
    let rest = c.loop-client.invariant.3 in
    let its = All-head has _ _ (All-same has _ _ (sym c.in-Some.ensures.steps.0) rest) in (
      search rules,
      search rules,
      All-same of _ _ c.in_ok-push.ensures.items (All-push of _ _ c.loop-client.invariant.2 (search rules, search rules, its)),
      All-rest has _ _ _ c.in-Some.ensures.steps.0 rest,
    )
